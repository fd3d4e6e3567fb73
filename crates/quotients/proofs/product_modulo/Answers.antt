-- `quotients::product_modulo` meets its contract.
-- Assumes nothing.
use Prim.Native.Nat.{◌-◌}
use native.Mathlib.Omega.{arith}
use borrow.Author.Rules.{rules}
use Rattle.arrays.specs.SameEntries.{zero_above}
use Rattle.modular.proofs.AddMultiple.{multiple_added_to}
use Rattle.quotients.proofs.HornerLoop.{horner_none, horner_more}
use Rattle.quotients.proofs.product_modulo.Goals as goal

pub loop-i-init : goal.loop-i-init
loop-i-init c = horner_none _ _ _ _ (omega (arith, c.requires.0.low 0)) c.size-i.ensures

pub add_in_place-requires : goal.add_in_place-requires
add_in_place-requires c =
    let pre = c.requires in
    let moved = c.shift.ensures.reduced in (
      omega (arith, pre.0.low (c.loop-i.i - 1)),
      omega (arith, c.args.q.monic.fits, moved.len),
      omega (arith, moved.len, pre.1.len),
      moved.low,
      pre.1.low,
      zero_above pre.1 pre.2,
    )

pub loop-i-preserved : goal.loop-i-preserved
loop-i-preserved c =
    let pre = c.requires in
    let i = c.loop-i.i in
    let moved = c.shift.ensures in
    horner_more _ _ _ _ pre.2 _ _ _ i (i - 1) (search rules) (search rules) c.loop-i.invariant moved
    (multiple_added_to _ _ _ _ moved.reduced c.add_in_place.ensures)
