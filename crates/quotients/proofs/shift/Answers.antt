-- `quotients::shift` meets its contract.
-- Assumes nothing.
use Prim.Native.Nat.{◌≤◌}
use native.Mathlib.Numerals.{add-one}
use native.Mathlib.Omega.{arith}
use borrow.Author.Rules.{rules}
use Rattle.algebra.specs.Degree.{below_up}
use Rattle.arrays.specs.SameEntries.{zero_above}
use Rattle.modular.proofs.AddMultiple.{multiple_added_to}
use Rattle.quotients.specs.Shift.{moved_reduced, shifted}
use Rattle.quotients.proofs.shift.Goals as goal

pub move_up-requires : goal.move_up-requires
move_up-requires c =
    let l : c.args.q.now.degree ≤ 32 = omega (arith, c.args.q.now.monic.fits) in
    (omega (arith, c.requires.0.len), zero_above c.requires.0 (below_up l c.requires.1))

pub overflow_sub-c : goal.overflow_sub-c
overflow_sub-c c = omega (arith, (moved_reduced c.requires.0 c.move_up.ensures).low c.args.q.now.degree)

pub add_in_place-requires : goal.add_in_place-requires
add_in_place-requires c =
    let q = c.args.q.now.monic in
    let moved = moved_reduced c.requires.0 c.move_up.ensures in (
      search rules,
      omega (arith, q.fits, moved.len),
      omega (arith, moved.len, q.reduced.len),
      moved.low,
      q.reduced.low,
      zero_above q.reduced (rw add-one q.monic.below),
    )

pub returns : goal.returns
returns c =
    let pre = c.requires in
    let up = c.move_up.ensures in
    shifted pre.0 up pre.1 c.args.q.now.monic.monic (multiple_added_to _ _ _ _ (moved_reduced pre.0 up) c.add_in_place.ensures)
