-- `modp_euclid::take_off` meets its contract.
-- Assumes nothing.
use Rattle.std.proofs.Common.{◌-◌, arith}
use Rattle.algebra.specs.Degree.{below_up}
use Rattle.arrays.specs.SameEntries.{zero_above}
use Rattle.arrays.specs.Sizes.{below_size}
use Rattle.modular.proofs.AddMultiple.{lent_added}
use Rattle.modp_euclid.specs.MonicMultiples.{monic_by_inverse}
use Rattle.modp_euclid.specs.TakenOff.{taking_none, taking_more, taking_passed}
use Rattle.modp_euclid.proofs.take_off.Goals as goal

pub loop-top-init : goal.loop-top-init
loop-top-init c = let h = c.requires in taking_none h.1 h.2 h.3

pub loop-top-preserved-then-c-ne0 : goal.loop-top-preserved-then-c-ne0
loop-top-preserved-then-c-ne0 c =
    let h = c.requires in
    let inv = c.loop-top.invariant in
    let coefficient = c.times-c.ensures in
    let by = monic_by_inverse h.0 h.5 c.inverse-unit.ensures.1 in
    taking_more by _ (omega arith) (omega arith) coefficient.0 coefficient.1 inv
    (lent_added _ _ _ _ _ inv.division.remainder (below_size _ h.5) (omega (arith, inv.division.limit)) (rw c.new-modulus.ensures at c.add_by.ensures))

pub loop-top-preserved : goal.loop-top-preserved
loop-top-preserved c =
    let h = c.requires in
    let coefficient = c.times-c.ensures in
    let by = monic_by_inverse h.0 h.5 c.inverse-unit.ensures.1 in
    taking_passed by (c.loop-top.top - 1 - c.args.e) (omega arith) (omega arith) coefficient.0 coefficient.1 c.loop-top.invariant (omega arith)

pub size_below-requires : goal.size_below-requires
size_below-requires c =
    let h = c.requires in
    let left = c.loop-top.invariant.division in (
      omega (arith, h.5.limit),
      omega (arith, h.5.limit, left.remainder.len),
      zero_above left.remainder (below_up (omega (arith, c.loop-top-test.false)) left.small),
    )
