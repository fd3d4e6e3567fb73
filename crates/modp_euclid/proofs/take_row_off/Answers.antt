-- `modp_euclid::take_row_off` meets its contract.
-- Assumes nothing.
use Rattle.std.proofs.Common.{◌-◌, rules, arith}
use Rattle.algebra.specs.Degree.{below_up}
use Rattle.arrays.specs.SameEntries.{zero_above}
use Rattle.arrays.specs.Sizes.{below_size}
use Rattle.modular.proofs.AddMultiple.{lent_part, lent_added}
use Rattle.modp_euclid.specs.MonicMultiples.{monic_by_inverse}
use Rattle.modp_euclid.specs.RowTakenOff.{taking_row_none, taking_row_more, taking_row_passed}
use Rattle.modp_euclid.proofs.take_row_off.Goals as goal

pub loop-high-init : goal.loop-high-init
loop-high-init c = let h = c.requires in taking_row_none h.1 h.3

pub add_by-requires-then-q-ne0 : goal.add_by-requires-then-q-ne0
add_by-requires-then-q-ne0 c =
    let h = c.requires in
    let inv = c.loop-high.invariant in
    rw c.new-modulus.ensures
    (lent_part _ _ _ inv.cofactor.reduced h.3.divisor.cofactor h.3.divisor.small (omega (arith, inv.limit, h.2)) (search rules))

pub loop-high-preserved-then-q-ne0 : goal.loop-high-preserved-then-q-ne0
loop-high-preserved-then-q-ne0 c =
    let h = c.requires in
    let inv = c.loop-high.invariant in
    let coefficient = c.times-q.ensures in
    let by = monic_by_inverse h.0 h.3.size c.inverse-unit.ensures.1 in
    taking_row_more h.3 by _ (omega arith) (omega arith) coefficient.0 coefficient.1 inv
    (lent_added _ _ _ _ _ inv.division.remainder (below_size _ h.3.size) (omega (arith, inv.division.limit)) (rw c.new-modulus.ensures at c.add_by.ensures))
    (lent_added _ _ _ _ _ inv.cofactor.reduced h.3.divisor.small (omega (arith, inv.limit, h.2)) (rw c.new-modulus.ensures at c.add_by-then-q-ne0.ensures))

pub loop-high-preserved : goal.loop-high-preserved
loop-high-preserved c =
    let h = c.requires in
    let coefficient = c.times-q.ensures in
    let by = monic_by_inverse h.0 h.3.size c.inverse-unit.ensures.1 in
    taking_row_passed h.3 by (c.loop-high.high - 1 - c.args.e) (omega arith) (omega arith) coefficient.0 coefficient.1 c.loop-high.invariant (omega arith)

pub size_below-requires : goal.size_below-requires
size_below-requires c =
    let h = c.requires.3 in
    let left = c.loop-high.invariant.division in (
      omega (arith, h.size.limit),
      omega (arith, h.size.limit, left.remainder.len),
      zero_above left.remainder (below_up (omega (arith, c.loop-high-test.false)) left.small),
    )
