-- `part_lift::cut_off` meets its contract.
-- Assumes nothing.
use Rattle.std.proofs.Common.{refl, arith, add-one, ◌-◌}
use Rattle.specification.specs.Limits.{◌²}
use Rattle.algebra.specs.Numbers.{square_least}
use Rattle.algebra.specs.TakenPrimes.{is_positive}
use Rattle.arrays.specs.SameEntries.{reduced_square, below_modulo}
use Rattle.division.specs.DivisionLoop.{DividedBy}
use Rattle.part_lift.specs.Inverses.{CoprimePair}
use Rattle.part_lift.specs.FirstDivision.{over_reduced, over_small, pair}
use Rattle.part_lift.specs.CutOff.{CutOff, cut_off_is}
use Rattle.part_lift.proofs.cut_off.Goals as goal
use Rattle.part_lift.proofs.cut_off.Goals.{After-modulo-c, After-add_multiple-rest}

pub overflow_sub-left : goal.overflow_sub-left
overflow_sub-left c = omega (arith, c.requires.0.less)

pub divide_in_place-requires : goal.divide_in_place-requires
divide_in_place-requires c =
    let f = c.requires.0.monic.array in
    (rw c.requires.2 f.reduced, refl, omega (arith, f.fits), rw (c.requires.2, add-one) f.monic.below)

pub modulo-a-requires : goal.modulo-a-requires
modulo-a-requires c = is_positive c.requires.0.monic.prime

pub modulo-c-requires : goal.modulo-c-requires
modulo-c-requires c = is_positive c.requires.0.monic.prime

pub over-h-requires : goal.over-h-requires
over-h-requires c = is_positive c.requires.0.monic.prime

module _ (c : After-modulo-c) where
  divided : DividedBy (c.args.p ²) c.args.f.coefs c.args.b.coefs c.args.b.degree c.divide_in_place.new.q c.divide_in_place.new.a
  divided = rw c.requires.2 at c.divide_in_place.ensures

  coprime : CoprimePair c.args.p c.modulo-a.result (c.args.f.degree - c.args.b.degree) c.modulo-c.result c.args.b.degree
  coprime = pair c.requires.0 divided c.modulo-a.ensures c.modulo-c.ensures

pub invariant_of-quotient : goal.invariant_of-quotient
invariant_of-quotient c =
    let C = coprime (goal.at.invariant_of-quotient c).After-modulo-c in
    record { monic = record { fits = omega (arith, C.fits); reduced = C.first; monic = C.monic_first } }

pub invariant_of-base : goal.invariant_of-base
invariant_of-base c =
    let C = coprime (goal.at.invariant_of-base c).After-modulo-c in
    record { monic = record { fits = omega (arith, C.fits); reduced = C.second; monic = C.monic_second } }

pub correction-s-requires : goal.correction-s-requires
correction-s-requires c =
    let before = (goal.at.correction-s-requires c).After-modulo-c in
    let D = divided before in (
      coprime before,
      over_reduced _ _ c.over-h.ensures (is_positive c.requires.0.monic.prime) D.remainder,
      over_small _ _ c.over-h.ensures D.remainder D.small,
    )

pub add_multiple-part-requires : goal.add_multiple-part-requires
add_multiple-part-requires c =
    let b = c.args.b.monic in
    let T = c.correction-s.ensures in
    (rw c.requires.2 (square_least _), b.reduced, rw c.requires.2 (reduced_square T.part), below_modulo _ T.part T.small_part, omega (arith, b.fits))

pub add_multiple-rest-requires : goal.add_multiple-rest-requires
add_multiple-rest-requires c =
    let f = c.args.f.monic in
    let T = c.correction-s.ensures in
    (omega arith, c.divide_in_place.ensures.quotient, rw c.requires.2 (reduced_square T.rest), below_modulo _ T.rest T.small_rest, omega (arith, f.fits))

-- the factor, and what it leaves
cut : (c : After-add_multiple-rest)
    → CutOff c.args.p c.args.f.coefs c.args.f.degree c.args.b.coefs c.args.b.degree c.add_multiple-part.result c.add_multiple-rest.result
cut c =
    cut_off_is c.requires.0 (rw c.requires.2 at c.divide_in_place.ensures) c.modulo-a.ensures c.modulo-c.ensures c.over-h.ensures c.correction-s.ensures
    (rw c.requires.2 at c.add_multiple-part.ensures) (rw c.requires.2 at c.add_multiple-rest.ensures)

pub invariant_of-result : goal.invariant_of-result
invariant_of-result c = record { monic = rw c.requires.2 (cut (goal.at.invariant_of-result c).After-add_multiple-rest).part }

pub invariant_of-result-2 : goal.invariant_of-result-2
invariant_of-result-2 c = record { monic = rw c.requires.2 (cut (goal.at.invariant_of-result-2 c).After-add_multiple-rest).rest }

pub returns : goal.returns
returns c = (cut (goal.at.returns c).After-add_multiple-rest, refl, refl, c.requires.2, c.requires.2)
