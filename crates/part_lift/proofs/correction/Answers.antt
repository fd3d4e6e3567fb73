-- `part_lift::correction` meets its contract.
-- Assumes nothing.
use Rattle.algebra.specs.TakenPrimes.{is_prime_lem}
use Rattle.quotients.specs.Remainder.{remainder_divided}
use Rattle.part_lift.specs.Inverses.{inverse_is}
use Rattle.part_lift.specs.Correction.{correction_is}
use Rattle.part_lift.proofs.correction.Goals as goal

pub gcd-g-requires : goal.gcd-g-requires
gcd-g-requires c =
    let C = c.requires.0 in
    let D = c.divide-d.ensures in
    (is_prime_lem C.prime, C.positive, D.remainder, D.small)

pub returns : goal.returns
returns c =
    let (C, h, small) = c.requires in
    let (g, u, n) = c.gcd-g.ensures in
    correction_is C _ small (inverse_is C (remainder_divided _ c.divide-d.ensures) g u) c.product_modulo-t.ensures c.cofactor-y.ensures
