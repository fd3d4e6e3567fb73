-- `part_values::divided_by_exponent` meets its contract: m modulo p is a unit, so it has an inverse.
-- Assumes nothing.
use Rattle.std.proofs.Common.{sym, pos_of_ne-zero}
use Rattle.algebra.specs.TakenPrimes.{is_prime_lem}
use Rattle.part_values.specs.Given.{large}
use Rattle.part_values.proofs.Scaled.{divided_by, is_u}
use Rattle.part_values.proofs.divided_by_exponent.Goals as goal

pub inverse-c-requires : goal.inverse-c-requires
inverse-c-requires c =
    let (W, unit, low) = c.requires in
    let (is, less) = c.reduce-a.ensures in
    (is_prime_lem W.given.prime, rw is (pos_of_ne-zero unit), less)

pub returns : goal.returns
returns c any =
    let (W, unit, low) = c.requires in
    let (below, one) = c.inverse-c.ensures in
    let is = c.reduce-a.ensures.0 in
    is_u any.given any.chosen any.are unit low (divided_by _ _ _ (large W.given) below (rw (sym is) one) _ c.multiple.ensures)
