-- `modp_halves::less_constant` meets its contract.
-- Assumes nothing.
use Rattle.std.proofs.Common.{◌∙◌, arith, rules}
use Rattle.algebra.specs.Divisibility.{pow_zero}
use Rattle.algebra.specs.PolynomialRing.{x}
use Rattle.algebra.specs.CoefficientLists.{𝓩[x]/}
use Rattle.arrays.specs.MonomialArray.{monomial_represents, monomial_monic}
use Rattle.modp_halves.specs.Halves.{less_constant}
use Rattle.modp_halves.proofs.less_constant.Goals as goal

pub add_multiple-requires : goal.add_multiple-requires
add_multiple-requires c =
    let one = monomial_monic c.monomial-one.ensures c.requires.2 in
    (search rules, c.requires.0, one.reduced, one.monic.below, search rules)

pub returns : goal.returns
returns c =
    let one = monomial_represents c.monomial-one.ensures c.requires.2 in
    less_constant _ _ _ _ _ (omega (arith, c.requires.2)) c.requires.1 (one.is ∙ pow_zero (𝓩[x]/ _) x) c.add_multiple.ensures
