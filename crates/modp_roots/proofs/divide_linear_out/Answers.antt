-- `modp_roots::divide_linear_out` meets its contract.
-- Assumes nothing.
use Rattle.std.proofs.Common.{refl, arith}
use Rattle.algebra.specs.Residues.{residue}
use Rattle.frobenius.specs.Evaluation.{monic_linear}
use Rattle.modp_roots.specs.LinearDivision.{quotient_reduced, linear_exact, linear_not_divides}
use Rattle.modp_roots.specs.DividedOut.{dividing_none, dividing_once, dividing_stops, dividing_done}
use Rattle.modp_roots.proofs.divide_linear_out.Goals as goal

pub loop-left-init : goal.loop-left-init
loop-left-init c = (dividing_none c.args.a.monic.reduced c.args.a.monic.monic, refl)

pub returns-then-r-ne0 : goal.returns-then-r-ne0
returns-then-r-ne0 c =
    let (D, same) = c.loop-left.invariant in
    (dividing_stops D (linear_not_divides c.divide_linear-r.ensures (omega arith)), same)

pub loop-left-preserved : goal.loop-left-preserved
loop-left-preserved c =
    let D = c.loop-left.invariant.0 in
    let Q = c.divide_linear-r.ensures in
    (dividing_once D c.requires.0 (monic_linear (residue _ _)) (quotient_reduced Q D.reduced) (linear_exact Q (omega arith)), refl)

pub returns : goal.returns
returns c =
    let (D, same) = c.loop-left.invariant in
    (dividing_done D c.requires.0 (monic_linear (residue _ _)) (omega (arith, c.loop-left-test.false)), same)
