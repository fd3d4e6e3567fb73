-- `modp_roots::divide_power` meets its contract.
-- Assumes nothing.
use Rattle.std.proofs.Common.{◌≡◌, refl, List, ℕ, ◌-◌, take, subst, arith}
use Rattle.std.proofs.Math.Nat.{sub-zero}
use Rattle.algebra.specs.Residues.{residue}
use Rattle.algebra.specs.PolynomialRing.{𝟎}
use Rattle.algebra.specs.CoefficientLists.{poly}
use Rattle.arrays.specs.Sizes.{Size, size_zero}
use Rattle.frobenius.specs.Evaluation.{monic_linear}
use Rattle.modp_roots.specs.BinomialDivision.{power_positive, moved_reduced, power_exact}
use Rattle.modp_roots.specs.DividedOut.{dividing_none, dividing_more, dividing_least}
use Rattle.modp_roots.proofs.divide_power.Goals as goal

nothing : {p z : ℕ} (k : ℕ) (w : List ℕ) → Size (take (k - 0) w) z → z ≡ 0 → poly p (take k w) ≡ 𝟎
nothing {z = z} k w s e = size_zero (subst (λ (t : ℕ). Size (take t w) z) (sub-zero k) s) e

pub loop-left-init : goal.loop-left-init
loop-left-init c = (dividing_none c.args.a.monic.reduced c.args.a.monic.monic, refl)

pub divide_binomial-requires : goal.divide_binomial-requires
divide_binomial-requires c =
    let pre = c.requires in
    let D = c.loop-left.invariant.0 in (
      pre.1,
      pre.2,
      power_positive pre.0 pre.3,
      c.loop-left-test.true,
      omega (arith, dividing_least D, D.reduced.len, c.args.a.monic.fits),
      D.reduced.low,
      D.monic.below,
    )

pub loop-left-smaller : goal.loop-left-smaller
loop-left-smaller c = let pre = c.requires in omega (arith, power_positive pre.0 pre.3)

pub loop-left-preserved : goal.loop-left-preserved
loop-left-preserved c =
    let pre = c.requires in
    let k = c.args.k in
    let Q = c.divide_binomial.ensures in
    let M = c.move_down.ensures in
    let none = nothing k _ c.size_below.ensures (omega arith) in
    (dividing_more c.loop-left.invariant.0 pre.0 (monic_linear (residue _ _)) k (omega arith) (moved_reduced Q M) (power_exact Q M pre.0 pre.3 none), refl)
