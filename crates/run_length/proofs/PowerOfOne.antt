-- Powers of x from the array of x^0, as `arrays::monomial` gives it.
-- Proves that it is the remainder of x^0, and that multiplied by x^k it leaves the remainder of x^k. Assumes nothing.
use mathlib.Core.Path.{◌≡◌, ◌∙◌, ap, subst}
use mathlib.Core.List.{List}
use Prim.Native.Nat.{ℕ, ◌<◌}
use Rattle.algebra.specs.Ring.{mul_one}
use Rattle.algebra.specs.Divisibility.{pow_zero}
use Rattle.algebra.specs.PolynomialRing.{◌·◌, x}
use Rattle.algebra.specs.Degree.{below_up, monic_pow_x}
use Rattle.algebra.specs.CoefficientLists.{poly, 𝓩[x]/}
use Rattle.algebra.specs.Congruence.{congruent_equal}
use Rattle.algebra.specs.Monomials.{x^}
use Rattle.arrays.specs.MonomialArray.{IsMonomial, monomial_represents}
use Rattle.quotients.specs.Remainder.{Remainder}

module _ {n : ℕ} (large : 1 < n) {o : List ℕ} (one : IsMonomial 0 o) where
  is_one : poly n o ≡ x^ 0
  is_one = (monomial_represents one large).is

  pub one_power : {q : List ℕ} {d : ℕ} → 0 < d → Remainder n q d o (x^ 0)
  one_power pos = record {
    reduced = (monomial_represents one large).reduced;
    small = rw is_one (below_up pos (monic_pow_x 0).below);
    congruent = congruent_equal (𝓩[x]/ n) is_one;
  }

  pub power_of_one : (k : ℕ) {q : List ℕ} {d : ℕ} {r : List ℕ} → Remainder n q d r (x^ k · poly n o) → Remainder n q d r (x^ k)
  power_of_one k {q} {d} {r} h =
      subst (Remainder n q d r) (ap (λ a. x^ k · a) (is_one ∙ pow_zero (𝓩[x]/ n) x) ∙ mul_one (𝓩[x]/ n) (x^ k)) h
