-- Remainders of powers: a loop that multiplies by a in each turn has the remainder of a^i after i turns.
-- Proves that such a loop goes on so, and that the square of a^(k / 2), and once more a where k is odd, is a^k. Assumes nothing.
use mathlib.Core.Path.{◌≡◌, refl, sym, ◌∙◌, ap}
use mathlib.Core.List.{List}
use mathlib.Core.Logic.{◌≢◌}
use Prim.Native.Nat.{ℕ, suc, ◌+◌, ◌/◌, ◌%◌}
use native.Mathlib.Numerals.{add-one}
use native.Mathlib.Omega.{arith}
use Rattle.algebra.specs.Numbers.{halves}
use Rattle.algebra.specs.Divisibility.{pow, pow_suc, pow_one, pow_add}
use Rattle.algebra.specs.PolynomialRing.{◌·◌}
use Rattle.algebra.specs.Degree.{Below}
use Rattle.algebra.specs.CoefficientLists.{ℤ[x]/, poly, Reduced, 𝓩[x]/}
use Rattle.algebra.specs.Congruence.{congruent_equal, congruent_mul}
use Rattle.quotients.specs.Remainder.{Remainder, remainder_as}

module _ (n : ℕ) (q : List ℕ) {d : ℕ} (a : ℤ[x]/ n) where
  pub power_more : (i : ℕ) {r v : List ℕ} → Remainder n q d r (pow (𝓩[x]/ n) a i) → Remainder n q d v (a · poly n r)
      → Remainder n q d v (pow (𝓩[x]/ n) a (i + 1))
  power_more i hr hv =
      rw (add-one, pow_suc (𝓩[x]/ n) a i)
      (remainder_as n hv
      (congruent_mul (𝓩[x]/ n) (congruent_equal (𝓩[x]/ n) refl) hr.congruent))

module _ (n : ℕ) (q : List ℕ) {d : ℕ} (a : List ℕ) where
  pub power_one : (k : ℕ) → k ≡ 1 → Reduced n 33 a → Below d (poly n a) → Remainder n q d a (pow (𝓩[x]/ n) (poly n a) k)
  power_one k e ha small = record {
    reduced = ha;
    small = small;
    congruent = congruent_equal (𝓩[x]/ n) (sym (ap (pow (𝓩[x]/ n) (poly n a)) e ∙ pow_one (𝓩[x]/ n) (poly n a)));
  }

  module _ (k : ℕ) {h s : List ℕ} (hh : Remainder n q d h (pow (𝓩[x]/ n) (poly n a) (k / 2))) (hs : Remainder n q d s (poly n h · poly n h)) where
    squared : Remainder n q d s (pow (𝓩[x]/ n) (poly n a) (k / 2 + k / 2))
    squared = rw (pow_add (𝓩[x]/ n) (poly n a) (k / 2) (k / 2)) (remainder_as n hs (congruent_mul (𝓩[x]/ n) hh.congruent hh.congruent))

    pub power_even : k % 2 ≡ 0 → Remainder n q d s (pow (𝓩[x]/ n) (poly n a) k)
    power_even e = rw (let same : k ≡ k / 2 + k / 2 = omega (arith, e, (halves k).1) in same) squared

    pub power_odd : k % 2 ≢ 0 → {r : List ℕ} → Remainder n q d r (poly n a · poly n s) → Remainder n q d r (pow (𝓩[x]/ n) (poly n a) k)
    power_odd e hr =
        rw (let same : k ≡ suc (k / 2 + k / 2) = omega (arith, e, (halves k).0, (halves k).1) in same)
        (rw (pow_suc (𝓩[x]/ n) (poly n a) (k / 2 + k / 2))
        (remainder_as n hr (congruent_mul (𝓩[x]/ n) (congruent_equal (𝓩[x]/ n) refl) squared.congruent)))
