-- Powers by squaring: a^k from a^(k / 2).
-- Proves that a is its first power, that the square of a^(k / 2), and once more a where k is odd, is a^k, and how many terms they have. Assumes nothing.
use mathlib.Core.Path.{◌≡◌, sym, ◌∙◌, ap, ap₂}
use mathlib.Core.List.{List}
use mathlib.Core.Logic.{◌≢◌}
use Prim.Native.Nat.{ℕ, suc, ◌≤◌, ◌+◌, ◌*◌, ◌/◌, ◌%◌}
use native.Mathlib.Nat.{mul-le-mul_right}
use native.Mathlib.Numerals.{add-one}
use native.Mathlib.Omega.{arith}
use Rattle.algebra.specs.Numbers.{halves}
use Rattle.algebra.specs.Divisibility.{pow, pow_suc, pow_one, pow_add}
use Rattle.algebra.specs.PolynomialRing.{◌·◌}
use Rattle.algebra.specs.Degree.{Below, Monic, monic_pow, monic_mul_lem}
use Rattle.algebra.specs.CoefficientLists.{poly, Reduced, 𝓩[x]/}
use Rattle.arrays.specs.Represents.{Represents}

-- the degrees of a, of a^(k / 2) and of its square
pub half_room : (k d : ℕ) → 1 ≤ k → k * d ≤ 32 → (d ≤ 32) × (k / 2 * d ≤ 32) × (2 * (k / 2 * d) ≤ 32) × (k % 2 ≢ 0 → d + 2 * (k / 2 * d) ≤ 32)
half_room k d l room = (
  omega (arith, mul-le-mul_right d l),
  omega (arith, twice),
  omega (arith, twice),
  λ odd. omega (arith, mul-le-mul_right d (let u : 1 + 2 * (k / 2) ≤ k = omega (arith, odd, (halves k).0, (halves k).1) in u)),
)
  where
    twice : 2 * (k / 2) * d ≤ k * d
    twice = mul-le-mul_right d (let u : 2 * (k / 2) ≤ k = omega (arith, (halves k).1) in u)

module _ (n : ℕ) (a : List ℕ) where
  pub power_one : (k : ℕ) → k ≡ 1 → Reduced n 33 a → Represents n a (pow (𝓩[x]/ n) (poly n a) k)
  power_one k e ha = record { reduced = ha; is = sym (ap (pow (𝓩[x]/ n) (poly n a)) e ∙ pow_one (𝓩[x]/ n) (poly n a)) }

  pub power_below : (k : ℕ) {d : ℕ} {r : List ℕ} → Monic d (poly n a) → Represents n r (pow (𝓩[x]/ n) (poly n a) k) → Below (k * d + 1) (poly n r)
  power_below k m h = rw (add-one, h.is) (monic_pow m k).below

  module _ (k : ℕ) {h s : List ℕ} (hh : Represents n h (pow (𝓩[x]/ n) (poly n a) (k / 2))) (hs : Represents n s (poly n h · poly n h)) where
    squared : poly n s ≡ pow (𝓩[x]/ n) (poly n a) (k / 2 + k / 2)
    squared = hs.is ∙ ap₂ ◌·◌ hh.is hh.is ∙ sym (pow_add (𝓩[x]/ n) (poly n a) (k / 2) (k / 2))

    pub square_below : {d : ℕ} → Monic d (poly n a) → Below (2 * (k / 2 * d) + 1) (poly n s)
    square_below {d} m =
        rw (add-one, let e : 2 * (k / 2 * d) ≡ k / 2 * d + k / 2 * d = omega arith in e)
        (rw (hs.is ∙ ap₂ ◌·◌ hh.is hh.is) (monic_mul_lem (monic_pow m (k / 2)) (monic_pow m (k / 2))).below)

    pub power_even : k % 2 ≡ 0 → Represents n s (pow (𝓩[x]/ n) (poly n a) k)
    power_even e = record {
      reduced = hs.reduced;
      is = squared ∙ ap (pow (𝓩[x]/ n) (poly n a)) (let same : k / 2 + k / 2 ≡ k = omega (arith, e, (halves k).1) in same);
    }

    pub power_odd : k % 2 ≢ 0 → {r : List ℕ} → Represents n r (poly n a · poly n s) → Represents n r (pow (𝓩[x]/ n) (poly n a) k)
    power_odd e hr = record {
      reduced = hr.reduced;
      is = hr.is ∙ ap (λ b. poly n a · b) squared ∙ sym (pow_suc (𝓩[x]/ n) (poly n a) (k / 2 + k / 2))
          ∙ ap (pow (𝓩[x]/ n) (poly n a)) (let same : suc (k / 2 + k / 2) ≡ k = omega (arith, e, (halves k).0, (halves k).1) in same);
    }
