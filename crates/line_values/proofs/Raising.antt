-- The loop of a power: after i turns the array r is f to the power i modulo n, where f has degree d at most.
-- Proves it of 1, after one factor more, and how many terms it leaves. Assumes nothing.
use mathlib.Core.Path.{sym, ◌∙◌, ap}
use mathlib.Core.List.{List}
use Prim.Native.Nat.{ℕ, suc, ◌+◌, ◌*◌, ◌<◌, ◌≤◌}
use native.Mathlib.Nat.{mul-le-mul_right}
use native.Mathlib.Numerals.{add-one}
use native.Mathlib.Omega.{arith}
use Rattle.algebra.specs.Divisibility.{pow, pow_zero, pow_suc}
use Rattle.algebra.specs.PolynomialRing.{◌·◌, x}
use Rattle.algebra.specs.Degree.{Below, below_pow}
use Rattle.algebra.specs.CoefficientLists.{𝓩[x]/, poly}
use Rattle.arrays.specs.Represents.{Represents}
use Rattle.arrays.specs.MonomialArray.{IsMonomial, monomial_represents}

pub raised_none : {n : ℕ} (f : List ℕ) {r : List ℕ} → 1 < n → IsMonomial 0 r → Represents n r (pow (𝓩[x]/ n) (poly n f) 0)
raised_none {n} f large m =
    let one = monomial_represents m large in
    record { reduced = one.reduced; is = one.is ∙ pow_zero (𝓩[x]/ n) x ∙ sym (pow_zero (𝓩[x]/ n) (poly n f)) }

module _ {n : ℕ} (f : List ℕ) (i : ℕ) {r : List ℕ} (h : Represents n r (pow (𝓩[x]/ n) (poly n f) i)) where
  pub raised_more : {next : List ℕ} → Represents n next (poly n f · poly n r) → Represents n next (pow (𝓩[x]/ n) (poly n f) (i + 1))
  raised_more rep = record {
    reduced = rep.reduced;
    is = rep.is ∙ ap (λ g. poly n f · g) h.is ∙ sym (pow_suc (𝓩[x]/ n) (poly n f) i) ∙ ap (pow (𝓩[x]/ n) (poly n f)) (sym (add-one i));
  }

  -- where f has degree d at most, r has i times d
  pub raised_below : {d : ℕ} → Below (suc d) (poly n f) → Below (i * d + 1) (poly n r)
  raised_below {d} low = rw (h.is, add-one) (below_pow low i)

-- one factor more still fits an array
pub raised_fits : (i d : ℕ) {e : ℕ} → i < e → e * d ≤ 32 → d + (i * d + 1) ≤ 33
raised_fits i d {e} l fits = omega (arith, mul-le-mul_right d (let q : suc i ≤ e = omega arith in q))
