-- Successive remainders of Euclid's algorithm over ℤ/p without cofactors: `Successive`, their shape; `SameDivisors`, their common divisors are those of
-- a and b; `Reached`, both of these hold.
-- Proves that the latter and what it leaves of the former come after the two, and that b and a are the first. Assumes nothing.
use Rattle.std.specs.Prelude.{List, ℕ, ◌≤◌, ◌<◌, ◌+◌, ◌-◌}
use Rattle.std.proofs.Common.{le_refl, arith}
use Rattle.algebra.specs.Divisibility.{◌∣◌, divides_mul, divides_add, divides_sub}
use Rattle.algebra.specs.Degree.{Below, Monic}
use Rattle.algebra.specs.CoefficientLists.{ℤ[x]/, poly, Reduced, 𝓩[x]/}
use Rattle.arrays.specs.Sizes.{Size, size_small, size_monic}
use Rattle.modp_euclid.specs.TakenOff.{TakenOff, fewer_left}

-- two successive remainders: the former has as many terms as is said, the latter the size
pub record Remainders : Type 0 where
  pub former : List ℕ
  pub terms : ℕ
  pub latter : List ℕ
  pub size : ℕ

-- the former is not 0, and the latter of lower degree
pub record Successive (p : ℕ) (w : Remainders) : Type 0 where
  pub former : Reduced p 33 w.former
  pub latter : Reduced p 33 w.latter
  pub leading : Size w.former w.terms
  pub size : Size w.latter w.size
  pub fewer : w.size < w.terms

-- the common divisors of a and b are those of the two remainders
pub record SameDivisors (p : ℕ) (a b : List ℕ) (w : Remainders) : Type 0 where
  pub up : (h : ℤ[x]/ p) → ◌∣◌ (𝓩[x]/ p) h (poly p w.former) → ◌∣◌ (𝓩[x]/ p) h (poly p w.latter)
      → ◌∣◌ (𝓩[x]/ p) h (poly p a) × ◌∣◌ (𝓩[x]/ p) h (poly p b)
  pub down : (h : ℤ[x]/ p) → ◌∣◌ (𝓩[x]/ p) h (poly p a) → ◌∣◌ (𝓩[x]/ p) h (poly p b)
      → ◌∣◌ (𝓩[x]/ p) h (poly p w.former) × ◌∣◌ (𝓩[x]/ p) h (poly p w.latter)

-- Euclid's algorithm for a and b, which is of degree d, comes to the two remainders
pub record Reached (p : ℕ) (a b : List ℕ) (d : ℕ) (w : Remainders) : Type 0 where
  pub successive : Successive p w
  pub limit : w.terms ≤ d + 1
  pub same : SameDivisors p a b w

-- b, and a, which has d terms, are the first
pub reached_first : {p d s : ℕ} {a b : List ℕ} → 1 < p → d < 33 → Reduced p 33 a → Reduced p 33 b → Below d (poly p a) → Monic d (poly p b) → Size a s
    → Reached p a b d (record { former = b; terms = d + 1; latter = a; size = s })
reached_first {d = d} l fits ha hb h m z = record {
  successive = record { former = hb; latter = ha; leading = size_monic l fits hb m; size = z; fewer = omega (arith, size_small ha h z) };
  limit = le_refl (d + 1);
  same = record { up = λ h hb ha. (ha, hb); down = λ h ha hb. (hb, ha) };
}

-- then come the latter and what it leaves of the former
pub reached_next : {p d s : ℕ} {a b r : List ℕ} {w : Remainders} → Reached p a b d w → 0 < w.size
    → TakenOff p w.former w.latter (w.size - 1) r s → Reached p a b d (record { former = w.latter; terms = w.size; latter = r; size = s })
reached_next {p} {w = w} before pos taken = record {
  successive = record {
    former = h.latter;
    latter = taken.divided.remainder;
    leading = h.size;
    size = taken.size;
    fewer = fewer_left pos taken.divided taken.size;
  };
  limit = omega (arith, h.fewer, before.limit);
  same = record {
    up = λ k hf hr. before.same.up k
        (rw (← taken.divided.law) (divides_add (𝓩[x]/ p) (divides_mul (𝓩[x]/ p) (poly p taken.quotient) hf) hr)) hf;
    down = λ k ha hb.
        let both = before.same.down k ha hb in
        (both.1, divides_sub (𝓩[x]/ p) (divides_mul (𝓩[x]/ p) (poly p taken.quotient) both.1) (rw taken.divided.law both.0));
  };
}
  where
    h : Successive p w
    h = before.successive
