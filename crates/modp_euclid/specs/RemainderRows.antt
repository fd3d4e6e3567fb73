-- The remainders of Euclid's algorithm for a and b over ℤ/p: `Leaves`, what a row says; `MonicRow`, a row made monic; `Formed` and
-- `Combined`, the shape of two successive rows, and what they have to do with a and b.
-- Proves that a row made monic says the same, and that b and a are the first two remainders. Assumes nothing.
use Rattle.std.specs.Prelude.{◌≡◌, refl, List, ◌∷◌, ℕ, ◌≤◌, ◌<◌, ◌+◌, ◌-◌, replicate}
use Rattle.std.proofs.Common.{◌∙◌, ap, le_refl, arith}
use Rattle.algebra.specs.Ring.{zero_mul, one_mul}
use Rattle.algebra.specs.Identities.{◌⊗◌, ◌≈◌, solve}
use Rattle.algebra.specs.Divisibility.{◌∣◌, divides_refl}
use Rattle.algebra.specs.Residues.{residue}
use Rattle.algebra.specs.PolynomialRing.{◌·◌, constant}
use Rattle.algebra.specs.Degree.{Below, Monic, below_up, below_constant_mul, below_𝟎}
use Rattle.algebra.specs.CoefficientLists.{ℤ[x]/, poly, Reduced, 𝓩[x]/}
use Rattle.algebra.specs.Congruence.{Congruent, congruent_sym, congruent_equal, congruent_mul, congruent_zero}
use Rattle.arrays.specs.Represents.{Represents, zeros, unit, below_unit}
use Rattle.arrays.specs.Sizes.{Size, size_small, size_monic}
use Rattle.modp_euclid.specs.MonicMultiples.{MonicMultipleOf}

-- a remainder of Euclid's algorithm for a and b, and the cofactor of a
pub record Row : Type 0 where
  pub remainder : List ℕ
  pub cofactor : List ℕ

-- two successive remainders: the former has as many terms as is said, the latter the size
pub record Rows : Type 0 where
  pub former : Row
  pub terms : ℕ
  pub latter : Row
  pub size : ℕ

-- cofactor·a leaves the remainder modulo b
abbrev pub Leaves : (p : ℕ) → List ℕ → List ℕ → Row → Type 0
Leaves p a b r = Congruent (𝓩[x]/ p) (poly p b) (poly p r.cofactor · poly p a) (poly p r.remainder)

-- the remainder and the cofactor are reduced, and the cofactor has t terms
pub record ReducedRow (p t : ℕ) (r : Row) : Type 0 where
  pub remainder : Reduced p 33 r.remainder
  pub cofactor : Reduced p 33 r.cofactor
  pub small : Below t (poly p r.cofactor)

-- f is a constant times r, and monic of degree e
pub record MonicRow (p t e : ℕ) (r f : Row) : Type 0 where
  pub reduced : ReducedRow p t f
  pub unit : ℕ
  pub remainder : MonicMultipleOf p r.remainder e f.remainder unit
  pub cofactor : poly p f.cofactor ≡ constant (residue p unit) · poly p r.cofactor

-- the former remainder is not 0, and the latter of lower degree; where b is of degree d, the former's terms bound those of both cofactors
pub record Formed (p d : ℕ) (w : Rows) : Type 0 where
  pub former : ReducedRow p (d + 1 - w.terms) w.former
  pub latter : ReducedRow p (d + 2 - w.terms) w.latter
  pub leading : Size w.former.remainder w.terms
  pub limit : w.terms ≤ d + 1
  pub size : Size w.latter.remainder w.size
  pub fewer : w.size < w.terms

-- a common divisor of the two remainders divides a and b
pub record Combined (p : ℕ) (a b : List ℕ) (w : Rows) : Type 0 where
  pub former : Leaves p a b w.former
  pub latter : Leaves p a b w.latter
  pub common : (g : ℤ[x]/ p) → ◌∣◌ (𝓩[x]/ p) g (poly p w.former.remainder)
      → ◌∣◌ (𝓩[x]/ p) g (poly p w.latter.remainder)
      → ◌∣◌ (𝓩[x]/ p) g (poly p a) × ◌∣◌ (𝓩[x]/ p) g (poly p b)

-- the first two rows: b = 0·a modulo b, and a = 1·a
abbrev pub first : List ℕ → List ℕ → ℕ → ℕ → Rows
first a b d s = record {
  former = record { remainder = b; cofactor = replicate 33 0 };
  terms = d + 1;
  latter = record { remainder = a; cofactor = 1 ∷ replicate 32 0 };
  size = s;
}

module _ {p : ℕ} where
  pub row_up : {t k : ℕ} {r : Row} → t ≤ k → ReducedRow p t r → ReducedRow p k r
  row_up l h = record { remainder = h.remainder; cofactor = h.cofactor; small = below_up l h.small }

  -- the monic multiple of the remainder, with the same multiple of the cofactor
  pub monic_row : {t e c : ℕ} {r f : Row} → ReducedRow p t r → MonicMultipleOf p r.remainder e f.remainder c
      → Represents p f.cofactor (constant (residue p c) · poly p r.cofactor) → MonicRow p t e r f
  monic_row {c = c} h m k = record {
    reduced = record {
      remainder = m.multiple.reduced;
      cofactor = k.reduced;
      small = rw k.is (below_constant_mul (residue p c) h.small);
    };
    unit = c;
    remainder = m;
    cofactor = k.is;
  }

  pub leaves_monic : (a b : List ℕ) {t e : ℕ} {r f : Row} → MonicRow p t e r f → Leaves p a b r → Leaves p a b f
  leaves_monic a b {r = r} m h =
      rw (
        m.cofactor,
        m.remainder.multiple.is,
        solve (𝓩[x]/ p) 3 (λ c u a. c ⊗ u ⊗ a ≈ c ⊗ (u ⊗ a)) tt (constant (residue p m.unit)) (poly p r.cofactor) (poly p a),
      )
      (congruent_mul (𝓩[x]/ p) (congruent_equal (𝓩[x]/ p) refl) h)

module _ (p : ℕ) (a b : List ℕ) (d s : ℕ) where
  -- 0 has no terms, and 1 has one
  pub formed_first : 1 < p → d < 33 → Reduced p 33 a → Reduced p 33 b → Below d (poly p a) → Monic d (poly p b) → Size a s → Formed p d (first a b d s)
  formed_first l fits ha hb h m z = record {
    former = record { remainder = hb; cofactor = (zeros p (omega arith)).reduced; small = rw (zeros p (omega arith)).is (below_𝟎 (d + 1 - (d + 1))) };
    latter = record { remainder = ha; cofactor = (unit p l).reduced; small = below_up (omega arith) (below_unit p 32) };
    leading = size_monic l fits hb m;
    limit = le_refl (d + 1);
    size = z;
    fewer = omega (arith, size_small ha h z);
  }

  pub combined_first : 1 < p → Combined p a b (first a b d s)
  combined_first l = record {
    former = rw ((zeros p (omega arith)).is, zero_mul (𝓩[x]/ p) (poly p a))
        (congruent_sym (𝓩[x]/ p) (congruent_zero (𝓩[x]/ p) (divides_refl (𝓩[x]/ p) (poly p b))));
    latter = congruent_equal (𝓩[x]/ p) (ap (λ u. u · poly p a) (unit p l).is ∙ one_mul (𝓩[x]/ p) (poly p a));
    common = λ g h k. (k, h);
  }
