-- The constants c for which v − c may have a factor in common with Q: `Vanishing p q v degree m`, m(v) = 0 modulo Q, where m has no term above the degree;
-- `Candidates p q v tries`, an entry that is not 0 rules its constant out.
-- Proves the first of a dependency of the powers of v, and the second of the values of such an m, and of zeros. Assumes nothing.
use Rattle.std.specs.Prelude.{List, Option, Some, None, IfSome, ◌≢◌, ℕ, suc, ◌<◌, ◌≤◌, get_or, replicate}
use Rattle.std.proofs.Common.{sym, ◌∙◌, arith}
use Rattle.algebra.specs.Divisibility.{Coprime, pow}
use Rattle.algebra.specs.Residues.{residue, Residues, residue_zero}
use Rattle.algebra.specs.PolynomialRing.{◌+ᴿ◌, -ᴿ◌, constant}
use Rattle.algebra.specs.Degree.{Below, Monic, below_up}
use Rattle.algebra.specs.Fields.{Prime, residue_field, residue_discrete}
use Rattle.algebra.specs.CoefficientLists.{poly, Reduced, 𝓩[x]/}
use Rattle.algebra.specs.ListShapes.{get_d_zeros}
use Rattle.arrays.specs.declared.MonicPoly.{MonicPoly}
use Rattle.arrays.specs.SameEntries.{same_number}
use Rattle.frobenius.specs.LinearMaps.{kernel_divides}
use Rattle.frobenius.specs.ValuesOfElements.{VanishesAt, value_coprime}
use Rattle.modp_dependency.specs.Dependency.{DependencyFound}
use Rattle.modp_dependency.specs.RemainderImages.{RemainderImages, images_remainders}
use Rattle.modp_roots.specs.Values.{value_at, ValuesOf}

pub record Vanishing (p : ℕ) (q v : List ℕ) (degree : ℕ) (m : List ℕ) : Type 0 where
  pub reduced : Reduced p 33 m
  pub fits : degree < 33
  pub below : Below (suc degree) (poly p m)
  pub vanishes : VanishesAt (poly p q) (poly p v) (poly p m)

abbrev pub Candidates : (p : ℕ) → (q v tries : List ℕ) → Type 0
Candidates p q v tries = (c : ℕ) → c < p → get_or tries c 0 ≢ 0 → Coprime (𝓩[x]/ p) (poly p q) (poly p v +ᴿ -ᴿ constant (residue p c))

-- a dependency of the powers
pub vanishing_found : {p d : ℕ} {q : List ℕ} (v : List ℕ) {images : List (List ℕ)} {count : ℕ} → Monic d (poly p q) → count ≤ 33
    → RemainderImages p q d (pow (𝓩[x]/ p) (poly p v)) count images → (r : Option MonicPoly) → DependencyFound p images 0 count r
    → IfSome r (λ m. Vanishing p q v m.degree m.coefs)
vanishing_found v m l h None a = tt
vanishing_found v {count = count} m l h (Some r) a = record {
  reduced = a.reduced;
  fits = omega (arith, a.within);
  below = a.least.monic.below;
  vanishes = record {
    terms = count;
    below = below_up a.within a.least.monic.below;
    divides = kernel_divides m (images_remainders h) (poly _ r.coefs) a.least.kernel;
  };
}

pub all_candidates : (p : ℕ) (q v : List ℕ) → Candidates p q v (replicate 256 0)
all_candidates p q v c l ne = absurd (ne (get_d_zeros 256 c))

-- the values of m
pub value_candidates : {p : ℕ} {q v : List ℕ} {degree : ℕ} {m tries : List ℕ} → Prime p → Vanishing p q v degree m → ValuesOf p (poly p m) tries
    → Candidates p q v tries
value_candidates {p} {v = v} {m = m} P h values c l ne =
    let (e, unit) = (residue_field p P).inverse (value_at p c (poly p m)) nonzero in
    value_coprime (residue_discrete p) (residue p c) (poly p v) h.vanishes e unit
  where
    nonzero : value_at p c (poly p m) ≢ (Residues p).𝟘
    nonzero e = ne (same_number (values.low c l) (omega arith) (values.is c l ∙ e ∙ sym (residue_zero p)))
