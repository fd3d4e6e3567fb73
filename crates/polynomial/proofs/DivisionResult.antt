-- Division of records.
-- Proves that the divisor is monic where the number is 0, and that the code's quotient and remainder are the specification's. Assumes nothing.
use mathlib.Core.Path.{◌≡◌, refl, sym, ◌∙◌, ap}
use mathlib.Core.List.{List, [], ◌∷◌}
use Prim.Native.Nat.{ℕ, suc, ◌<◌, ◌-◌}
use native.Mathlib.Omega.{arith}
use lib.ListN.{length}
use borrow.Author.Tests.{ne_eqb}
use Rattle.specification.specs.Polynomials as spec
use Rattle.specification.specs.Records.{PolyRecord, modulus, trim, polynomial, size, record_of, division_result, division_number, division}
use Rattle.algebra.specs.Residues.{residue, residue_one}
use Rattle.algebra.specs.PolynomialRing.{◌+ᴿ◌, ◌·◌}
use Rattle.algebra.specs.Degree.{Below, Monic}
use Rattle.algebra.specs.Division.{divided_unique}
use Rattle.algebra.specs.CoefficientLists.{ℤ[x]/, poly, coef_poly, below_poly}
use Rattle.algebra.specs.ListDivision.{length_remainder, low_remainder, below_remainder, length_quotient, low_quotient, division_law}
use Rattle.arrays.specs.Represents.{Represents}
use Rattle.arrays.specs.Sizes.{Size}
use Rattle.division.specs.DivisionLoop.{DividedBy}
use Rattle.polynomial.specs.AsRecord.{divided, refused_division}
use Rattle.arrays.specs.Trimming.{poly_trim, length_trim, length_trim_le}
use Rattle.polynomial.proofs.RecordLaws.{ListOf, array_is}
use Rattle.polynomial.proofs.Accepted.{Pair, division_accepted}
use Rattle.polynomial.proofs.Results.{positive}

-- a list whose leading coefficient is 1 is not empty
monic_long : (g : List ℕ) → spec.leading g ≡ 1 → length g ≡ suc (length g - 1)
monic_long [] e = absurd (let z : ◌≡◌ {A = ℕ} 0 1 = e in omega arith)
monic_long (b ∷ g) e = omega arith

monic_poly : (n : ℕ) (g : List ℕ) → spec.leading g ≡ 1 → Monic (length g - 1) (poly n g)
monic_poly n g e = record {
  leading = coef_poly n g (length g - 1) ∙ ap (residue n) e ∙ residue_one n;
  below = rw (← monic_long g e) (below_poly n g);
}

-- the same of an array and the size that the code finds
pub monic_size : {g : List ℕ} {t : ℕ} → Size g t → spec.leading (trim g) ≡ 1 → 0 < t
monic_size {g} size e = omega (arith, length_trim size, monic_long (trim g) e)

pub monic_array : {g : List ℕ} {t : ℕ} (n : ℕ) → Size g t → spec.leading (trim g) ≡ 1 → Monic (t - 1) (poly n g)
monic_array {g} n size e = rw (← length_trim size, ← poly_trim n g) (monic_poly n (trim g) e)

both_accepted : {k p n : ℕ} {q r f g : List ℕ} {u v : ℤ[x]/ n} → k ≡ 0 → Represents n q u → ListOf n f u → Represents n r v → ListOf n g v
    → divided p q r ≡ division_result k (record_of p f) (record_of p g)
both_accepted e hq lq hr lr = rw (e, array_is hq lq, array_is hr lr)

pub division_refused : {k : ℕ} (a b : PolyRecord) → (k ≡ 0 → ⊥) → refused_division k ≡ division_result k a b
division_refused {k} a b h = rw (ne_eqb k 0 h)

module _ (a b : PolyRecord) (accepted : division_number a b ≡ 0) where
  abbrev n : ℕ
  n = modulus a

  abbrev f : List ℕ
  f = a.coefficients

  abbrev g : List ℕ
  g = polynomial b

  abbrev d : ℕ
  d = size b - 1

  pair : Pair a b
  pair = (division_accepted a b accepted).0

  pos : 0 < n
  pos = positive a b pair

  long : length g ≡ suc d
  long = monic_long g (division_accepted a b accepted).1

  monic : Monic d (poly n g)
  monic = monic_poly n g (division_accepted a b accepted).1

  pub quotient_list : ListOf n (spec.quotient n g f) (poly n (spec.quotient n g f))
  quotient_list = record {
    short = omega (arith, length_quotient n pos d g long monic f, pair.first.len);
    low = low_quotient n pos d g long monic f pair.first.low;
    is = refl;
  }

  pub remainder_list : ListOf n (spec.remainder n g f) (poly n (spec.remainder n g f))
  remainder_list = record {
    short = omega (arith, length_remainder n pos d g long monic f, length_trim_le b.coefficients, pair.second.len);
    low = low_remainder n pos d g long monic f;
    is = refl;
  }

  pub division_sound : poly n (spec.quotient n g f) · poly n b.coefficients +ᴿ poly n (spec.remainder n g f) ≡ poly n f
  division_sound =
      ap (λ p. poly n (spec.quotient n g f) · p +ᴿ poly n (spec.remainder n g f)) (sym (poly_trim n b.coefficients))
      ∙ division_law n pos d g long monic f

  pub remainder_small : Below d (poly n (spec.remainder n g f))
  remainder_small = below_remainder n pos d g long monic f

  -- "the one quotient and the one remainder"
  pub division_only : (q r : ℤ[x]/ n) → q · poly n b.coefficients +ᴿ r ≡ poly n f → Below d r
      → (q ≡ poly n (spec.quotient n g f)) × (r ≡ poly n (spec.remainder n g f))
  division_only q r e s =
      divided_unique (rw (poly_trim n b.coefficients) at monic) q r (poly n (spec.quotient n g f)) (poly n (spec.remainder n g f))
      s remainder_small (e ∙ sym division_sound)

  pub division_is : {t : ℕ} {q r : List ℕ} → Size b.coefficients t → DividedBy n f b.coefficients (t - 1) q r
      → divided a.prime q r ≡ division a b
  unfolding division
  division_is {t} {q} {r} s h =
      let both = division_only (poly n q) (poly n r) h.law (rw (length_trim s) h.small) in
      both_accepted accepted (record { reduced = h.quotient; is = both.0 }) quotient_list
      (record { reduced = h.remainder; is = both.1 }) remainder_list
