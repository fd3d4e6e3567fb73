-- Sum, difference and product of records: what a list and an array of each have in common.
-- Proves that the specification's list is short and reduced, and that an array of the same polynomial makes the specification's result.
-- Assumes nothing.
use mathlib.Core.Path.{◌≡◌, refl, ◌∙◌, ap, ap₂}
use mathlib.Core.List.{List, [], ◌∷◌}
use Prim.Native.Nat.{ℕ, ◌≤◌, ◌<◌, ◌-◌, ◌+◌, zero-le}
use native.Mathlib.Omega.{arith}
use lib.ListN.{length}
use borrow.Author.Tests.{ne_eqb}
use Rattle.specification.specs.Polynomials as spec
use Rattle.specification.specs.Records.{PolyRecord, modulus, trim, record_of, result, pair_number, product_number, sum, difference, product_of}
use Rattle.algebra.specs.PolynomialRing.{◌+ᴿ◌, ◌·◌, -ᴿ◌}
use Rattle.algebra.specs.CoefficientLists.{ℤ[x]/, poly, poly_add, poly_sub, poly_mul}
use Rattle.algebra.specs.ListShapes.{length_add, length_sub, length_reduce, length_times, low_reduce}
use Rattle.arrays.specs.Represents.{Represents}
use Rattle.polynomial.specs.AsRecord.{accepted, refused}
use Rattle.arrays.specs.Trimming.{poly_trim}
use Rattle.polynomial.proofs.RecordLaws.{ListOf, array_is}
use Rattle.polynomial.proofs.Accepted.{Pair, pair_accepted, product_accepted}

times_nil : (f : List ℕ) → spec.times f [] ≡ []
unfolding spec.times spec.multiple spec.plus spec.shift
times_nil [] = refl
times_nil (a ∷ f) = ap spec.shift (times_nil f)

-- degrees that add to 32 or less
product_fits : (f g : List ℕ) → length f + length g ≤ 34 → length (spec.times f g) ≤ 33
product_fits [] g h = unfold spec.times in zero-le
product_fits (a ∷ f) [] h = rw (times_nil (a ∷ f)) zero-le
product_fits (a ∷ f) (b ∷ g) h = omega (arith, length_times a b f g)

result_accepted : {k p n : ℕ} {r f : List ℕ} {q : ℤ[x]/ n} → k ≡ 0 → Represents n r q → ListOf n f q → accepted p r ≡ result k (record_of p f)
result_accepted e h l = rw (e, array_is h l)

pub result_refused : {k : ℕ} (a : PolyRecord) → (k ≡ 0 → ⊥) → refused k ≡ result k a
result_refused {k} a h = rw (ne_eqb k 0 h)

module _ (a b : PolyRecord) where
  abbrev n : ℕ
  n = modulus a

  abbrev f : List ℕ
  f = a.coefficients

  abbrev g : List ℕ
  g = b.coefficients

  pub positive : Pair a b → 0 < n
  positive h = omega (arith, h.first.low 0)

  -- ---- sum and difference

  pub sum_list : pair_number a b ≡ 0 → ListOf n (spec.add n f g) (poly n f +ᴿ poly n g)
  sum_list e =
      let pair : Pair a b = pair_accepted a b e in
      record {
        short = omega (arith, length_add n f g (omega (arith, pair.first.len, pair.second.len)), pair.first.len);
        low = unfold spec.add in low_reduce n (positive pair) (spec.plus f g);
        is = poly_add n (positive pair) f g;
      }

  pub sum_is : {r : List ℕ} → pair_number a b ≡ 0 → Represents n r (poly n f +ᴿ poly n g) → accepted a.prime r ≡ sum a b
  unfolding sum
  sum_is e h = result_accepted e h (sum_list e)

  pub difference_list : pair_number a b ≡ 0 → ListOf n (spec.sub n f g) (poly n f +ᴿ -ᴿ poly n g)
  difference_list e =
      let pair : Pair a b = pair_accepted a b e in
      record {
        short = omega (arith, length_sub n f g (omega (arith, pair.first.len, pair.second.len)), pair.first.len);
        low = unfold spec.sub spec.add in low_reduce n (positive pair) (spec.plus f (spec.scale n (n - 1) g));
        is = poly_sub n (positive pair) f g;
      }

  pub difference_is : {r : List ℕ} → pair_number a b ≡ 0 → Represents n r (poly n f +ᴿ -ᴿ poly n g) → accepted a.prime r ≡ difference a b
  unfolding difference
  difference_is e h = result_accepted e h (difference_list e)

  -- ---- product

  pub product_list : product_number a b ≡ 0 → ListOf n (spec.mul n (trim f) (trim g)) (poly n f · poly n g)
  product_list e =
      let (pair, sizes) = product_accepted a b e in
      record {
        short = unfold spec.mul in rw (length_reduce n (spec.times (trim f) (trim g))) (product_fits (trim f) (trim g) sizes);
        low = unfold spec.mul in low_reduce n (positive pair) (spec.times (trim f) (trim g));
        is = poly_mul n (positive pair) (trim f) (trim g) ∙ ap₂ ◌·◌ (poly_trim n f) (poly_trim n g);
      }

  pub product_is : {r : List ℕ} → product_number a b ≡ 0 → Represents n r (poly n f · poly n g) → accepted a.prime r ≡ product_of a b
  unfolding product_of
  product_is e h = result_accepted e h (product_list e)
