-- What callers may build on. Proves that where the number is 0 the record given back is, as a polynomial over ℤ/p², zero, one, x, the sum, the
-- difference, the product; that quotient and remainder make up the dividend, and that no others do.
-- Assumes nothing.
use mathlib.Core.Path.{◌≡◌, refl, sym, ◌∙◌, ap, ap₂, subst}
use mathlib.Core.Bool.{true, ◌&&◌, and-eq-true_iff}
use mathlib.Core.List.{[], ◌∷◌}
use Prim.Native.Nat.{ℕ, zero, suc, ◌-◌, ◌<◌}
use native.Mathlib.Omega.{arith}
use lib.Dec.{T, eqb, ltb}
use lib.ListN.{length, get_or}
use borrow.Author.Tests.{lt-ltb, eq-eqb}
use Rattle.specification.specs.Lists.{all_pass}
use Rattle.specification.specs.Polynomials as spec
use Rattle.specification.specs.Polynomials.{is_zero}
use Rattle.specification.specs.Limits.{taken, ◌²}
use Rattle.specification.specs.Records.{
  proper,
  pad,
  trim,
  record_of,
  prime_number,
  pair_number,
  division_number,
  PolyRecord,
  modulus,
  polynomial,
  size,
  given,
  constant,
  zero_of,
  one_of,
  x_of,
  sum,
  difference,
  product_of,
  division,
}
use Rattle.algebra.specs.PolynomialRing.{◌+ᴿ◌, ◌·◌, -ᴿ◌, 𝟎, 𝟏, x}
use Rattle.algebra.specs.Degree.{Below, below_zero}
use Rattle.algebra.specs.TakenPrimes.{is_prime_lem}
use Rattle.algebra.specs.Numbers.{square_large}
use Rattle.lists.specs.Tests.{passes}
use Rattle.lists.specs.AllAny.{all_from}
use Rattle.algebra.specs.CoefficientLists.{ℤ[x]/, poly, poly_nil, poly_one, poly_x}
use Rattle.polynomial.proofs.RecordLaws.{poly_pad, pad_is, length_pad, get_d_pad}
use Rattle.polynomial.proofs.Accepted.{proper_prime}
use Rattle.polynomial.proofs.Results.{sum_list, difference_list, product_list}
use Rattle.polynomial.proofs.DivisionResult.{quotient_list, remainder_list, division_sound, remainder_small, division_only}

-- the record that comes back with number 0
value_given : (n : ℕ) {k : ℕ} (a : PolyRecord) → k ≡ 0 → poly n (given k a).coefficients ≡ poly n a.coefficients
value_given n a e = rw e

module _ (p : ℕ) where
  pub zero_law : (zero_of p).number ≡ 0 → poly (p ²) (zero_of p).value.coefficients ≡ 𝟎
  unfolding constant
  zero_law e = value_given (p ²) _ e ∙ poly_pad (p ²) [] (omega arith) ∙ poly_nil (p ²)

  pub one_law : (one_of p).number ≡ 0 → poly (p ²) (one_of p).value.coefficients ≡ 𝟏
  unfolding constant
  one_law e = value_given (p ²) _ e ∙ poly_pad (p ²) (1 ∷ []) (omega arith) ∙ poly_one (p ²)

  pub x_law : (x_of p).number ≡ 0 → poly (p ²) (x_of p).value.coefficients ≡ x
  unfolding constant
  x_law e = value_given (p ²) _ e ∙ poly_pad (p ²) (0 ∷ 1 ∷ []) (omega arith) ∙ poly_x (p ²)

module _ (a b : PolyRecord) where
  abbrev n : ℕ
  n = modulus a

  abbrev f : ℤ[x]/ n
  f = poly n a.coefficients

  abbrev g : ℤ[x]/ n
  g = poly n b.coefficients

  pub sum_law : (sum a b).number ≡ 0 → poly n (sum a b).value.coefficients ≡ f +ᴿ g
  unfolding sum
  sum_law e = value_given n _ e ∙ pad_is (sum_list a b e)

  pub difference_law : (difference a b).number ≡ 0 → poly n (difference a b).value.coefficients ≡ f +ᴿ -ᴿ g
  unfolding difference
  difference_law e = value_given n _ e ∙ pad_is (difference_list a b e)

  pub product_law : (product_of a b).number ≡ 0 → poly n (product_of a b).value.coefficients ≡ f · g
  unfolding product_of
  product_law e = value_given n _ e ∙ pad_is (product_list a b e)

  -- ---- division

  abbrev q : ℤ[x]/ n
  q = poly n (division a b).quotient.coefficients

  abbrev r : ℤ[x]/ n
  r = poly n (division a b).remainder.coefficients

  quotient_is : (division a b).number ≡ 0 → q ≡ poly n (spec.quotient n (polynomial b) a.coefficients)
  unfolding division
  quotient_is e = value_given n _ e ∙ pad_is (quotient_list a b e)

  remainder_is : (division a b).number ≡ 0 → r ≡ poly n (spec.remainder n (polynomial b) a.coefficients)
  unfolding division
  remainder_is e = value_given n _ e ∙ pad_is (remainder_list a b e)

  pub division_law : (division a b).number ≡ 0 → q · g +ᴿ r ≡ f
  unfolding division
  division_law e = ap₂ (λ q r. q · g +ᴿ r) (quotient_is e) (remainder_is e) ∙ division_sound a b e

  -- the remainder is zero or of lower degree than b
  pub remainder_law : (division a b).number ≡ 0 → Below (size b - 1) r
  unfolding division
  remainder_law e = rw (remainder_is e) (remainder_small a b e)

  -- "the one quotient and the one remainder"
  pub division_unique : (division a b).number ≡ 0 → (q' r' : ℤ[x]/ n) → q' · g +ᴿ r' ≡ f → Below (size b - 1) r' → (q' ≡ q) × (r' ≡ r)
  unfolding division
  division_unique e q' r' l s =
      let both = division_only a b e q' r' l s in (both.0 ∙ sym (quotient_is e), both.1 ∙ sym (remainder_is e))

-- "The divisor 1 leaves remainder zero"
module _ (a : PolyRecord) (good : proper a ≡ true) where
  abbrev p : ℕ
  p = a.prime

  is_taken : taken p ≡ true
  is_taken = proper_prime a good

  large : 1 < p ²
  large = square_large p (is_prime_lem is_taken).large

  one_is : (one_of p).value ≡ record_of p (1 ∷ [])
  unfolding constant prime_number
  one_is = rw is_taken

  one_proper : proper (record_of p (1 ∷ [])) ≡ true
  unfolding proper
  one_proper =
      (and-eq-true_iff (taken p && eqb (length (pad (1 ∷ []))) 33) _).1 (
        (and-eq-true_iff (taken p) _).1 (is_taken, eq-eqb (length (pad (1 ∷ []))) 33 (length_pad (1 ∷ []))),
        passes _ (all_from (λ (c : ℕ). ltb c (p ²)) 0 (pad (1 ∷ []))
            (λ k l. subst (λ (c : ℕ). T (ltb c (p ²))) (sym (get_d_pad (1 ∷ []) (omega arith) k)) (at k))),
      )
    where
      at : (k : ℕ) → T (ltb (get_or (1 ∷ []) k 0) (p ²))
      at zero = subst T (sym (lt-ltb 1 (p ²) large)) tt
      at (suc k) = subst T (sym (lt-ltb 0 (p ²) (omega (arith, large)))) tt

  one_trimmed : polynomial (record_of p (1 ∷ [])) ≡ 1 ∷ []
  unfolding trim pad is_zero all_pass
  one_trimmed = refl

  accepted : (division a (record_of p (1 ∷ []))).number ≡ 0
  unfolding division division_number pair_number
  accepted = rw (good, one_proper, one_trimmed, eq-eqb p p refl) refl

  pub one_leaves_zero : ((division a (one_of p).value).number ≡ 0) × (poly (modulus a) (division a (one_of p).value).remainder.coefficients ≡ 𝟎)
  one_leaves_zero = rw one_is (accepted, below_zero (rw (ap (λ (f : spec.Poly). length f - 1) one_trimmed) at (remainder_law a (record_of p (1 ∷ [])) accepted)))
