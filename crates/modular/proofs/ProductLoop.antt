-- The loop of `product`: after i turns r and the terms of a that are left make up the product.
-- Proves that the loop begins so, goes on so, also past a term that is 0, and ends with a·b. Assumes nothing.
use mathlib.Core.Path.{◌≡◌, sym, ◌∙◌, ap, ap₂}
use mathlib.Core.List.{List}
use Prim.Native.Nat.{ℕ, suc, ◌<◌, ◌+◌}
use native.Mathlib.Nat.{zero-mod}
use native.Mathlib.Numerals.{add-one}
use lib.ListN.{length, get_or, drop, replicate}
use Rattle.algebra.specs.Identities.{con, ◌⊕◌, ◌⊗◌, ◌≈◌, solve}
use Rattle.algebra.specs.Residues.{residue}
use Rattle.algebra.specs.PolynomialRing.{◌+ᴿ◌, ◌·◌, x, constant}
use Rattle.algebra.specs.Degree.{Below}
use Rattle.algebra.specs.CoefficientLists.{ℤ[x]/, poly, Reduced, 𝓩[x]/}
use Rattle.algebra.specs.Monomials.{x^, shift_zero, shift_suc}
use Rattle.arrays.specs.Represents.{Represents, zeros, poly_drop, poly_drop_none}
use Rattle.modular.specs.Multiples.{nothing_represented}

-- after i turns
pub record PartialProduct (n : ℕ) (a b : List ℕ) (i : ℕ) (r : List ℕ) : Type 0 where
  pub reduced : Reduced n 33 r
  pub law : poly n r +ᴿ x^ i · (poly n (drop i a) · poly n b) ≡ poly n a · poly n b

module _ (n : ℕ) (a b : List ℕ) where
  pub product_none : 0 < n → PartialProduct n a b 0 (replicate 33 0)
  product_none pos = record {
    reduced = (zeros n pos).reduced;
    law = ap₂ ◌+ᴿ◌ (zeros n pos).is (shift_zero (poly n a · poly n b))
        ∙ solve (𝓩[x]/ n) 1 (λ p. con 0 ⊕ p ≈ p) tt (poly n a · poly n b);
  }

  pub product_more : {i : ℕ} {r v : List ℕ} → PartialProduct n a b i r → i < length a
      → Represents n v (poly n r +ᴿ constant (residue n (get_or a i 0)) · (x^ i · poly n b)) → PartialProduct n a b (i + 1) v
  product_more {i} {r} {v} w l h = rw add-one (record { reduced = h.reduced; law = ap₂ ◌+ᴿ◌ h.is (shift_suc i (rest · poly n b)) ∙ regroup ∙ w.law })
    where
      rest : ℤ[x]/ n
      rest = poly n (drop (suc i) a)

      regroup : poly n r +ᴿ constant (residue n (get_or a i 0)) · (x^ i · poly n b) +ᴿ x · (x^ i · (rest · poly n b))
          ≡ poly n r +ᴿ x^ i · (poly n (drop i a) · poly n b)
      regroup =
          solve (𝓩[x]/ n) 6 (λ r c y b x t. r ⊕ c ⊗ (y ⊗ b) ⊕ x ⊗ (y ⊗ (t ⊗ b)) ≈ r ⊕ y ⊗ ((c ⊕ x ⊗ t) ⊗ b)) tt
          (poly n r) (constant (residue n (get_or a i 0))) (x^ i) (poly n b) x rest
          ∙ ap (λ p. poly n r +ᴿ x^ i · (p · poly n b)) (sym (poly_drop n a i l))

  -- a term that is 0
  pub product_passed : {i : ℕ} {r : List ℕ} → PartialProduct n a b i r → i < length a → get_or a i 0 ≡ 0 → PartialProduct n a b (i + 1) r
  product_passed {i} w l e = product_more w l (nothing_represented (get_or a i 0) (x^ i · poly n b) w.reduced (rw e (zero-mod n)))

  pub product_done : {i : ℕ} {r : List ℕ} → PartialProduct n a b i r → Below i (poly n a) → Represents n r (poly n a · poly n b)
  product_done {i} {r} w h = record {
    reduced = w.reduced;
    is = solve (𝓩[x]/ n) 3 (λ r y b. r ≈ r ⊕ y ⊗ (con 0 ⊗ b)) tt (poly n r) (x^ i) (poly n b)
        ∙ ap (λ p. poly n r +ᴿ x^ i · (p · poly n b)) (sym (poly_drop_none n a i h)) ∙ w.law;
  }
