-- The loop of `product_modulo`, Horner's rule: r is the remainder of the product of b and the terms of a from i on.
-- Proves that the loop begins so, goes on so, and ends with the remainder of a·b. Assumes nothing.
use mathlib.Core.Path.{◌≡◌, refl, sym, ◌∙◌, ap, subst}
use mathlib.Core.List.{List}
use Prim.Native.Nat.{ℕ, suc, ◌<◌, ◌≤◌, zero-le}
use native.Mathlib.Nat.{le_antisymm}
use lib.ListN.{length, get_or, drop, replicate}
use Rattle.algebra.specs.Ring.{zero_mul}
use Rattle.algebra.specs.Identities.{◌⊕◌, ◌⊗◌, ◌≈◌, solve}
use Rattle.algebra.specs.Residues.{residue}
use Rattle.algebra.specs.PolynomialRing.{◌+ᴿ◌, ◌·◌, x, constant}
use Rattle.algebra.specs.Degree.{Below, below_add, below_constant_mul, below_𝟎}
use Rattle.algebra.specs.CoefficientLists.{ℤ[x]/, poly, 𝓩[x]/}
use Rattle.algebra.specs.Congruence.{Congruent, congruent_equal, congruent_trans, congruent_add, congruent_mul}
use Rattle.algebra.specs.Monomials.{x^, shift_zero}
use Rattle.arrays.specs.Represents.{Represents, zeros, poly_drop, poly_drop_none}
use Rattle.arrays.specs.Sizes.{Size, below_size}
use Rattle.quotients.specs.Remainder.{Remainder}

module _ (n : ℕ) (a b q : List ℕ) {d : ℕ} where
  -- no term of a is left from its size on
  pub horner_none : {s : ℕ} → 0 < n → Size a s → Remainder n q d (replicate 33 0) (poly n (drop s a) · poly n b)
  horner_none {s} pos h = record {
    reduced = (zeros n pos).reduced;
    small = rw (zeros n pos).is (below_𝟎 d);
    congruent = congruent_equal (𝓩[x]/ n)
        ((zeros n pos).is ∙ sym (ap (λ p. p · poly n b) (poly_drop_none n a s (below_size n h)) ∙ zero_mul (𝓩[x]/ n) (poly n b)));
  }

  -- s is x·r and v is s + c·b, where c is the coefficient j of a
  module _ (hb : Below d (poly n b)) (r s v : List ℕ) (i j : ℕ) (next : i ≡ suc j) (within : j < length a) where
    abbrev top : ℤ[x]/ n
    top = constant (residue n (get_or a j 0))

    abbrev rest : ℤ[x]/ n
    rest = poly n (drop i a)

    split : poly n (drop j a) ≡ top +ᴿ x · rest
    split = poly_drop n a j within ∙ ap (λ k. top +ᴿ x · poly n (drop k a)) (sym next)

    regroup : x · (rest · poly n b) +ᴿ top · poly n b ≡ poly n (drop j a) · poly n b
    regroup =
        solve (𝓩[x]/ n) 4 (λ x t c b. x ⊗ (t ⊗ b) ⊕ c ⊗ b ≈ (c ⊕ x ⊗ t) ⊗ b) tt x rest top (poly n b)
        ∙ ap (λ p. p · poly n b) (sym split)

    pub horner_more : Remainder n q d r (poly n (drop i a) · poly n b) → Remainder n q d s (x · poly n r)
        → Represents n v (poly n s +ᴿ constant (residue n (get_or a j 0)) · (x^ 0 · poly n b)) → Remainder n q d v (poly n (drop j a) · poly n b)
    horner_more hr hs hv = record {
      reduced = hv.reduced;
      small = rw sum_is (below_add hs.small (below_constant_mul (residue n (get_or a j 0)) hb));
      congruent = rw (sum_is, ← regroup) (congruent_add (𝓩[x]/ n) shifted (congruent_equal (𝓩[x]/ n) refl));
    }
      where
        sum_is : poly n v ≡ poly n s +ᴿ top · poly n b
        sum_is = hv.is ∙ ap (λ p. poly n s +ᴿ top · p) (shift_zero (poly n b))

        shifted : Congruent (𝓩[x]/ n) (poly n q) (poly n s) (x · (rest · poly n b))
        shifted =
            congruent_trans (𝓩[x]/ n) hs.congruent
            (congruent_mul (𝓩[x]/ n) (congruent_equal (𝓩[x]/ n) refl) hr.congruent)

  pub horner_done : {i : ℕ} {r : List ℕ} → i ≤ 0 → Remainder n q d r (poly n (drop i a) · poly n b) → Remainder n q d r (poly n a · poly n b)
  horner_done {r = r} l h = subst (λ k. Remainder n q d r (poly n (drop k a) · poly n b)) (le_antisymm l zero-le) h
