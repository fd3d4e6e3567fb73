-- The loop of `great_step`: after i turns r and the terms of g from i on make up g·y.
-- Proves how it begins, goes on and ends. Assumes nothing.
use mathlib.Core.Path.{◌≡◌, refl, sym, ◌∙◌, ap, ap₂}
use mathlib.Core.List.{List}
use Prim.Native.Nat.{ℕ, suc, ◌≤◌, ◌<◌, ◌-◌, ◌+◌, ◌*◌}
use native.Mathlib.Numerals.{add-one}
use native.Mathlib.Omega.{arith}
use lib.ListN.{length, get_or, take, drop, replicate}
use Rattle.algebra.specs.Identities.{con, ◌⊕◌, ◌⊗◌, ◌≈◌, solve}
use Rattle.algebra.specs.Residues.{ℤ/, residue}
use Rattle.algebra.specs.PolynomialRing.{◌+ᴿ◌, ◌·◌, x, constant}
use Rattle.algebra.specs.Degree.{Below, below_add, below_constant_mul, below_𝟎}
use Rattle.algebra.specs.CoefficientLists.{ℤ[x]/, poly, Reduced, 𝓩[x]/}
use Rattle.algebra.specs.Congruence.{Congruent, congruent_equal, congruent_trans, congruent_add, congruent_mul}
use Rattle.algebra.specs.Monomials.{x^, shift_zero, shift_suc}
use Rattle.arrays.specs.Represents.{Represents, zeros, poly_drop, poly_drop_none}
use Rattle.run_length.specs.Rows.{row, Rows, SmallRows, GreatStep}

-- the part that is lent is row i
pub lent_row : (rows : List ℕ) (i : ℕ) → take (i * 33 + 33 - i * 33) (drop (i * 33) rows) ≡ row rows i
lent_row rows i = ap (λ (k : ℕ). take k (drop (i * 33) rows)) (let e : i * 33 + 33 - i * 33 ≡ 33 = omega arith in e)

pub record PartialStep (n d : ℕ) (rows g : List ℕ) (i : ℕ) (r : List ℕ) : Type 0 where
  pub reduced : Reduced n 33 r
  pub small : Below d (poly n r)
  pub is : (q y : List ℕ) → Rows n q d y d rows
      → Congruent (𝓩[x]/ n) (poly n q) (poly n r +ᴿ x^ i · (poly n (drop i g) · poly n y)) (poly n g · poly n y)

module _ (n : ℕ) {d : ℕ} (rows g : List ℕ) where
  pub step_none : 0 < n → PartialStep n d rows g 0 (replicate 33 0)
  step_none pos = record {
    reduced = (zeros n pos).reduced;
    small = rw (zeros n pos).is (below_𝟎 d);
    is = λ q y h. congruent_equal (𝓩[x]/ n)
        (ap₂ ◌+ᴿ◌ (zeros n pos).is (shift_zero (poly n g · poly n y)) ∙ solve (𝓩[x]/ n) 1 (λ p. con 0 ⊕ p ≈ p) tt (poly n g · poly n y));
  }

  pub step_more : {i : ℕ} {r v : List ℕ} → SmallRows n d rows → i < d → i < length g → PartialStep n d rows g i r
      → Represents n v (poly n r +ᴿ constant (residue n (get_or g i 0)) · (x^ 0 · poly n (row rows i))) → PartialStep n d rows g (i + 1) v
  step_more {i} {r} {v} S l u w hv = rw add-one (record {
    reduced = hv.reduced;
    small = rw sum_is (below_add w.small (below_constant_mul c (S.small i l)));
    is = next;
  })
    where
      c : ℤ/ n
      c = residue n (get_or g i 0)

      rest : ℤ[x]/ n
      rest = poly n (drop (suc i) g)

      sum_is : poly n v ≡ poly n r +ᴿ constant c · poly n (row rows i)
      sum_is = hv.is ∙ ap (λ a. poly n r +ᴿ constant c · a) (shift_zero (poly n (row rows i)))

      next : (q y : List ℕ) → Rows n q d y d rows
          → Congruent (𝓩[x]/ n) (poly n q) (poly n v +ᴿ x^ (suc i) · (rest · poly n y)) (poly n g · poly n y)
      next q y h =
          congruent_trans (𝓩[x]/ n)
          (congruent_add (𝓩[x]/ n)
          (congruent_trans (𝓩[x]/ n) (congruent_equal (𝓩[x]/ n) sum_is)
          (congruent_add (𝓩[x]/ n) (congruent_equal (𝓩[x]/ n) refl)
          (congruent_mul (𝓩[x]/ n) (congruent_equal (𝓩[x]/ n) refl) (h.each i l).congruent)))
          (congruent_equal (𝓩[x]/ n) (shift_suc i (rest · poly n y))))
          (congruent_trans (𝓩[x]/ n) (congruent_equal (𝓩[x]/ n) regroup) (w.is q y h))
        where
          regroup : poly n r +ᴿ constant c · (x^ i · poly n y) +ᴿ x · (x^ i · (rest · poly n y)) ≡ poly n r +ᴿ x^ i · (poly n (drop i g) · poly n y)
          regroup =
              solve (𝓩[x]/ n) 6 (λ r c z b x t. r ⊕ c ⊗ (z ⊗ b) ⊕ x ⊗ (z ⊗ (t ⊗ b)) ≈ r ⊕ z ⊗ ((c ⊕ x ⊗ t) ⊗ b)) tt
              (poly n r) (constant c) (x^ i) (poly n y) x rest
              ∙ ap (λ p. poly n r +ᴿ x^ i · (p · poly n y)) (sym (poly_drop n g i u))

  pub step_done : {i : ℕ} {r : List ℕ} → d ≤ i → Below d (poly n g) → PartialStep n d rows g i r → GreatStep n d rows g r
  step_done {i} {r} l b w = record {
    is = λ q y h. record {
      reduced = w.reduced;
      small = w.small;
      congruent = congruent_trans (𝓩[x]/ n) (congruent_equal (𝓩[x]/ n) (gone y)) (w.is q y h);
    };
  }
    where
      -- no term of g is left
      gone : (y : List ℕ) → poly n r ≡ poly n r +ᴿ x^ i · (poly n (drop i g) · poly n y)
      gone y =
          solve (𝓩[x]/ n) 3 (λ r z b. r ≈ r ⊕ z ⊗ (con 0 ⊗ b)) tt (poly n r) (x^ i) (poly n y)
          ∙ ap (λ p. poly n r +ᴿ x^ i · (p · poly n y)) (sym (poly_drop_none n g i (record { high = λ k u. b.high k (omega arith) })))
