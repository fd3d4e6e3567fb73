-- Multiples of arrays as `add_multiple`, and `add_in_place` on a whole array, make them, a + c·x^0·b: n − c stands for −c.
-- Proves what is then taken off, that the multiples by 1 and by n − 1, and any added to 0, represent sum, difference and multiple, and that those by a
-- multiple of n change nothing.
-- Assumes nothing.
use Rattle.std.specs.Prelude.{◌≡◌, List, ℕ, ◌≤◌, ◌<◌, ◌-◌, ◌%◌}
use Rattle.std.proofs.Common.{sym, ◌∙◌, ap, ap₂, arith}
use Rattle.algebra.specs.Ring.{neg_mul, one_mul, zero_add}
use Rattle.algebra.specs.Identities.{con, ◌⊕◌, ◌⊗◌, ◌≈◌, solve}
use Rattle.algebra.specs.Residues.{residue, Residues, residue_zero, residue_mod}
use Rattle.algebra.specs.PolynomialRing.{◌+ᴿ◌, ◌·◌, -ᴿ◌, 𝟎, constant, constant_zero}
use Rattle.algebra.specs.CoefficientLists.{ℤ[x]/, poly, Reduced, constant_residue_one, 𝓩[x]/}
use Rattle.algebra.specs.Monomials.{x^, shift_zero}
use Rattle.arrays.specs.Represents.{Represents, constant_residue_neg}

module _ (n : ℕ) where
  pub one_multiple : (b : ℤ[x]/ n) → constant (residue n 1) · b ≡ b
  one_multiple b = ap (λ c. c · b) (constant_residue_one n) ∙ one_mul (𝓩[x]/ n) b

  pub negative_multiple : 0 < n → {c : ℕ} → c ≤ n → (b : ℤ[x]/ n) → constant (residue n (n - c)) · b ≡ -ᴿ (constant (residue n c) · b)
  negative_multiple pos {c} l b = ap (λ a. a · b) (constant_residue_neg n pos l) ∙ neg_mul (𝓩[x]/ n) (constant (residue n c)) b

  pub minus_one_multiple : 0 < n → (b : ℤ[x]/ n) → constant (residue n (n - 1)) · b ≡ -ᴿ b
  minus_one_multiple pos b = negative_multiple pos pos b ∙ ap (λ a. -ᴿ a) (one_multiple b)

  pub multiple_taken_off : 0 < n → {c : ℕ} → c ≤ n → {r : List ℕ} (a b : ℤ[x]/ n)
      → Represents n r (a +ᴿ constant (residue n (n - c)) · (x^ 0 · b)) → poly n r ≡ a +ᴿ -ᴿ (constant (residue n c) · b)
  multiple_taken_off pos {c} l a b h =
      h.is ∙ ap (λ e. a +ᴿ e) (negative_multiple pos l (x^ 0 · b) ∙ ap (λ e. -ᴿ (constant (residue n c) · e)) (shift_zero b))

module _ (n : ℕ) (a b r : List ℕ) where
  pub sum_represented : Represents n r (poly n a +ᴿ constant (residue n 1) · (x^ 0 · poly n b)) → Represents n r (poly n a +ᴿ poly n b)
  sum_represented h = record { reduced = h.reduced; is = h.is ∙ ap (λ e. poly n a +ᴿ e) (one_multiple n (x^ 0 · poly n b) ∙ shift_zero (poly n b)) }

  pub difference_represented : 0 < n → Represents n r (poly n a +ᴿ constant (residue n (n - 1)) · (x^ 0 · poly n b))
      → Represents n r (poly n a +ᴿ -ᴿ poly n b)
  difference_represented pos h = record {
    reduced = h.reduced;
    is = h.is ∙ ap (λ e. poly n a +ᴿ e) (minus_one_multiple n pos (x^ 0 · poly n b) ∙ ap (λ e. -ᴿ e) (shift_zero (poly n b)));
  }

pub multiple_by_one : {n c : ℕ} {a : List ℕ} → c ≡ 1 → Reduced n 33 a → Represents n a (constant (residue n c) · poly n a)
multiple_by_one {n} {c} {a} e h = record { reduced = h; is = sym (ap (λ (k : ℕ). constant (residue n k) · poly n a) e ∙ one_multiple n (poly n a)) }

-- the multiple by a c that n divides
pub nothing_represented : {n : ℕ} (c : ℕ) {a : List ℕ} (t : ℤ[x]/ n) → Reduced n 33 a → c % n ≡ 0 → Represents n a (poly n a +ᴿ constant (residue n c) · t)
nothing_represented {n} c {a} t h e = record {
  reduced = h;
  is = sym (ap (λ z. poly n a +ᴿ z · t) nothing ∙ solve (𝓩[x]/ n) 2 (λ a t. a ⊕ con 0 ⊗ t ≈ a) tt (poly n a) t);
}
  where
    nothing : constant {𝓡 = Residues n} (residue n c) ≡ 𝟎
    nothing =
        ap constant (sym (residue_mod n (omega (arith, h.low 0)) c) ∙ ap (residue n) e ∙ residue_zero n) ∙ constant_zero (Residues n)

-- a multiple added to 0
pub multiple_represented : {n : ℕ} (c : ℕ) {z : ℤ[x]/ n} (a : List ℕ) {r : List ℕ} → z ≡ 𝟎
    → Represents n r (z +ᴿ constant (residue n c) · (x^ 0 · poly n a)) → Represents n r (constant (residue n c) · poly n a)
multiple_represented {n} c a zero h = record {
  reduced = h.reduced;
  is = h.is ∙ ap₂ (λ b e. b +ᴿ constant (residue n c) · e) zero (shift_zero (poly n a))
      ∙ zero_add (𝓩[x]/ n) (constant (residue n c) · poly n a);
}
