-- Arrays of 33 coefficients as polynomials over ℤ/n: `Represents n r p`, the array r holds the polynomial p;
-- `Within n a`, every entry is below n; `ZeroFrom m a`, the entries from m on are 0.
-- Proves what the arrays of 0 and 1 represent, which coefficients a + c·f has, that n − c stands for −c, and what the terms from i on and
-- those below are. Assumes nothing.
use Rattle.std.specs.Prelude.{◌≡◌, List, ◌∷◌, ℕ, zero, suc, ◌≤◌, ◌<◌, ◌-◌, ◌+◌, length, get_or, take, drop, replicate}
use Rattle.std.proofs.Common.{sym, ◌∙◌, ap, ap₂, ⊎_elim, arith, length-take, drop-cons, get_or-drop, get_or-take}
use Rattle.std.proofs.lemmas.List.{length-replicate}
use Rattle.algebra.specs.Numbers.{lt_or_le}
use Rattle.algebra.specs.Ring.{add_zero, zero_add}
use Rattle.algebra.specs.Residues.{residue, Residues, residue_zero, residue_neg}
use Rattle.algebra.specs.PolynomialRing.{
  ◌+ᴿ◌,
  ◌·◌,
  -ᴿ◌,
  𝟎,
  𝟏,
  x,
  constant,
  constant_neg,
  poly_ext,
  coef_zero,
  coef_add,
  coef_constant_mul,
}
use Rattle.algebra.specs.Degree.{Below, below_up, monic_one_lem}
use Rattle.algebra.specs.CoefficientLists.{ℤ[x]/, poly, Reduced, coef_poly, poly_cons, below_poly}
use Rattle.algebra.specs.Monomials.{x^, coef_shift_below, coef_shift}
use Rattle.algebra.specs.ListShapes.{get_d_zeros}
use Rattle.algebra.specs.ListDivision.{poly_zeros, poly_unit}

-- r is the array of p: its 33 coefficients, each below n
pub record Represents (n : ℕ) (r : List ℕ) (p : ℤ[x]/ n) : Type 0 where
  pub reduced : Reduced n 33 r
  pub is : poly n r ≡ p

-- every entry is below n
abbrev pub Within : ℕ → List ℕ → Type 0
Within n a = (k : ℕ) → get_or a k 0 < n

-- the entries from m on are 0
abbrev pub ZeroFrom : ℕ → List ℕ → Type 0
ZeroFrom m a = (k : ℕ) → m ≤ k → get_or a k 0 ≡ 0

module _ (n : ℕ) where
  -- no term where the entries are 0
  pub below_zeros : (a : List ℕ) {m : ℕ} → ZeroFrom m a → Below m (poly n a)
  below_zeros a z = record { high = λ k l. coef_poly n a k ∙ ap (residue n) (z k l) ∙ residue_zero n }

  -- the coefficient j of a + c·f
  pub coef_added : (a : List ℕ) (c : ℕ) (f : ℤ[x]/ n) (j : ℕ)
      → (poly n a +ᴿ constant (residue n c) · f).coef j ≡ (Residues n).add (residue n (get_or a j 0)) ((Residues n).mul (residue n c) (f.coef j))
  coef_added a c f j =
      coef_add (poly n a) (constant (residue n c) · f) j ∙ ap₂ (Residues n).add (coef_poly n a j) (coef_constant_mul (residue n c) f j)

  pub below_length : (a : List ℕ) {m : ℕ} → length a ≤ m → Below m (poly n a)
  below_length a l = below_up l (below_poly n a)

  pub zeros : 0 < n → Represents n (replicate 33 0) 𝟎
  zeros pos = record {
    reduced = record { len = length-replicate {A = ℕ} 33 0; low = λ k. rw (get_d_zeros 33 k) pos };
    is = poly_zeros n 33;
  }

  -- the array of 1
  pub unit : 1 < n → Represents n (1 ∷ replicate 32 0) 𝟏
  unit large = record { reduced = record { len = ap suc (length-replicate {A = ℕ} 32 0); low = low }; is = poly_unit n 32 }
    where
      low : (k : ℕ) → get_or (1 ∷ replicate 32 0) k 0 < n
      low zero = large
      low (suc k) = rw (get_d_zeros 32 k) (omega arith)

  pub below_unit : (k : ℕ) → Below 1 (poly n (1 ∷ replicate k 0))
  below_unit k = rw (poly_unit n k) monic_one_lem.below

  pub constant_residue_neg : 0 < n → {c : ℕ} → c ≤ n → constant {𝓡 = Residues n} (residue n (n - c)) ≡ -ᴿ constant (residue n c)
  constant_residue_neg pos {c} l = ap constant (residue_neg n pos c l) ∙ constant_neg (residue n c)

  -- ---- the terms from i on

  pub poly_drop : (a : List ℕ) (i : ℕ) → i < length a → poly n (drop i a) ≡ constant (residue n (get_or a i 0)) +ᴿ x · poly n (drop (suc i) a)
  poly_drop a i l = ap (poly n) (drop-cons a i 0 l) ∙ poly_cons n (get_or a i 0) (drop (suc i) a)

  pub poly_drop_none : (a : List ℕ) (i : ℕ) → Below i (poly n a) → poly n (drop i a) ≡ 𝟎
  poly_drop_none a i h = poly_ext (λ k.
      rw (coef_poly n (drop i a) k, get_or-drop i a k 0, ← coef_poly n a (i + k), h.high (i + k) (omega arith), coef_zero))

  -- the terms below i, and x^i times those from i on
  pub poly_parts : (a : List ℕ) (i : ℕ) → poly n a ≡ poly n (take i a) +ᴿ x^ i · poly n (drop i a)
  poly_parts a i = poly_ext (λ k. ⊎_elim (low k) (high k) (lt_or_le k i) ∙ sym (coef_add (poly n (take i a)) (x^ i · poly n (drop i a)) k))
    where
      low : (k : ℕ) → k < i → (poly n a).coef k ≡ (Residues n).add ((poly n (take i a)).coef k) ((x^ i · poly n (drop i a)).coef k)
      low k l =
          coef_poly n a k ∙ ap (residue n) (sym (get_or-take i a k 0 l)) ∙ sym (coef_poly n (take i a) k) ∙ sym (add_zero (Residues n) _)
          ∙ ap ((Residues n).add ((poly n (take i a)).coef k)) (sym (coef_shift_below i (poly n (drop i a)) k l))

      high : (k : ℕ) → i ≤ k → (poly n a).coef k ≡ (Residues n).add ((poly n (take i a)).coef k) ((x^ i · poly n (drop i a)).coef k)
      high k l =
          coef_poly n a k ∙ ap (λ (j : ℕ). residue n (get_or a j 0)) (let e : k ≡ i + (k - i) = omega arith in e)
          ∙ ap (residue n) (sym (get_or-drop i a (k - i) 0)) ∙ sym (coef_poly n (drop i a) (k - i)) ∙ sym (coef_shift i (poly n (drop i a)) k l)
          ∙ sym (zero_add (Residues n) _)
          ∙ ap (λ c. (Residues n).add c ((x^ i · poly n (drop i a)).coef k))
          (sym ((below_poly n (take i a)).high k (omega (arith, length-take i a))))
