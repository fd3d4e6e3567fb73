-- An array in which one entry is changed: at i there is c more, modulo n.
-- Proves that it holds the polynomial with c·x^i more (`term_added`; `term_set`, where there was 0), and that zeros with c stored at 0 hold c. Assumes nothing.
use Rattle.std.specs.Prelude.{◌≡◌, List, [], ◌∷◌, ◌≢◌, ℕ, zero, suc, ◌<◌, get_or, set, replicate}
use Rattle.std.proofs.Common.{sym, ◌∙◌, ap, subst, ⊎_elim, arith, length-set, get_or-set_same, get_or-set_other}
use Rattle.std.proofs.Math.Decide.{ℕ_discrete}
use Rattle.std.proofs.lemmas.List.{length-replicate}
use Rattle.algebra.specs.Numbers.{lt_or_le}
use Rattle.algebra.specs.Ring.{add_zero, mul_zero, mul_one, zero_add}
use Rattle.algebra.specs.Residues.{residue, Residues, residue_zero}
use Rattle.algebra.specs.PolynomialRing.{◌+ᴿ◌, ◌·◌, constant, poly_ext}
use Rattle.algebra.specs.Degree.{monic_pow_x}
use Rattle.algebra.specs.CoefficientLists.{poly, Reduced, coef_poly}
use Rattle.algebra.specs.ListShapes.{get_d_zeros}
use Rattle.algebra.specs.Monomials.{x^, coef_power_low}
use Rattle.arrays.specs.Represents.{Represents, zeros, coef_added}
use Rattle.arrays.specs.SameEntries.{same_poly}

module _ (n : ℕ) {q : List ℕ} (i : ℕ) (c : ℕ) {v : ℕ} (r : Reduced n 33 q) (fits : i < 33) (low : v < n)
    (sum : residue n v ≡ (Residues n).add (residue n (get_or q i 0)) (residue n c)) where
  here : get_or (set q i v) i 0 ≡ v
  here = get_or-set_same q i v 0 (omega (arith, r.len))

  other : (k : ℕ) → k ≢ i → get_or (set q i v) k 0 ≡ get_or q k 0
  other k ne = get_or-set_other q i k v 0 ne

  below : (k : ℕ) → Dec (k ≡ i) → get_or (set q i v) k 0 < n
  below k (yes e) = rw (e, here) low
  below k (no ne) = rw (other k ne) (r.low k)

  none : (k : ℕ) → k ≢ i → (x^ {𝓡 = Residues n} i).coef k ≡ (Residues n).𝟘
  none k ne = ⊎_elim (λ h. coef_power_low (Residues n) i k h) (λ h. (monic_pow_x i).below.high k (omega (arith, ne))) (lt_or_le k i)

  at : (k : ℕ) → Dec (k ≡ i) → residue n (get_or (set q i v) k 0) ≡ (poly n q +ᴿ constant (residue n c) · x^ i).coef k
  at k (yes e) =
      subst (λ (j : ℕ). residue n (get_or (set q i v) j 0) ≡ (poly n q +ᴿ constant (residue n c) · x^ i).coef j) (sym e)
      (ap (residue n) here ∙ sum
      ∙ sym (coef_added n q c (x^ i) i
      ∙ ap ((Residues n).add (residue n (get_or q i 0)))
      (ap ((Residues n).mul (residue n c)) (monic_pow_x i).leading ∙ mul_one (Residues n) (residue n c))))
  at k (no ne) =
      ap (residue n) (other k ne)
      ∙ sym (coef_added n q c (x^ i) k
      ∙ ap ((Residues n).add (residue n (get_or q k 0))) (ap ((Residues n).mul (residue n c)) (none k ne) ∙ mul_zero (Residues n) (residue n c))
      ∙ add_zero (Residues n) (residue n (get_or q k 0)))

  pub term_added : Represents n (set q i v) (poly n q +ᴿ constant (residue n c) · x^ i)
  term_added = record {
    reduced = record { len = length-set q i v ∙ r.len; low = λ k. below k (ℕ_discrete k i) };
    is = poly_ext (λ k. coef_poly n (set q i v) k ∙ at k (ℕ_discrete k i));
  }

-- c is stored where there was 0
pub term_set : (n : ℕ) {q : List ℕ} (i : ℕ) {c : ℕ} → Reduced n 33 q → i < 33 → get_or q i 0 ≡ 0 → c < n
    → Represents n (set q i c) (poly n q +ᴿ constant (residue n c) · x^ i)
term_set n i {c} r fits free low =
    term_added n i c r fits low
    (sym (ap (λ a. (Residues n).add a (residue n c)) (ap (residue n) free ∙ residue_zero n) ∙ zero_add (Residues n) (residue n c)))

-- the array of a constant
pub constant_set : (n : ℕ) {c : ℕ} → c < n → Represents n (set (replicate 33 0) 0 c) (poly n (c ∷ []))
constant_set n {c} low = record {
  reduced = (term_set n 0 (zeros n (omega arith)).reduced (omega arith) (get_d_zeros 33 0) low).reduced;
  is = same_poly n (set (replicate 33 0) 0 c) (c ∷ []) at;
}
  where
    at : (k : ℕ) → get_or (set (replicate 33 0) 0 c) k 0 ≡ get_or (c ∷ []) k 0
    at zero = get_or-set_same (replicate 33 0) 0 c 0 (omega (arith, length-replicate {A = ℕ} 33 0))
    at (suc k) = get_or-set_other (replicate 33 0) 0 (suc k) c 0 (omega arith) ∙ get_d_zeros 33 (suc k)
