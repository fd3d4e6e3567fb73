-- The size of an array: `Size a r`, r is one more than the degree of a, and 0 for zero.
-- Proves what the size says of the array's polynomial, and which size a monic one has. Assumes nothing.
use Rattle.std.specs.Prelude.{◌≡◌, List, ◌≢◌, ℕ, ◌≤◌, ◌<◌, ◌+◌, ◌-◌, get_or}
use Rattle.std.proofs.Common.{sym, ◌∙◌, ap, subst, ⊎_elim, zero-le, pos_of_ne-zero, add-one, arith}
use Rattle.algebra.specs.Numbers.{lt_or_le}
use Rattle.algebra.specs.Residues.{residue, residue_zero}
use Rattle.algebra.specs.PolynomialRing.{𝟎}
use Rattle.algebra.specs.Degree.{Below, Monic, below_zero, below_𝟎}
use Rattle.algebra.specs.Fields.{residue_nontrivial}
use Rattle.algebra.specs.CoefficientLists.{poly, Reduced, coef_poly}
use Rattle.arrays.specs.Represents.{ZeroFrom, below_zeros}
use Rattle.arrays.specs.SameEntries.{zero_above}

-- r is one more than the degree of a, and 0 for zero
pub record Size (a : List ℕ) (r : ℕ) : Type 0 where
  pub limit : r ≤ 33
  pub above : ZeroFrom r a
  pub top : 0 < r → get_or a (r - 1) 0 ≡ 0 → ⊥

module _ (n : ℕ) where
  -- as many terms as the size says, modulo any number
  pub below_size : {a : List ℕ} {r : ℕ} → Size a r → Below r (poly n a)
  below_size {a} s = below_zeros n a s.above

module _ {n : ℕ} where
  -- with no term from k on the size is k at most
  pub size_small : {k l : ℕ} {a : List ℕ} → Reduced n l a → Below k (poly n a) → {s : ℕ} → Size a s → s ≤ k
  size_small {k} ha h {s} z = ⊎_elim (λ l. absurd (z.top (omega arith) (zero_above ha h (s - 1) (omega arith)))) (λ l. l) (lt_or_le k s)

  -- the zero polynomial has no entry but 0
  pub size_zero : {a : List ℕ} {z : ℕ} → Size a z → z ≡ 0 → poly n a ≡ 𝟎
  size_zero {a} s e = below_zero (subst (λ (k : ℕ). Below k (poly n a)) e (below_size n s))

  pub size_nonzero : {l : ℕ} {a : List ℕ} {z : ℕ} → Reduced n l a → Size a z → z ≢ 0 → poly n a ≢ 𝟎
  size_nonzero {z = z} ha s ne e = s.top (pos_of_ne-zero ne) (zero_above ha (rw e (below_𝟎 0)) (z - 1) zero-le)

-- a monic array of degree d has the size d + 1
pub size_monic : {n d : ℕ} {a : List ℕ} → 1 < n → d < 33 → Reduced n 33 a → Monic d (poly n a) → Size a (d + 1)
size_monic {n} {d} {a} large fits ha m = record {
  limit = omega arith;
  above = zero_above ha (rw add-one m.below);
  top = λ l e. residue_nontrivial large
      (sym m.leading ∙ coef_poly n a d ∙ ap (residue n) (ap (λ (k : ℕ). get_or a k 0) (let q : d ≡ d + 1 - 1 = omega arith in q) ∙ e) ∙ residue_zero n);
}

-- what has the size s, and is not 0, is of degree s − 1
pub size_degree : {a : List ℕ} {s : ℕ} → 0 < s → Size a s → Size a (s - 1 + 1)
size_degree {a} {s} pos z = subst (Size a) (let e : s ≡ s - 1 + 1 = omega arith in e) z

-- the leading coefficient is not 0
pub leading_pos : (a : List ℕ) (d : ℕ) → Size a (d + 1) → 0 < get_or a d 0
leading_pos a d z = subst (λ (k : ℕ). 0 < get_or a k 0) (let q : d + 1 - 1 ≡ d = omega arith in q) (pos_of_ne-zero (z.top (omega arith)))
