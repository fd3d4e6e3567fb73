-- Entries below n are fixed by the polynomial modulo n.
-- Proves that reduced lists of one polynomial have the same entries, that an array with no term from k on is 0 there, and what is kept modulo
-- another number. Assumes nothing.
use Rattle.std.specs.Prelude.{◌≡◌, List, ℕ, ◌<◌, get_or}
use Rattle.std.proofs.Common.{sym, ◌∙◌, ap, mod-eq_of_lt, arith}
use Rattle.algebra.specs.Numbers.{square_least}
use Rattle.algebra.specs.Residues.{residue, residue_zero, same_remainder}
use Rattle.algebra.specs.PolynomialRing.{poly_ext}
use Rattle.algebra.specs.Degree.{Below}
use Rattle.algebra.specs.CoefficientLists.{poly, Reduced, coef_poly}
use Rattle.arrays.specs.Represents.{ZeroFrom, below_zeros}
use Rattle.specification.specs.Limits.{◌²}

module _ {n : ℕ} where
  pub same_number : {a b : ℕ} → a < n → b < n → residue n a ≡ residue n b → a ≡ b
  same_number {a} {b} l m e = sym (mod-eq_of_lt l) ∙ same_remainder n (omega arith) a b e ∙ mod-eq_of_lt m

  -- the numbers are those of the polynomial's coefficients
  pub same_entries : {k l : ℕ} {f g : List ℕ} → Reduced n k f → Reduced n l g → poly n f ≡ poly n g → (j : ℕ) → get_or f j 0 ≡ get_or g j 0
  same_entries {f = f} {g} hf hg e j =
      same_number (hf.low j) (hg.low j) (sym (coef_poly n f j) ∙ ap (λ a. a.coef j) e ∙ coef_poly n g j)

  -- no term from k on: the entries there are 0
  pub zero_above : {k l : ℕ} {a : List ℕ} → Reduced n l a → Below k (poly n a) → ZeroFrom k a
  zero_above {a = a} ha h j l =
      same_number (ha.low j) (omega (arith, ha.low j)) (sym (coef_poly n a j) ∙ h.high j l ∙ sym (residue_zero n))

  -- nor is there one modulo any other number
  pub below_modulo : (b : ℕ) {k l : ℕ} {a : List ℕ} → Reduced n l a → Below k (poly n a) → Below k (poly b a)
  below_modulo b {a = a} ha h = below_zeros b a (zero_above ha h)

-- what is below p is below p²
pub reduced_square : {p l : ℕ} {a : List ℕ} → Reduced p l a → Reduced (p ²) l a
reduced_square {p} r = record { len = r.len; low = λ j. omega (arith, r.low j, square_least p) }

-- lists with the same entries are one polynomial
pub same_poly : (n : ℕ) (f g : List ℕ) → ((j : ℕ) → get_or f j 0 ≡ get_or g j 0) → poly n f ≡ poly n g
same_poly n f g e = poly_ext (λ j. coef_poly n f j ∙ ap (residue n) (e j) ∙ sym (coef_poly n g j))
