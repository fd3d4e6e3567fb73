-- The loop of `modulo`: every entry modulo n.
-- Proves what the array it leaves is. Assumes nothing.
use mathlib.Core.Path.{◌≡◌, sym, ◌∙◌, ap}
use mathlib.Core.List.{List}
use mathlib.Core.Logic.{⊎_elim}
use Prim.Native.Nat.{ℕ, ◌≤◌, ◌<◌, ◌%◌, zero-le}
use native.Mathlib.Nat.{zero-mod, mod-lt}
use native.Mathlib.Omega.{arith}
use lib.ListN.{length, get_or}
use Rattle.lists.specs.Entries.{Replaced}
use Rattle.lists.specs.Places.{from_end}
use Rattle.algebra.specs.Numbers.{lt_or_le}
use Rattle.algebra.specs.Residues.{residue, residue_mod}
use Rattle.algebra.specs.PolynomialRing.{poly_ext}
use Rattle.algebra.specs.CoefficientLists.{poly, coef_poly}
use Rattle.arrays.specs.Represents.{Represents}

pub modulo_done : (n : ℕ) {a r : List ℕ} {i : ℕ} → 0 < n → length a ≡ 33 → Replaced 0 (λ j. get_or a j 0 % n) a 0 r i → 33 ≤ i → Represents n r (poly n a)
modulo_done n {a} {r} {i} pos long w past = record {
  reduced = record { len = w.len ∙ long; low = λ j. rw (at j) (mod-lt (get_or a j 0) pos) };
  is = poly_ext (λ j. coef_poly n r j ∙ ap (residue n) (at j) ∙ residue_mod n pos (get_or a j 0) ∙ sym (coef_poly n a j));
}
  where
    none : (j : ℕ) → i ≤ j → get_or a j 0 ≡ 0
    none = from_end 0 a i (omega arith)

    at : (j : ℕ) → get_or r j 0 ≡ get_or a j 0 % n
    at j = ⊎_elim (λ l. w.new j zero-le l)
        (λ l. w.above j l ∙ none j l ∙ sym (ap (λ (y : ℕ). y % n) (none j l) ∙ zero-mod n)) (lt_or_le j i)
