-- The loop of `rows_of`, which stores the rows x^i·y one after the other.
-- Proves how it begins and goes on, and that the rows have d terms each. Assumes nothing.
use mathlib.Core.Path.{◌≡◌, sym, ◌∙◌, ap}
use mathlib.Core.List.{List}
use Prim.Native.Nat.{ℕ, ◌≤◌, ◌<◌, ◌-◌, ◌+◌, ◌*◌}
use native.Mathlib.Decide.{ℕ_discrete}
use native.Mathlib.Omega.{arith}
use lib.ListN.{length, get_or}
use lib.Seq.{ext_get_or}
use Rattle.lists.specs.Entries.{Replaced}
use Rattle.lists.specs.LentParts.{part_length, part_entry}
use Rattle.algebra.specs.PolynomialRing.{◌·◌}
use Rattle.algebra.specs.CoefficientLists.{poly}
use Rattle.algebra.specs.Monomials.{x^}
use Rattle.quotients.specs.Remainder.{Remainder}
use Rattle.run_length.specs.Rows.{row, Rows, SmallRows}

-- a row has the 33 entries that stand at its place
row_is : (rows : List ℕ) (k : ℕ) {t : List ℕ} → k * 33 + 33 ≤ length rows → length t ≡ 33
    → ((j : ℕ) → j < 33 → get_or rows (k * 33 + j) 0 ≡ get_or t j 0) → row rows k ≡ t
row_is rows k {t} fits e h =
    ext_get_or 0 (row rows k) t (long ∙ sym e) (λ j l. part_entry 0 (k * 33) 33 rows fits j (omega (arith, long)) ∙ h j (omega (arith, long)))
  where
    long : length (row rows k) ≡ 33
    long = part_length 0 (k * 33) 33 rows fits

module _ {n : ℕ} {q : List ℕ} {d : ℕ} {y : List ℕ} where
  pub rows_none : {rows : List ℕ} → Rows n q d y 0 rows
  rows_none = record { room = omega arith; each = λ k l. absurd (omega arith) }

  -- t is stored as row i
  pub rows_more : {i : ℕ} {rows s t : List ℕ} → i * 33 + 33 ≤ length rows → Rows n q d y i rows → Remainder n q d t (x^ i · poly n y)
      → Replaced 0 (λ j. get_or t (j - i * 33) 0) rows (i * 33) s (i * 33 + 33) → Rows n q d y (i + 1) s
  rows_more {i} {rows} {s} {t} fits h r w = record { room = omega (arith, w.len); each = λ k u. at k u (ℕ_discrete k i) }
    where
      here : row s i ≡ t
      here = row_is s i (omega (arith, w.len)) r.reduced.len
          (λ j l. w.new (i * 33 + j) (omega arith) (omega arith) ∙ ap (λ (m : ℕ). get_or t m 0) (let e : i * 33 + j - i * 33 ≡ j = omega arith in e))

      other : (k : ℕ) → k < i → row s k ≡ row rows k
      other k l = row_is s k (omega (arith, w.len)) (part_length 0 (k * 33) 33 rows (omega arith))
          (λ j u. w.below (k * 33 + j) (omega arith) ∙ sym (part_entry 0 (k * 33) 33 rows (omega arith) j u))

      at : (k : ℕ) → k < i + 1 → Dec (k ≡ i) → Remainder n q d (row s k) (x^ k · poly n y)
      at k u (yes e) = rw (e, here) r
      at k u (no ne) = rw (other k (omega (arith, ne))) (h.each k (omega (arith, ne)))

  pub rows_small : {rows : List ℕ} → Rows n q d y d rows → SmallRows n d rows
  rows_small h = record { room = h.room; reduced = λ k l. (h.each k l).reduced; small = λ k l. (h.each k l).small }
