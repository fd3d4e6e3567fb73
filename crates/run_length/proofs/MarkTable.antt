-- The loop of `small_steps`, which fills the table of marks.
-- Proves how it begins and goes on. Assumes nothing.
use mathlib.Core.Path.{◌≡◌, ◌∙◌, ap, subst}
use mathlib.Core.List.{List}
use Prim.Native.Nat.{ℕ, ◌<◌, ◌+◌}
use native.Mathlib.Decide.{ℕ_discrete}
use native.Mathlib.Omega.{arith}
use lib.ListN.{length, get_or, set, length-set}
use lib.Seq.{get_or-set_same, get_or-set_other}
use Rattle.algebra.specs.Degree.{Monic}
use Rattle.algebra.specs.CoefficientLists.{poly}
use Rattle.algebra.specs.Monomials.{x^}
use Rattle.quotients.specs.Remainder.{Remainder, one_remainder}
use Rattle.run_length.specs.Marks.{small_steps, marked, Marks}

module _ {n : ℕ} {q : List ℕ} {d : ℕ} {w : List ℕ} where
  pub marks_none : {table : List ℕ} → length table ≡ small_steps → Marks n q d w table 0
  marks_none e = record { long = e; at = λ k l. absurd (omega arith) }

  pub marks_more : Monic d (poly n q) → {table : List ℕ} {i v : ℕ} {r : List ℕ} → Marks n q d w table i → i < small_steps
      → Remainder n q d r (x^ i) → v ≡ marked w r → Marks n q d w (set table i v) (i + 1)
  marks_more m {table} {i} {v} {r} h l hr e = record { long = length-set table i v ∙ h.long; at = λ k u s hs. at k u s hs (ℕ_discrete k i) }
    where
      at : (k : ℕ) → k < i + 1 → (s : List ℕ) → Remainder n q d s (x^ k) → Dec (k ≡ i) → get_or (set table i v) k 0 ≡ marked w s
      at k u s hs (yes c) =
          ap (λ (j : ℕ). get_or (set table i v) j 0) c ∙ get_or-set_same table i v 0 (omega (arith, h.long)) ∙ e
          ∙ ap (marked w) (one_remainder n m hr (subst (λ (j : ℕ). Remainder n q d s (x^ j)) c hs))
      at k u s hs (no c) = get_or-set_other table i k v 0 c ∙ h.at k (omega (arith, c)) s hs
