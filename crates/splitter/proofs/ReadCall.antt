-- The answer reader: what `read_call` is where the candidate's answer is the bytes and where it is not.
-- Proves these from the theorems on the reader. Assumes nothing.
use mathlib.Core.Path.{◌≡◌, ◌∙◌, ap}
use mathlib.Core.List.{List, ◌++◌}
use Rattle.std.specs.Prelude.{Some, None}
use Prim.Native.Nat.{ℕ, ◌≤◌, ◌<◌}
use lib.ListN.{length, take, drop}
use lib.Seq.{take-append_seam}
use borrow.Author.Tests.{lt-ltb}
use Rattle.specification.specs.Limits.{answer_area}
use Rattle.specification.specs.Sheets.{Sheet, sheet_bytes}
use Rattle.specification.specs.Answers.{answer}
use Rattle.specification.specs.Calls as calls
use Rattle.specification.specs.SheetClaims.{GoodSheet}
use Rattle.layouts.specs.SheetsRead.{read_is_good, written_is_read}
use Rattle.claims.specs.Proved.{reader_exact, reader_refuses}
use Rattle.area.specs.Wrote.{Wrote, wrote_from_start}
use Rattle.commands.specs.declared.Sheet.{Sheet as Struct}
use Rattle.commands.specs.AsSheet.{as_sheet}
use Rattle.answer_reader.specs.FoundInBytes.{CandidateOf}

-- what was written from the start on
pub wrote_first : {old new : List ℕ} {bytes : List ℕ} {after : ℕ} → Wrote old new 0 bytes after → take after new ≡ bytes
wrote_first {old} {new} {bytes} {after} w =
    ap (take after) (wrote_from_start w).1 ∙ ap (λ (k : ℕ). take k (bytes ++ drop (length bytes) old)) (wrote_from_start w).0
    ∙ take-append_seam bytes (drop (length bytes) old)

-- ---- the call

pub read_short : (area : ℕ) (bytes : List ℕ) → area < answer_area → calls.read_call area bytes ≡ calls.refused 1 0
unfolding calls.read_call
read_short area bytes l = rw (lt-ltb area answer_area l)

module _ (area : ℕ) (bytes : List ℕ) (l : answer_area ≤ area) where
  no_answer : ((s : Sheet) → GoodSheet s → bytes ≡ answer s → ⊥) → calls.read_call area bytes ≡ calls.refused 9 0
  no_answer f = (reader_refuses area l bytes).1 (λ t (s, r, e). f s (read_is_good t s r) e)

  pub read_none : CandidateOf bytes None → calls.read_call area bytes ≡ calls.refused 9 0
  read_none h = no_answer (λ s g e. h.exact s g e)

  -- the one sheet that the bytes can answer
  module _ {c : Struct} (h : CandidateOf bytes (Some c)) where
    pub read_other : ¬ (bytes ≡ answer (as_sheet c)) → calls.read_call area bytes ≡ calls.refused 9 0
    read_other ne = no_answer (λ s g e. ne (e ∙ ap answer (h.exact s g e)))

    pub read_found : bytes ≡ answer (as_sheet c) → calls.read_call area bytes ≡ calls.success (sheet_bytes (as_sheet c))
    read_found e = (reader_exact area l bytes (sheet_bytes (as_sheet c))).1 (as_sheet c, written_is_read (as_sheet c) h.good, e)
