-- What the customer's terms say of `split` and `read`, of the number, the place, the count and the area that a call gives back: `Called` of the entry points'
-- contracts. Proves which numbers and places they give, that a refused call changes nothing, term 3, the settings and the run of the bytes that `split`
-- wrote, that `read` takes exactly the answers and gives back their sheets, and that each call undoes the other in any area long enough. Assumes nothing.
use Rattle.std.specs.Prelude.{◌≡◌, refl, ◌⊎◌, ◌≢◌, ◌↔◌, true, List, ℕ, ◌≤◌, ◌<◌, length, take, drop, ltb}
use Rattle.std.proofs.Common.{sym, ◌∙◌, ap, ap₂, subst, inl, inr, ⊎_elim, arith, drop_at, ltb→lt, nltb→le}
use Rattle.std.proofs.Math.Seq.{take-append_seam}
use Rattle.specification.specs.Limits.{answer_area}
use Rattle.specification.specs.Sheets.{Sheet, Reading, accepted, fault, read_sheet}
use Rattle.specification.specs.Answers.{answer}
use Rattle.specification.specs.Calls as calls
use Rattle.specification.specs.Calls.{split_call, answer_to, read_call, sheet_in, is_answer_to, success}
use Rattle.specification.specs.Term3.{LongestIn}
use Rattle.specification.specs.ReaderClaims.{AnswerTo}
use Rattle.specification.specs.Settings.{SettingsIn}
use Rattle.specification.specs.RunClaims.{Run}
use Rattle.specification.specs.FactorList.{run_in}
use Rattle.algebra.specs.Numbers.{lt_or_le}
use Rattle.lists.specs.Tests.{picked}
use Rattle.layouts.specs.ReaderBounds.{Numbered, numbered_within}
use Rattle.layouts.specs.SheetLength.{fault_number, fault_place}
use Rattle.claims.specs.Proved.{term_3, settings, runs, reader_exact, split_succeeds, read_succeeds, split_then_read}
use Rattle.splitter.specs.declared.Outcome.{Outcome}
use Rattle.splitter.specs.Outcomes.{Called, split_answered}

-- the area's bytes up to the count
abbrev pub written : Outcome → List ℕ → List ℕ
written r new = take r.count new

pub written_is : {o : calls.Outcome} {r : Outcome} {old new : List ℕ} → Called o r old new → written r new ≡ o.bytes
written_is {o} {r} {old} {new} h =
    ap (λ (k : ℕ). take k new) h.count ∙ ap (take (calls.count o)) h.area ∙ take-append_seam o.bytes (drop (calls.count o) old)

-- "Answer bytes past that count keep their entry values"
pub rest_kept : {o : calls.Outcome} {r : Outcome} {old new : List ℕ} → Called o r old new → drop r.count new ≡ drop r.count old
rest_kept {o} {r} {old} {new} h =
    ap (drop r.count) h.area ∙ drop_at o.bytes (drop (calls.count o) old) r.count (sym h.count)
    ∙ ap (λ (k : ℕ). drop k old) (sym h.count)

-- a call of which it is known that it succeeds
pub succeeds : {o : calls.Outcome} {bytes : List ℕ} {r : Outcome} {old new : List ℕ} → Called o r old new → o ≡ success bytes
    → (r.number ≡ 0) × (written r new ≡ bytes)
succeeds h e = (h.number ∙ ap (λ (o : calls.Outcome). o.number) e, written_is h ∙ ap (λ (o : calls.Outcome). o.bytes) e)

-- ---- two calls

pub same_outcome : {r r₂ : Outcome} → r.number ≡ r₂.number → r.place ≡ r₂.place → r.count ≡ r₂.count → r ≡ r₂
same_outcome e f g = λ i. record { number = e i; place = f i; count = g i }

module _ {o o₂ : calls.Outcome} {r r₂ : Outcome} {old new new₂ : List ℕ} (h : Called o r old new) (h₂ : Called o₂ r₂ old new₂) where
  -- the specification's outcome is all that comes back depends on
  pub called_alike : o ≡ o₂ → (r ≡ r₂) × (new ≡ new₂)
  called_alike e = (
    same_outcome (h.number ∙ ap (λ (x : calls.Outcome). x.number) e ∙ sym h₂.number)
        (h.place ∙ ap (λ (x : calls.Outcome). x.place) e ∙ sym h₂.place) (h.count ∙ ap calls.count e ∙ sym h₂.count),
    h.area ∙ ap (λ (x : calls.Outcome). calls.area_after x old) e ∙ sym h₂.area,
  )

  -- and is told by it
  pub called_told : (r ≡ r₂) × (new ≡ new₂) → o ≡ o₂
  called_told (e, f) = λ i. record { number = number i; place = place i; bytes = bytes i }
    where
      number : o.number ≡ o₂.number
      number = sym h.number ∙ ap (λ (x : Outcome). x.number) e ∙ h₂.number

      place : o.place ≡ o₂.place
      place = sym h.place ∙ ap (λ (x : Outcome). x.place) e ∙ h₂.place

      bytes : o.bytes ≡ o₂.bytes
      bytes = sym (written_is h) ∙ ap₂ (λ (x : Outcome) (l : List ℕ). written x l) e f ∙ written_is h₂

-- ---- numbers, places and refusals

-- which numbers and places are possible for a call, and what a refusal leaves; `Own` are those of the call's own, beside 0 and 1
pub record Settled (Own : ℕ → ℕ → Type 0) (r : Outcome) (old new : List ℕ) : Type 0 where
  pub number : (r.number ≤ 1) ⊎ Own r.number r.place
  -- "Success gives number 0, place 0"; number 1 stands at place 0 too
  pub place : r.number ≤ 1 → r.place ≡ 0
  -- 1: "The answer area is shorter than 384 bytes", which "comes before all"
  pub short : (r.number ≡ 1) ↔ (length old < answer_area)
  -- "a refused call counts 0", and "changes no byte of the answer area"
  pub unchanged : r.number ≢ 0 → (new ≡ old) × (r.count ≡ 0)

-- a number of sheets, 2 to 8 or 14, at a place of the sheet or at its end
abbrev pub SheetFault : List ℕ → ℕ → ℕ → Type 0
SheetFault sheet k at = Numbered k × (at ≤ length sheet)

-- 9: "What the answer reader is given is not the answer to any sheet; place 0"
abbrev pub NoAnswer : ℕ → ℕ → Type 0
NoAnswer k at = (k ≡ 9) × (at ≡ 0)

module _ (Own : ℕ → ℕ → Type 0) (r : Outcome) (old new : List ℕ) where
  -- of an outcome that the specification gives
  abbrev pub Settles : calls.Outcome → Type 0
  Settles o = Called o r old new → Settled Own r old new

  pub settled_short : length old < answer_area → Settles (calls.refused 1 0)
  settled_short l h = record {
    number = inl (omega (arith, h.number));
    place = λ k. h.place;
    short = ((λ e. l), (λ k. h.number));
    unchanged = λ ne. (h.area, h.count);
  }

  pub settled_within : (o : calls.Outcome) → (answer_area ≤ length old → Settles o) → Settles (calls.within (length old) o)
  settled_within o f =
      picked Settles (ltb (length old) answer_area) (λ t. settled_short (ltb→lt (length old) answer_area t)) (λ t. f (nltb→le (length old) answer_area t))

  module _ (l : answer_area ≤ length old) where
    pub settled_success : (bytes : List ℕ) → Settles (success bytes)
    settled_success bytes h = record {
      number = inl (omega (arith, h.number));
      place = λ k. h.place;
      short = ((λ e. absurd (omega (arith, h.number))), (λ k. absurd (omega arith)));
      unchanged = λ ne. absurd (ne h.number);
    }

    pub settled_refused : (k at : ℕ) → 2 ≤ k → Own k at → Settles (calls.refused k at)
    settled_refused k at large own h = record {
      number = inr (rw (h.number, h.place) own);
      place = λ j. absurd (omega (arith, h.number));
      short = ((λ e. absurd (omega (arith, h.number))), (λ j. absurd (omega arith)));
      unchanged = λ ne. (h.area, h.count);
    }

-- the numbers of `split` are 0 to 8 and 14
pub split_settled : (sheet : List ℕ) {r : Outcome} {old new : List ℕ} → Called (split_call (length old) sheet) r old new
    → Settled (SheetFault sheet) r old new
unfolding split_call
split_settled sheet {r} {old} {new} = settled_within (SheetFault sheet) r old new (answer_to (read_sheet sheet)) (λ l. read l (read_sheet sheet) refl)
  where
    read : answer_area ≤ length old → (x : Reading) → read_sheet sheet ≡ x → Settles (SheetFault sheet) r old new (answer_to x)
    read l (accepted s) e = unfold answer_to in settled_success (SheetFault sheet) r old new l (answer s)
    read l (fault k at) e =
        let numbered = fault_number sheet k at e in
        unfold answer_to in settled_refused (SheetFault sheet) r old new l k at (numbered_within k numbered).0 (numbered, (fault_place sheet k at e).1)

-- "The answer reader gives only 1 and 9"
pub read_settled : (bytes : List ℕ) {r : Outcome} {old new : List ℕ} → Called (read_call (length old) bytes) r old new → Settled NoAnswer r old new
unfolding read_call
read_settled bytes {r} {old} {new} =
    settled_within NoAnswer r old new _
    (λ l. picked (Settles NoAnswer r old new) (is_answer_to (read_sheet (sheet_in bytes)) bytes) (λ t. settled_success NoAnswer r old new l (sheet_in bytes))
    (λ t. settled_refused NoAnswer r old new l 9 0 (omega arith) (refl, refl)))

-- a call that succeeded had an area long enough
long_enough : {Own : ℕ → ℕ → Type 0} {r : Outcome} {old new : List ℕ} → Settled Own r old new → r.number ≡ 0 → answer_area ≤ length old
long_enough {old = old} h z = ⊎_elim (λ l. absurd (omega (arith, h.short.1 l))) (λ l. l) (lt_or_le (length old) answer_area)

-- ---- split

module _ (sheet : List ℕ) {r : Outcome} {old new : List ℕ} (h : Called (split_call (length old) sheet) r old new) where
  -- an accepted sheet gets its answer
  pub sheets_answered : answer_area ≤ length old → (s : Sheet) → read_sheet sheet ≡ accepted s → (r.number ≡ 0) × (written r new ≡ answer s)
  sheets_answered l s e = succeeds h (split_answered (length old) sheet l e)

  -- term 3: "The factor list of an accepted sheet cannot be bettered, whatever list is set against it"
  pub split_longest : answer_area ≤ length old → (s : Sheet) → read_sheet sheet ≡ accepted s → (r.number ≡ 0) × LongestIn s (written r new)
  split_longest l s e =
      let (z, is-answer) = sheets_answered l s e in
      (z, subst (LongestIn s) (sym is-answer) (term_3 sheet s e))

  -- "p to the power of the free digits is the number of settings offered for f"
  pub split_settings : answer_area ≤ length old → (s : Sheet) → read_sheet sheet ≡ accepted s → (r.number ≡ 0) × SettingsIn s (written r new)
  split_settings l s e =
      let (z, is-answer) = sheets_answered l s e in
      (z, subst (SettingsIn s) (sym is-answer) (settings sheet s e))

  -- "after how many pulses a pattern begins again"
  pub split_run : answer_area ≤ length old → (s : Sheet) → read_sheet sheet ≡ accepted s → s.run ≡ true
      → (r.number ≡ 0) × Run s.prime s.poly (run_in (written r new))
  split_run l s e asked =
      let (z, is-answer) = sheets_answered l s e in
      (z, subst (λ (bytes : List ℕ). Run s.prime s.poly (run_in bytes)) (sym is-answer) (runs sheet s e asked))

  split_success : r.number ≡ 0 → split_call (length old) sheet ≡ success (written r new)
  split_success z = split_succeeds (length old) sheet (sym h.number ∙ z) ∙ ap success (sym (written_is h))

  -- only an accepted sheet gets an answer
  pub split_accepted : r.number ≡ 0 → AnswerTo sheet (written r new)
  split_accepted z =
      (reader_exact (length old) (long_enough (split_settled sheet h) z) (written r new) sheet).0
      (split_then_read (length old) (written r new) sheet (split_success z))

-- ---- read

module _ (bytes : List ℕ) {r : Outcome} {old new : List ℕ} (h : Called (read_call (length old) bytes) r old new) where
  read_success : r.number ≡ 0 → read_call (length old) bytes ≡ success (written r new)
  read_success z = read_succeeds (length old) bytes (sym h.number ∙ z) ∙ ap success (sym (written_is h))

  -- "The reader accepts a byte string exactly when it is the answer to some sheet, and gives back that sheet"
  pub read_accepted : r.number ≡ 0 → AnswerTo (written r new) bytes
  read_accepted z = (reader_exact (length old) (long_enough (read_settled bytes h) z) bytes (written r new)).0 (read_success z)

  pub answers_accepted : answer_area ≤ length old → (t : List ℕ) → AnswerTo t bytes → (r.number ≡ 0) × (written r new ≡ t)
  answers_accepted l t a = succeeds h ((reader_exact (length old) l bytes t).1 a)

-- ---- each call undoes the other, in another area, if it is long enough

module _ {r r₂ : Outcome} {old new old₂ new₂ : List ℕ} (l : answer_area ≤ length old₂) where
  -- "and gives back that sheet"
  pub split_undone : (sheet : List ℕ) → Called (split_call (length old) sheet) r old new → r.number ≡ 0
      → Called (read_call (length old₂) (written r new)) r₂ old₂ new₂ → (r₂.number ≡ 0) × (written r₂ new₂ ≡ sheet)
  split_undone sheet h z h₂ = answers_accepted (written r new) h₂ l sheet (split_accepted sheet h z)

  pub read_undone : (bytes : List ℕ) → Called (read_call (length old) bytes) r old new → r.number ≡ 0
      → Called (split_call (length old₂) (written r new)) r₂ old₂ new₂ → (r₂.number ≡ 0) × (written r₂ new₂ ≡ bytes)
  read_undone bytes h z h₂ =
      let (s, e, is-answer) = read_accepted bytes h z in
      let (z₂, w) = sheets_answered (written r new) h₂ l s e in
      (z₂, w ∙ sym is-answer)
