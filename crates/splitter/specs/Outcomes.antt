-- What a call gives back and leaves in the area: `Called o r old new`, the code's outcome r and the area new are what the outcome o of the specification says.
-- Proves this of a call that is turned back and of one that wrote its bytes, and what `split_call` and `copy_call` are in each case. Assumes nothing.
use Rattle.std.specs.Prelude.{◌≡◌, List, ℕ, ◌≤◌, ◌<◌, length}
use Rattle.std.proofs.Common.{sym, ◌∙◌, ap, lt-ltb, le-ltb}
use Rattle.specification.specs.Limits.{answer_area}
use Rattle.specification.specs.Sheets.{Sheet, accepted, fault, read_sheet}
use Rattle.specification.specs.Answers.{answer}
use Rattle.specification.specs.Calls as calls
use Rattle.specification.specs.Copy.{copy_call}
use Rattle.specification.specs.CopyClaims.{copy}
use Rattle.specification.specs.TypedLines.{Typed}
use Rattle.copies.specs.CopiesHold.{call_shown, shown_refused, shown_accepted}
use Rattle.area.specs.Wrote.{Wrote, wrote_from_start}
use Rattle.splitter.specs.declared.Outcome.{Outcome}

-- "Success gives number 0, place 0 and the count of bytes written"
abbrev pub IsSuccess : ℕ → Outcome → Type 0
IsSuccess n r = r ≡ record { number = 0; place = 0; count = n }

-- "a refused call counts 0"
abbrev pub IsRefused : ℕ → ℕ → Outcome → Type 0
IsRefused k at r = r ≡ record { number = k; place = at; count = 0 }

pub record Called (o : calls.Outcome) (r : Outcome) (old new : List ℕ) : Type 0 where
  pub number : r.number ≡ o.number
  pub place : r.place ≡ o.place
  pub count : r.count ≡ calls.count o
  -- the bytes written, and after them the old ones
  pub area : new ≡ calls.area_after o old

-- of a typed line: its outcome is the one that `Typed` fixes
pub record TypedCall (line : List ℕ) (r : Outcome) (old new : List ℕ) : Type 0 where
  pub outcome : calls.Outcome
  pub typed : Typed (length old) line outcome
  pub called : Called outcome r old new

-- "changes no byte of the answer area"
pub called_refused : {o : calls.Outcome} {k at : ℕ} {r : Outcome} {area : List ℕ} → o ≡ calls.refused k at → IsRefused k at r → Called o r area area
called_refused {o} {k} {at} {r} {area} e h = record {
  number = ap (λ (a : Outcome). a.number) h ∙ sym (ap (λ (a : calls.Outcome). a.number) e);
  place = ap (λ (a : Outcome). a.place) h ∙ sym (ap (λ (a : calls.Outcome). a.place) e);
  count = ap (λ (a : Outcome). a.count) h ∙ sym (ap calls.count e);
  area = sym (ap (λ (a : calls.Outcome). calls.area_after a area) e);
}

pub called_wrote : {o : calls.Outcome} {bytes : List ℕ} {n : ℕ} {r : Outcome} {old new : List ℕ} → o ≡ calls.success bytes → IsSuccess n r
    → Wrote old new 0 bytes n → Called o r old new
called_wrote {old = old} e h w = record {
  number = ap (λ (a : Outcome). a.number) h ∙ sym (ap (λ (a : calls.Outcome). a.number) e);
  place = ap (λ (a : Outcome). a.place) h ∙ sym (ap (λ (a : calls.Outcome). a.place) e);
  count = ap (λ (a : Outcome). a.count) h ∙ (wrote_from_start w).0 ∙ sym (ap calls.count e);
  area = (wrote_from_start w).1 ∙ sym (ap (λ (a : calls.Outcome). calls.area_after a old) e);
}

-- ---- the call that splits a sheet

pub split_short : (area : ℕ) (bytes : List ℕ) → area < answer_area → calls.split_call area bytes ≡ calls.refused 1 0
unfolding calls.split_call
split_short area bytes l = rw (lt-ltb area answer_area l)

module _ (area : ℕ) (bytes : List ℕ) (l : answer_area ≤ area) where
  pub split_refused : {k at : ℕ} → read_sheet bytes ≡ fault k at → calls.split_call area bytes ≡ calls.refused k at
  unfolding calls.split_call calls.answer_to
  split_refused e = rw (le-ltb area answer_area l, e)

  pub split_answered : {s : Sheet} → read_sheet bytes ≡ accepted s → calls.split_call area bytes ≡ calls.success (answer s)
  unfolding calls.split_call calls.answer_to
  split_answered e = rw (le-ltb area answer_area l, e)

-- ---- the call that copies a sheet

module _ (area : ℕ) (bytes : List ℕ) (l : answer_area ≤ area) where
  -- "with place 0"
  pub copy_refused : {k at : ℕ} → read_sheet bytes ≡ fault k at → copy_call area bytes ≡ calls.refused k 0
  copy_refused {k} {at} e = call_shown area bytes l ∙ shown_refused bytes k at e

  pub copy_given : {s : Sheet} → read_sheet bytes ≡ accepted s → copy_call area bytes ≡ calls.success (copy s)
  copy_given {s} e = call_shown area bytes l ∙ shown_accepted bytes s e
