-- What request 2 of document 02 says of the call that copies, and of two such calls: of the number, the place, the count and the area that each gives back
-- (`Called` of its contract). Proves which numbers there are, all at place 0; that an accepted sheet gets its copy, with the pairs of its answer; and that
-- two calls agree in all that is seen where the figures agree, or the numbers of refusals, and nowhere else. Assumes nothing.
use Rattle.std.specs.Prelude.{◌≡◌, refl, ◌⊎◌, ◌≢◌, ◌↔◌, List, ℕ, ◌≤◌, ◌<◌, length}
use Rattle.std.proofs.Common.{sym, ◌∙◌, ap, subst, ⊎_elim, arith}
use Rattle.specification.specs.Limits.{answer_area}
use Rattle.specification.specs.Sheets.{Sheet, Reading, accepted, fault, read_sheet}
use Rattle.specification.specs.Answers.{answer}
use Rattle.specification.specs.Calls as calls
use Rattle.specification.specs.Calls.{split_call}
use Rattle.specification.specs.Copy.{visible, shown, copy_call}
use Rattle.specification.specs.CopyClaims.{SortedFrom, pairs_in, copy, CopyFrom, Alike, SeenAlike}
use Rattle.algebra.specs.Numbers.{lt_or_le}
use Rattle.layouts.specs.ReaderBounds.{Numbered, numbered_within}
use Rattle.layouts.specs.SheetLength.{fault_number}
use Rattle.claims.specs.Proved.{figures_read_off, copies_show, alike_copies, nothing_else_seen}
use Rattle.splitter.specs.declared.Outcome.{Outcome}
use Rattle.splitter.specs.Outcomes.{Called, split_refused, copy_given, copy_refused}
use Rattle.splitter.specs.CallLaws.{
  written,
  written_is,
  succeeds,
  same_outcome,
  called_alike,
  called_told,
  Settled,
  Settles,
  settled_within,
  settled_success,
  settled_refused,
  split_settled,
  sheets_answered,
}

-- ---- one call

-- "A refused sheet shows its number with place 0": 2 to 8 or 14
abbrev pub NumberAlone : ℕ → ℕ → Type 0
NumberAlone k at = Numbered k × (at ≡ 0)

-- the numbers of `copy` are 0 to 8 and 14, each at place 0
pub copy_settled : (sheet : List ℕ) {r : Outcome} {old new : List ℕ} → Called (copy_call (length old) sheet) r old new → Settled NumberAlone r old new
unfolding copy_call visible shown
copy_settled sheet {r} {old} {new} =
    settled_within NumberAlone r old new (shown (visible (read_sheet sheet))) (λ l. read l (read_sheet sheet) refl)
  where
    read : answer_area ≤ length old → (x : Reading) → read_sheet sheet ≡ x → Settles NumberAlone r old new (shown (visible x))
    read l (accepted s) e = settled_success NumberAlone r old new l (copy s)
    read l (fault k at) e =
        let numbered = fault_number sheet k at e in
        settled_refused NumberAlone r old new l k 0 (numbered_within k numbered).0 (numbered, refl)

module _ (sheet : List ℕ) {r : Outcome} {old new : List ℕ} (h : Called (copy_call (length old) sheet) r old new) where
  -- the place is 0 whatever comes back
  pub copy_place : r.place ≡ 0
  copy_place = let settled = copy_settled sheet h in ⊎_elim (λ l. settled.place l) (λ own. own.1) settled.number

  module _ (l : answer_area ≤ length old) where
    pub sheets_copied : (s : Sheet) → read_sheet sheet ≡ accepted s → (r.number ≡ 0) × (written r new ≡ copy s)
    sheets_copied s e = succeeds h (copy_given (length old) sheet l e)

    -- the bytes show the sheet's prime and degree and the degree and times of each factor of its answer, sorted, and nothing else
    pub copy_shows : (s : Sheet) → read_sheet sheet ≡ accepted s → CopyFrom s (written r new)
    copy_shows s e = subst (CopyFrom s) (sym (sheets_copied s e).1) (copies_show sheet s e).holds

    -- "shows its number"
    pub refusals_told : (k at : ℕ) → read_sheet sheet ≡ fault k at → r.number ≡ k
    refusals_told k at e = h.number ∙ ap (λ (o : calls.Outcome). o.number) (copy_refused (length old) sheet l e)

    -- only an accepted sheet gets a copy
    pub copy_accepted : r.number ≡ 0 → (s : Sheet) × (read_sheet sheet ≡ accepted s)
    copy_accepted z = read (read_sheet sheet) refl
      where
        read : (x : Reading) → read_sheet sheet ≡ x → (s : Sheet) × (read_sheet sheet ≡ accepted s)
        read (accepted s) e = (s, e)
        read (fault k at) e = absurd (omega (arith, z, refusals_told k at e, (numbered_within k (fault_number sheet k at e)).0))

    -- beside a call that splits the same sheet
    module _ {r₂ : Outcome} {old₂ new₂ : List ℕ} (l₂ : answer_area ≤ length old₂) (h₂ : Called (split_call (length old₂) sheet) r₂ old₂ new₂) where
      same_number : r.number ≡ r₂.number
      same_number = read (read_sheet sheet) refl
        where
          read : (x : Reading) → read_sheet sheet ≡ x → r.number ≡ r₂.number
          read (accepted s) e = (sheets_copied s e).0 ∙ sym (sheets_answered sheet h₂ l₂ s e).0
          read (fault k at) e =
              refusals_told k at e ∙ sym (h₂.number ∙ ap (λ (o : calls.Outcome). o.number) (split_refused (length old₂) sheet l₂ e))

      -- the pairs are those of the answer that it wrote
      pub answer_copied : r.number ≡ 0 → SortedFrom (pairs_in (written r₂ new₂)) (pairs_in (written r new))
      answer_copied z =
          let (s, e) = copy_accepted z in
          let shows = copy_shows s e in
          let shown-pairs = ap pairs_in shows.layout ∙ (figures_read_off _).pairs in
          subst (λ p. SortedFrom p (pairs_in (written r new))) (sym (ap pairs_in (sheets_answered sheet h₂ l₂ s e).1))
          (subst (SortedFrom (pairs_in (answer s))) (sym shown-pairs) shows.sorted_from)

  -- the number is that of `split`, if both areas are long enough or neither is
  pub numbers_agree : {r₂ : Outcome} {old₂ new₂ : List ℕ} → Called (split_call (length old₂) sheet) r₂ old₂ new₂
      → (length old < answer_area) ↔ (length old₂ < answer_area) → r.number ≡ r₂.number
  numbers_agree {old₂ = old₂} h₂ both =
      ⊎_elim (λ s. (copy_settled sheet h).short.1 s ∙ sym ((split_settled sheet h₂).short.1 (both.0 s)))
      (λ l. ⊎_elim (λ s. absurd (omega (arith, both.1 s))) (λ l₂. same_number l l₂ h₂) (lt_or_le (length old₂) answer_area))
      (lt_or_le (length old) answer_area)

-- ---- two calls, each on an area of its own

module _ (b c : List ℕ) {r r₂ : Outcome} {old new old₂ new₂ : List ℕ}
    (h : Called (copy_call (length old) b) r old new) (h₂ : Called (copy_call (length old₂) c) r₂ old₂ new₂) where
  -- "two refused ones do so where their numbers agree"
  pub refused_alike : r.number ≢ 0 → r.number ≡ r₂.number → (r ≡ r₂) × (new ≡ old) × (new₂ ≡ old₂)
  refused_alike ne e =
      let first = (copy_settled b h).unchanged ne in
      let second = (copy_settled c h₂).unchanged (λ z. ne (e ∙ z)) in (
        same_outcome e (copy_place b h ∙ sym (copy_place c h₂)) (first.1 ∙ sym second.1),
        first.0,
        second.0,
      )

  module _ (l : answer_area ≤ length old) (l₂ : answer_area ≤ length old₂) (s t : Sheet) (e : read_sheet b ≡ accepted s) (e₂ : read_sheet c ≡ accepted t) where
    -- "Any two accepted sheets alike in exactly those figures give the same copy, byte for byte"
    pub alike_copied : Alike s t → (r ≡ r₂) × (written r new ≡ written r₂ new₂)
    alike_copied alike =
        let (z, w) = sheets_copied b h l s e in
        let (z₂, w₂) = sheets_copied c h₂ l₂ t e₂ in
        let same = w ∙ (alike_copies b c s t e e₂).0 alike ∙ sym w₂ in
        let count = h.count ∙ ap length (sym (written_is h) ∙ same ∙ written_is h₂) ∙ sym h₂.count in
        (same_outcome (z ∙ sym z₂) (copy_place b h ∙ sym (copy_place c h₂)) count, same)

    -- "exactly those": the copy shows them
    pub copied_alike : written r new ≡ written r₂ new₂ → Alike s t
    copied_alike same = (alike_copies b c s t e e₂).1 (sym (sheets_copied b h l s e).1 ∙ same ∙ (sheets_copied c h₂ l₂ t e₂).1)

-- ---- two calls on the same area: the whole outcome and the whole area

module _ (b c : List ℕ) {r r₂ : Outcome} {old new new₂ : List ℕ}
    (h : Called (copy_call (length old) b) r old new) (h₂ : Called (copy_call (length old) c) r₂ old new₂) where
  -- beside the bytes that stood in the area before, all that is seen is a function of the figures, or of the number, and these are seen
  pub seen_exactly : ((length old < answer_area) ⊎ SeenAlike b c) ↔ ((r ≡ r₂) × (new ≡ new₂))
  seen_exactly =
      let (same, told) = nothing_else_seen (length old) b c in
      ((λ alike. called_alike h h₂ (same alike)), (λ e. told (called_told h h₂ e)))
