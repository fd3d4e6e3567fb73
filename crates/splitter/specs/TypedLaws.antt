-- What request 3 of document 02 says of the call that makes a sheet of a typed line: of the number, the place, the count and the area that it gives back.
-- Proves which numbers and places there are, each in its case and in no other; that a line passes 15 exactly where the grammar gives it; which lines get a
-- sheet, and which; that nothing else decides what comes back; and that a split of the sheet has term 3 for the polynomial that was typed. Assumes nothing.
use Rattle.std.specs.Prelude.{◌≡◌, refl, ◌⊎◌, ◌≢◌, ◌↔◌, List, [], ◌∷◌, ℕ, ◌≤◌, length}
use Rattle.std.proofs.Common.{sym, ◌∙◌, ap, subst, inl, inr, ⊎_elim, arith}
use Rattle.specification.specs.Limits.{answer_area, line_limit}
use Rattle.specification.specs.Sheets.{accepted, read_sheet}
use Rattle.specification.specs.Calls as calls
use Rattle.specification.specs.Calls.{split_call}
use Rattle.specification.specs.Term3.{LongestIn}
use Rattle.specification.specs.Grammar.{Tree, Line}
use Rattle.specification.specs.TypedLines.{NoLine, Typed, short_area, long_line, no_line, is_line}
use Rattle.specification.specs.TypedClaims.{SheetOfLine, typed_sheet, TooLarge, PrimeNotTaken, NoPattern}
use Rattle.grammar.proofs.TypedOutcomes.{typed_once}
use Rattle.grammar.specs.TypedOutcomes.{typed_numbers, Worked, worked_success, worked_4, worked_16, worked_17, worked_cases}
use Rattle.grammar.specs.TypedSheets.{line_sheet}
use Rattle.claims.specs.Proved.{line_or_place, sheets_typed, typed_accepted, refusals_in_case}
use Rattle.splitter.specs.declared.Outcome.{Outcome}
use Rattle.splitter.specs.Outcomes.{Called, TypedCall}
use Rattle.splitter.specs.CallLaws.{
  written,
  written_is,
  succeeds,
  called_alike,
  Settled,
  Settles,
  settled_short,
  settled_success,
  settled_refused,
  split_longest,
}

-- ---- numbers and places

-- 15 at its place; 4, 16 or 17 at place 0
abbrev pub LineFault : List ℕ → ℕ → ℕ → Type 0
LineFault line k at = ((k ≡ 15) × NoLine line at) ⊎ (((k ≡ 4) ⊎ (k ≡ 16) ⊎ (k ≡ 17)) × (at ≡ 0))

module _ (line : List ℕ) (r : Outcome) (old new : List ℕ) where
  abbrev Fine : calls.Outcome → Type 0
  Fine o = Settles (LineFault line) r old new o

  worked_settled : answer_area ≤ length old → {o : calls.Outcome} → Worked o → Fine o
  worked_settled l (worked_success bytes) = settled_success (LineFault line) r old new l bytes
  worked_settled l worked_4 = settled_refused (LineFault line) r old new l 4 0 (omega arith) (inr (inl refl, refl))
  worked_settled l worked_16 = settled_refused (LineFault line) r old new l 16 0 (omega arith) (inr (inr (inl refl), refl))
  worked_settled l worked_17 = settled_refused (LineFault line) r old new l 17 0 (omega arith) (inr (inr (inr refl), refl))

  outcome_settled : {o : calls.Outcome} → Typed (length old) line o → Fine o
  outcome_settled (short_area l e) = subst Fine (sym e) (settled_short (LineFault line) r old new l)
  outcome_settled (long_line l w e) = subst Fine (sym e) (worked_settled l worked_16)
  outcome_settled (no_line {k = k} l w v e) = subst Fine (sym e) (settled_refused (LineFault line) r old new l 15 k (omega arith) (inl (refl, v)))
  outcome_settled (is_line {p = p} {t} l w v e) = subst Fine (sym e) (worked_settled l (worked_cases p t))

-- the numbers of `typed` are 0, 1, 4 and 15 to 17
pub typed_settled : (line : List ℕ) {r : Outcome} {old new : List ℕ} → TypedCall line r old new → Settled (LineFault line) r old new
typed_settled line {r} {old} {new} h = outcome_settled line r old new h.typed h.called

-- ---- one call

module _ (line : List ℕ) {r : Outcome} {old new : List ℕ} (h : TypedCall line r old new) where
  module _ (l : answer_area ≤ length old) (short : length line ≤ line_limit) where
    -- 15, "at the first byte with which no line can go on or at the line's length"
    pub no_line_told : (k : ℕ) → NoLine line k → (r.number ≡ 15) × (r.place ≡ k)
    no_line_told k w =
        let e = typed_once h.typed (no_line l short w refl) in
        (h.called.number ∙ ap (λ (o : calls.Outcome). o.number) e, h.called.place ∙ ap (λ (o : calls.Outcome). o.place) e)

    -- "A line passes 15 exactly when that grammar gives it"
    pub passes_exactly : (r.number ≢ 15) ↔ ((p : ℕ) × (t : Tree) × Line line p t)
    passes_exactly = (
      (λ ne. ⊎_elim (λ v. v) (λ w. absurd (ne (no_line_told w.0 w.1).0)) (line_or_place line).either),
      (λ v e. at v (typed_settled line h).number e),
    )
      where
        at : (p : ℕ) × (t : Tree) × Line line p t → (r.number ≤ 1) ⊎ LineFault line r.number r.place → r.number ≡ 15 → ⊥
        at v (inl low) e = omega (arith, low, e)
        at v (inr (inl (k, w))) e = w.not_such v.0 v.1 v.2
        at v (inr (inr (inl k, z))) e = omega (arith, k, e)
        at v (inr (inr (inr (inl k), z))) e = omega (arith, k, e)
        at v (inr (inr (inr (inr k), z))) e = omega (arith, k, e)

  -- the bytes that were written are the outcome's
  success_is : r.number ≡ 0 → h.outcome ≡ calls.success (written r new)
  success_is z =
      let n = sym h.called.number ∙ z in
      let p = (typed_numbers h.typed).place (λ e. omega (arith, n, e)) in
      let b = sym (written_is h.called) in
      λ i. record { number = n i; place = p i; bytes = b i }

  written_typed : r.number ≡ 0 → Typed (length old) line (calls.success (written r new))
  written_typed z = subst (Typed (length old) line) (success_is z) h.typed

  -- only a line that means a sheet gets one, and it is that sheet
  pub sheet_typed : r.number ≡ 0 → SheetOfLine line (written r new)
  sheet_typed z = line_sheet (written_typed z)

  -- and each such line gets it
  pub lines_typed : answer_area ≤ length old → (bytes : List ℕ) → SheetOfLine line bytes → (r.number ≡ 0) × (written r new ≡ bytes)
  lines_typed l bytes s = succeeds h.called (typed_once h.typed ((sheets_typed (length old) l line bytes).1 s))

  -- what was written is taken as the sheet of what the line means
  pub sheet_accepted : (p : ℕ) (t : Tree) → Line line p t → r.number ≡ 0 → read_sheet (written r new) ≡ accepted (typed_sheet p t)
  sheet_accepted p t v z = typed_accepted (length old) line (written r new) p t v (written_typed z)

  -- term 3 of the polynomial that was typed
  pub typed_longest : (p : ℕ) (t : Tree) → Line line p t → r.number ≡ 0 → {r₂ : Outcome} {old₂ new₂ : List ℕ} → answer_area ≤ length old₂
      → Called (split_call (length old₂) (written r new)) r₂ old₂ new₂ → (r₂.number ≡ 0) × LongestIn (typed_sheet p t) (written r₂ new₂)
  typed_longest p t v z l₂ h₂ = split_longest (written r new) h₂ l₂ (typed_sheet p t) (sheet_accepted p t v z)

-- ---- the other numbers, each in its case and in no other

no_bytes : (bytes : List ℕ) → length bytes ≡ 0 → bytes ≡ []
no_bytes [] e = refl
no_bytes (b ∷ bytes) e = absurd (omega (arith, e))

module _ (line : List ℕ) {r : Outcome} {old new : List ℕ} (h : TypedCall line r old new) where
  -- a refusal at place 0 is all of its outcome
  refusal_is : (k : ℕ) → k ≢ 0 → k ≢ 15 → r.number ≡ k → h.outcome ≡ calls.refused k 0
  refusal_is k ne other e =
      let n = sym h.called.number ∙ e in
      let p = (typed_numbers h.typed).place (λ z. other (sym n ∙ z)) in
      let none = ((typed_settled line h).unchanged (λ z. ne (sym e ∙ z))).1 in
      let b = no_bytes h.outcome.bytes (sym h.called.count ∙ none) in
      λ i. record { number = n i; place = p i; bytes = b i }

  module _ (l : answer_area ≤ length old) where
    told : (k : ℕ) → k ≢ 0 → k ≢ 15 → {Its : Type 0} → Typed (length old) line (calls.refused k 0) ↔ Its → (r.number ≡ k) ↔ Its
    told k ne other (to, from) = (
      (λ e. to (subst (Typed (length old) line) (refusal_is k ne other e) h.typed)),
      (λ its. h.called.number ∙ ap (λ (o : calls.Outcome). o.number) (typed_once h.typed (from its))),
    )

    pub told_16 : (r.number ≡ 16) ↔ TooLarge line
    told_16 = told 16 (λ z. omega (arith, z)) (λ z. omega (arith, z)) (refusals_in_case (length old) l line).sixteen

    pub told_4 : (r.number ≡ 4) ↔ PrimeNotTaken line
    told_4 = told 4 (λ z. omega (arith, z)) (λ z. omega (arith, z)) (refusals_in_case (length old) l line).four

    pub told_17 : (r.number ≡ 17) ↔ NoPattern line
    told_17 = told 17 (λ z. omega (arith, z)) (λ z. omega (arith, z)) (refusals_in_case (length old) l line).seventeen

-- ---- two calls with one line on one area

pub typed_alike : (line : List ℕ) {r r₂ : Outcome} {old new new₂ : List ℕ} → TypedCall line r old new → TypedCall line r₂ old new₂
    → (r ≡ r₂) × (new ≡ new₂)
typed_alike line h h₂ = called_alike h.called h₂.called (typed_once h.typed h₂.typed)
