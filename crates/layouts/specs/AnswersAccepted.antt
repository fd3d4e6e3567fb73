-- The answer reader: "The reader accepts a byte string exactly when it is the answer to some sheet, and gives back that sheet."
-- Proves it where the list read off every answer multiplies to the sheet's polynomial, as `claims` proves, and so that different sheets have
-- different answers and that the two calls undo each other. Assumes nothing.
use Rattle.std.specs.Prelude.{◌≡◌, ◌↔◌, true, not, List, ℕ, ◌≤◌, T, ltb}
use Rattle.std.proofs.Math.Path.{refl}
use Rattle.std.proofs.Common.{sym, ◌∙◌, ap, subst, arith, nltb→le}
use borrow.Author.Tests.{le-ltb}
use Rattle.specification.specs.Lists.{same}
use Rattle.specification.specs.Limits.{answer_area, ◌²}
use Rattle.specification.specs.Polynomials.{product}
use Rattle.specification.specs.Commands.{Command, operand, commands, first_with}
use Rattle.specification.specs.Sheets.{Sheet, Reading, accepted, fault, read_sheet, sheet_bytes}
use Rattle.specification.specs.Answers.{answer}
use Rattle.specification.specs.FactorList.{factor_list}
use Rattle.specification.specs.Calls.{Outcome, success, refused, answer_to, split_call, sheet_in, is_answer_to, read_call}
use Rattle.specification.specs.SheetClaims.{GoodSheet}
use Rattle.lists.specs.Tests.{picked, passes, fails}
use Rattle.lists.specs.SameLists.{same_equal, same_refl}
use Rattle.layouts.specs.ReaderBounds.{numbered_within}
use Rattle.layouts.specs.SheetsRead.{read_is_good, read_is_written, written_is_read}
use Rattle.layouts.specs.AnswerReadBack.{head_back, run_shown}
use Rattle.layouts.specs.SheetLength.{fault_number}

-- ---- what a call that succeeds has found

-- the sheet of which b is the answer, and its bytes t
abbrev pub Answered : List ℕ → List ℕ → Type 0
Answered b t = (s : Sheet) × GoodSheet s × (b ≡ answer s) × (t ≡ sheet_bytes s)

answered : (b : List ℕ) (r : Reading) → read_sheet (sheet_in b) ≡ r → T (is_answer_to r b) → Answered b (sheet_in b)
unfolding is_answer_to
answered b (accepted s) e t = (s, read_is_good (sheet_in b) s e, sym (same_equal (answer s) b t), read_is_written (sheet_in b) s e)
answered b (fault k at) e t = absurd t

-- of an outcome of the reader
abbrev Read : ℕ → List ℕ → Outcome → Type 0
Read area b o = o.number ≡ 0 → (answer_area ≤ area) × Answered b o.bytes

read_call_lem : (area : ℕ) (b : List ℕ) → Read area b (read_call area b)
unfolding read_call
read_call_lem area b =
    picked (Read area b) (ltb area answer_area) (λ t e. absurd (omega arith))
    (λ u. picked (Read area b) (is_answer_to (read_sheet (sheet_in b)) b)
    (λ t e. (nltb→le area answer_area u, answered b (read_sheet (sheet_in b)) refl t)) (λ t e. absurd (omega arith)))

-- of an outcome of the call that splits
abbrev Split : ℕ → List ℕ → Outcome → Type 0
Split area t o = o.number ≡ 0 → (answer_area ≤ area) × Answered o.bytes t

split_call_lem : (area : ℕ) (t : List ℕ) → Split area t (split_call area t)
unfolding split_call
split_call_lem area t = picked (Split area t) (ltb area answer_area) (λ k e. absurd (omega arith)) (λ u. go u (read_sheet t) refl)
  where
    go : T (not (ltb area answer_area)) → (r : Reading) → read_sheet t ≡ r → Split area t (answer_to r)
    go u (accepted s) e = unfold answer_to in λ z. (nltb→le area answer_area u, (s, read_is_good t s e, refl, read_is_written t s e))
    go u (fault k at) e = unfold answer_to in λ z. absurd (omega (arith, numbered_within k (fault_number t k at e)))

-- ---- the two calls undo each other

pub split_written : (area : ℕ) → answer_area ≤ area → (s : Sheet) → GoodSheet s → split_call area (sheet_bytes s) ≡ success (answer s)
unfolding split_call
split_written area l s g = rw (le-ltb area answer_area l, written_is_read s g) (unfold answer_to in refl)

pub split_succeeds : (area : ℕ) (t : List ℕ) → (split_call area t).number ≡ 0 → split_call area t ≡ success (split_call area t).bytes
split_succeeds area t e =
    let (l, (s, g, is-answer, is-sheet)) = split_call_lem area t e in ap (split_call area) is-sheet ∙ split_written area l s g ∙ ap success (sym is-answer)

pub read_then_split : (area : ℕ) (b t : List ℕ) → read_call area b ≡ success t → split_call area t ≡ success b
read_then_split area b t e =
    let (l, (s, g, is-answer, is-sheet)) = read_call_lem area b (ap (λ (o : Outcome). o.number) e) in
    ap (split_call area) (sym (ap (λ (o : Outcome). o.bytes) e) ∙ is-sheet) ∙ split_written area l s g ∙ ap success (sym is-answer)

self_answer : (s : Sheet) → is_answer_to (accepted s) (answer s) ≡ true
unfolding is_answer_to
self_answer s = passes (same (answer s) (answer s)) (same_refl (answer s))

prime_back : (s : Sheet) → operand (first_with 0x01 (commands (answer s))) 0 ≡ s.prime
prime_back s = ap (λ (c : Command). operand c 0) (head_back s)

module _ (multiplies : (s : Sheet) → GoodSheet s → product (s.prime ²) (factor_list (answer s)) ≡ s.poly) where
  sheet_in_answer : (s : Sheet) → GoodSheet s → sheet_in (answer s) ≡ sheet_bytes s
  unfolding sheet_in
  sheet_in_answer s g = rw (prime_back s, multiplies s g, run_shown s)

  read_answer : (area : ℕ) → answer_area ≤ area → (s : Sheet) → GoodSheet s → read_call area (answer s) ≡ success (sheet_bytes s)
  unfolding read_call
  read_answer area l s g = rw (le-ltb area answer_area l, sheet_in_answer s g, written_is_read s g, self_answer s)

  pub split_then_read : (area : ℕ) (b t : List ℕ) → split_call area t ≡ success b → read_call area b ≡ success t
  split_then_read area b t e =
      let (l, (s, g, is-answer, is-sheet)) = split_call_lem area t (ap (λ (o : Outcome). o.number) e) in
      ap (read_call area) (sym (ap (λ (o : Outcome). o.bytes) e) ∙ is-answer) ∙ read_answer area l s g ∙ ap success (sym is-sheet)

  -- ---- the reader

  -- "The reader accepts a byte string exactly when it is the answer to some sheet, and gives back that sheet"
  pub reader_accepts_exactly : (area : ℕ) → answer_area ≤ area → (b t : List ℕ) → (read_call area b ≡ success t) ↔ Answered b t
  reader_accepts_exactly area l b t = (
    (λ e. subst (Answered b) (ap (λ (o : Outcome). o.bytes) e) (read_call_lem area b (ap (λ (o : Outcome). o.number) e)).1),
    (λ (s, g, is-answer, is-sheet). ap (read_call area) is-answer ∙ read_answer area l s g ∙ ap success (sym is-sheet)),
  )

  -- 9: "What the answer reader is given is not the answer to any sheet; place 0"
  pub reader_refuses_exactly : (area : ℕ) → answer_area ≤ area → (b : List ℕ) → (read_call area b ≡ refused 9 0) ↔ ((s : Sheet) → GoodSheet s → b ≡ answer s → ⊥)
  reader_refuses_exactly area l b = (not_an_answer, none)
    where
      not_an_answer : read_call area b ≡ refused 9 0 → (s : Sheet) → GoodSheet s → b ≡ answer s → ⊥
      not_an_answer e s g is-answer =
          let number : ◌≡◌ {A = ℕ} 0 9 = ap (λ (o : Outcome). o.number) (sym (ap (read_call area) is-answer ∙ read_answer area l s g) ∙ e) in omega arith

      none : ((s : Sheet) → GoodSheet s → b ≡ answer s → ⊥) → read_call area b ≡ refused 9 0
      none h =
          unfold read_call in
          rw (
            le-ltb area answer_area l,
            fails (is_answer_to (read_sheet (sheet_in b)) b)
                (λ t. let (s, g, is-answer, is-sheet) = answered b (read_sheet (sheet_in b)) refl t in h s g is-answer),
          )

  -- number 0 is success
  pub read_succeeds : (area : ℕ) (b : List ℕ) → (read_call area b).number ≡ 0 → read_call area b ≡ success (read_call area b).bytes
  read_succeeds area b e = let (l, a) = read_call_lem area b e in (reader_accepts_exactly area l b (read_call area b).bytes).1 a
