-- What is claimed of the answer reader, as types: it accepts exactly the answers, and gives back their sheets.
-- `ReaderExact`, with `AnswerTo` for the sheet of an answer, and `ReaderRefuses` for number 9.
use Rattle.std.specs.Prelude.{◌≡◌, ◌↔◌, ℕ, ◌≤◌, List}
use Rattle.specification.specs.Limits.{answer_area}
use Rattle.specification.specs.Sheets.{Sheet, accepted, read_sheet}
use Rattle.specification.specs.Answers.{answer}
use Rattle.specification.specs.Calls.{success, refused, read_call}

-- bytes t are a sheet, and b is its answer
abbrev pub AnswerTo : List ℕ → List ℕ → Type 0
AnswerTo t b = (s : Sheet) × (read_sheet t ≡ accepted s) × (b ≡ answer s)

-- term 2: "The reader accepts a byte string exactly when it is the answer to some sheet, and gives back that sheet"
abbrev pub ReaderExact : Type 0
ReaderExact = (area : ℕ) → answer_area ≤ area → (b t : List ℕ) → (read_call area b ≡ success t) ↔ AnswerTo t b

-- 9: "What the answer reader is given is not the answer to any sheet; place 0"
abbrev pub ReaderRefuses : Type 0
ReaderRefuses = (area : ℕ) → answer_area ≤ area → (b : List ℕ) → (read_call area b ≡ refused 9 0) ↔ ((t : List ℕ) → AnswerTo t b → ⊥)
