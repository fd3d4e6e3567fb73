-- Term 3 of document 00, as a type: of the bytes of every accepted sheet's answer, and of what a call leaves in the area.
-- `LongestIn` of a sheet and bytes, `Term3` of every accepted sheet, `Term3Call` of a call.
use Rattle.std.specs.Prelude.{◌≡◌, ℕ, ◌≤◌, List, length, take}
use Rattle.specification.specs.Limits.{answer_area, ◌²}
use Rattle.specification.specs.Sheets.{Sheet, accepted, read_sheet}
use Rattle.specification.specs.Answers.{answer}
use Rattle.specification.specs.FactorList.{factor_list, factor_total, different_total}
use Rattle.specification.specs.Calls.{Outcome, split_call, count, area_after}
use Rattle.specification.specs.Longest.{Longest}

-- term 3 of a sheet: the list, s and z are "read off bytes"
abbrev pub LongestIn : Sheet → List ℕ → Type 0
LongestIn s bytes = Longest (s.prime ²) s.poly (factor_list bytes) (factor_total bytes) (different_total bytes)

-- "a single claim about the whole list of f, over all accepted sheets and all lists set against it"
abbrev pub Term3 : Type 0
Term3 = (bytes : List ℕ) (s : Sheet) → read_sheet bytes ≡ accepted s → LongestIn s (answer s)

-- the same of a call: the bytes are those of the answer area up to the count
abbrev pub Term3Call : Type 0
Term3Call =
    (area bytes : List ℕ) (s : Sheet) → answer_area ≤ length area → read_sheet bytes ≡ accepted s
    → let o : Outcome = split_call (length area) bytes in LongestIn s (take (count o) (area_after o area))
