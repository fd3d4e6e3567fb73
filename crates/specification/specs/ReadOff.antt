-- What is read off an answer's bytes, as types: its list and its totals are those of items 1 to 9, and the degrees add up.
-- `ReadOff` of a sheet, `AnswersReadOff` and `DegreesAddUp` of every accepted sheet.
use Rattle.std.specs.Prelude.{◌≡◌, ℕ, ◌+◌, List, [], ◌∷◌}
use Rattle.specification.specs.Polynomials.{Poly, degree}
use Rattle.specification.specs.Parts.{parts_of}
use Rattle.specification.specs.Totals.{list_of, total, different, free_digits}
use Rattle.specification.specs.Sheets.{Sheet, accepted, read_sheet}
use Rattle.specification.specs.Answers.{answer}
use Rattle.specification.specs.FactorList.{factor_list, factor_total, different_total, free_total}

-- the list and the totals in an answer's bytes are those of items 1 to 9
pub record ReadOff (s : Sheet) : Type 0 where
  pub list : factor_list (answer s) ≡ list_of (parts_of s.prime s.poly)
  pub total : factor_total (answer s) ≡ total (parts_of s.prime s.poly)
  pub different : different_total (answer s) ≡ different (list_of (parts_of s.prime s.poly))
  pub free : free_total (answer s) ≡ free_digits (parts_of s.prime s.poly)

-- of every accepted sheet
abbrev pub AnswersReadOff : Type 0
AnswersReadOff = (bytes : List ℕ) (s : Sheet) → read_sheet bytes ≡ accepted s → ReadOff s

-- the degrees of a list written out, so that each counts "times its repeats"
unfoldable pub degree_sum : List Poly → ℕ
degree_sum [] = 0
degree_sum (f ∷ fs) = degree f + degree_sum fs

-- "The degrees of the factors, each times its repeats, add up to the degree of f"
abbrev pub DegreesAddUp : Type 0
DegreesAddUp = (bytes : List ℕ) (s : Sheet) → read_sheet bytes ≡ accepted s → degree_sum (factor_list (answer s)) ≡ degree s.poly
