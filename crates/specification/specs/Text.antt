-- The text that the program `split` prints for the bytes it is given, in ASCII: `printed`; what the program `copy` gives
-- out: `copied`; and what the program `sheet` gives out for a typed line: `SheetSent`.
-- Numbers are in base ten; a space stands between words and numbers, and each line ends with a line feed.
use Rattle.std.specs.Prelude.{◌≡◌, ℕ, zero, suc, ◌+◌, ◌/◌, ◌%◌, true, false, cond, eqb, ltb}
use Prim.Native.Char.{code}
use Prim.Native.String as string
use mathlib.Core.List.{List, [], ◌∷◌, ◌++◌, flat_map}
use Rattle.specification.specs.Limits.{answer_area}
use Rattle.specification.specs.Polynomials.{Poly, degree}
use Rattle.specification.specs.Parts.{Verdict, basic, solid, power, split, Factor, Part, parts_of}
use Rattle.specification.specs.Totals.{Totals, totals_of}
use Rattle.specification.specs.RunLength.{run_length}
use Rattle.specification.specs.Sheets.{Sheet, accepted, fault, read_sheet}
use Rattle.specification.specs.Calls.{Outcome}
use Rattle.specification.specs.Copy.{Visible, figures, number, copy_of, visible}
use Rattle.specification.specs.TypedLines.{Typed}

-- ---- words and numbers

-- a text's characters, one byte each
abbrev pub ascii : string.String → List ℕ
ascii string.[] = []
ascii (string.◌∷◌ c s) = code c ∷ ascii s

-- the digit d: "0" is 48
abbrev pub digit : ℕ → ℕ
digit d = 48 + d

-- the last digits of n, k at most: those before the last are the digits of n / 10
unfoldable pub last_digits : ℕ → ℕ → List ℕ
last_digits zero n = []
last_digits (suc k) n = elim (ltb n 10) [ true ↦ digit n ∷ [] | false ↦ last_digits k (n / 10) ++ (digit (n % 10) ∷ []) ]

-- n in base ten, with no zeros before it: it has no more than n + 1 digits
unfoldable pub decimal : ℕ → List ℕ
decimal n = last_digits (suc n) n

-- a number after its word
abbrev pub item : string.String → ℕ → List ℕ
item word n = ascii word ++ decimal n

-- ---- the lines of an answer

-- "prime 3 degree 3"
unfoldable pub head_text : ℕ → ℕ → List ℕ
head_text p d = item "prime " p ++ item " degree " d ++ ascii "\n"

-- "verdict word (basic, solid, power, split)", at the end of its line
abbrev pub verdict_text : Verdict → List ℕ
verdict_text basic = ascii " basic\n"
verdict_text solid = ascii " solid\n"
verdict_text power = ascii " power\n"
verdict_text (split m1) = ascii " split\n"

-- each coefficient after a space
unfoldable pub coefficient_text : Poly → List ℕ
coefficient_text f = flat_map (item " ") f

-- "`factor`: times, then coefficients from the constant up to the leading 1"
unfoldable pub factor_text : Factor → List ℕ
factor_text q = item "factor " q.times ++ coefficient_text q.poly ++ ascii "\n"

-- "`part`: degree of G, power m, verdict word", and the lines of the part's factors
unfoldable pub part_text : Part → List ℕ
part_text P =
    item "part " (degree P.base) ++ item " " P.exponent ++ verdict_text P.splitting.verdict ++ flat_map factor_text P.splitting.factors

-- "The last line holds the three totals", unless a run follows
unfoldable pub total_text : Totals → List ℕ
total_text t = item "total " t.factors ++ item " different " t.different ++ item " free " t.free ++ ascii "\n"

-- "`split` prints `run` and the number as its last line", if the sheet asks for it
unfoldable pub run_text : Sheet → List ℕ
run_text s = cond s.run (item "run " (run_length s.prime s.poly) ++ ascii "\n") []

-- the lines for a sheet, these being its parts
unfoldable pub parts_text : Sheet → List Part → List ℕ
parts_text s Ps = head_text s.prime (degree s.poly) ++ flat_map part_text Ps ++ total_text (totals_of Ps) ++ run_text s

-- the lines for a sheet
unfoldable pub answer_text : Sheet → List ℕ
answer_text s = parts_text s (parts_of s.prime s.poly)

-- ---- the programs

-- "A refusal prints `refused` number `at` place"
unfoldable pub refusal_text : ℕ → ℕ → List ℕ
refusal_text k at = item "refused " k ++ item " at " at ++ ascii "\n"

-- "`split` reads one sheet from standard input": what it prints for the bytes there
unfoldable pub printed : List ℕ → List ℕ
printed bytes = elim (read_sheet bytes) [ accepted s ↦ answer_text s | fault k at ↦ refusal_text k at ]

-- the program `copy` gives out a copy's bytes, or the line of a refusal, whose place is 0
abbrev pub given_out : Visible → List ℕ
given_out (figures g) = copy_of g
given_out (number k) = refusal_text k 0

-- it reads a sheet as `split` does: what it gives out for the bytes there
unfoldable pub copied : List ℕ → List ℕ
copied bytes = given_out (visible (read_sheet bytes))

-- the program `sheet` gives out the bytes that its call wrote, or the line of a refusal
unfoldable pub sent : Outcome → List ℕ
sent o = cond (eqb o.number 0) o.bytes (refusal_text o.number o.place)

-- it reads a typed line: bytes that it gives out for the line
abbrev pub SheetSent : List ℕ → List ℕ → Type 0
SheetSent line bytes = (o : Outcome) × Typed answer_area line o × (bytes ≡ sent o)
