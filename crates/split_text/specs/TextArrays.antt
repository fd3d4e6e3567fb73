-- The lines of an answer over the code's arrays, as they are written one after the other.
-- Proves that they are those of the definitions. Assumes nothing.
use Rattle.std.specs.Prelude.{◌≡◌, refl, true, false, ℕ, ◌≤◌, ◌+◌, length, get_or, take}
use Rattle.std.proofs.Common.{sym, ◌∙◌, ap, add-one, arith, take-suc}
use Rattle.std.proofs.Math.Seq.{take-length}
use mathlib.Core.List.{List, [], ◌∷◌, ◌++◌, flat_map}
use Rattle.specification.specs.Text.{
  ascii,
  item,
  head_text,
  verdict_text,
  coefficient_text,
  factor_text,
  part_text,
  total_text,
  run_text,
  parts_text,
  answer_text,
  refusal_text,
}
use Rattle.specification.specs.Sheets as spec
use Rattle.specification.specs.Totals.{totals_of}
use Rattle.arrays.specs.Listed.{degree_listed}
use Rattle.part_verdict.specs.declared.Factor.{Factor}
use Rattle.part_verdict.specs.declared.Part.{Part}
use Rattle.part_verdict.specs.AsPart.{as_verdict, as_factor, as_factors, as_part}
use Rattle.layouts.specs.AnswerLayout.{sheet_parts}
use Rattle.commands.specs.declared.Sheet.{Sheet}
use Rattle.commands.specs.AsSheet.{as_sheet}
use Rattle.area.proofs.Turns.{Turns, each_turn}
use Rattle.answer_writer.specs.declared.Totals.{Totals}
use Rattle.answer_writer.specs.AnswerArrays.{as_totals, run_of, run_of_asked}

-- ---- words

-- a loop writes a word byte by byte
pub word_turns : (w : List ℕ) → Turns (λ i. take i w) (λ i. get_or w i 0 ∷ []) (length w) w
word_turns w = record { none = refl; next = λ i u. take-suc w i 0 u; all = take-length w }

-- ---- a factor and a part

-- a loop writes them one by one, the first n
pub coefficient_turns : (f : List ℕ) (n : ℕ) → n ≤ length f
    → Turns (λ i. coefficient_text (take i f)) (λ i. item " " (get_or f i 0)) n (coefficient_text (take n f))
unfolding coefficient_text
coefficient_turns f n l =
    let t = each_turn (item " ") 0 f in record { none = t.none; next = λ i u. t.next i (omega arith); all = refl }

-- all
pub all_coefficient_turns : (f : List ℕ) → Turns (λ i. coefficient_text (take i f)) (λ i. item " " (get_or f i 0)) (length f) (coefficient_text f)
unfolding coefficient_text
all_coefficient_turns f = each_turn (item " ") 0 f

-- "coefficients from the constant up to the leading 1"
pub factor_is : (q : Factor) → item "factor " q.times ++ coefficient_text (take (q.degree + 1) q.coefs) ++ ascii "\n" ≡ factor_text (as_factor q)
unfolding factor_text
factor_is q = ap (λ k. item "factor " q.times ++ coefficient_text (take k q.coefs) ++ ascii "\n") (add-one q.degree)

pub part_is_lem : (x : Part) → length x.base ≡ 33 → x.degree ≤ 32
    → item "part " x.degree ++ item " " x.exponent ++ verdict_text (as_verdict x.verdict)
    ++ flat_map factor_text (as_factors x.first x.second) ≡ part_text (as_part x)
unfolding part_text
part_is_lem x long l =
    let factors = flat_map factor_text (as_factors x.first x.second) in
    ap (λ d. item "part " d ++ item " " x.exponent ++ verdict_text (as_verdict x.verdict) ++ factors)
    (sym (degree_listed x.degree x.base (omega arith)))

-- ---- the whole

-- the lines of a sheet's parts
abbrev pub part_lines : spec.Sheet → List ℕ
part_lines s = flat_map part_text (sheet_parts s)

pub head_is : (p d : ℕ) → item "prime " p ++ item " degree " d ++ ascii "\n" ≡ head_text p d
unfolding head_text
head_is p d = refl

pub refusal_is : (k at : ℕ) → item "refused " k ++ item " at " at ++ ascii "\n" ≡ refusal_text k at
unfolding refusal_text
refusal_is k at = refl

-- "The last line holds the three totals"
pub totals_are : (t : Totals)
    → item "total " t.factors ++ item " different " t.different ++ item " free " t.free ++ ascii "\n" ≡ total_text (as_totals t)
unfolding total_text
totals_are t = refl

-- a run that is asked for, and none
pub run_text_asked : (s : spec.Sheet) {r : ℕ} → r ≡ run_of s → s.run ≡ true → item "run " r ++ ascii "\n" ≡ run_text s
unfolding run_text
run_text_asked s h e = rw (e, h ∙ run_of_asked s e) refl

pub run_text_none : (s : spec.Sheet) → s.run ≡ false → [] ≡ run_text s
unfolding run_text
run_text_none s e = rw e refl

pub lines_are : (s : Sheet) → length s.coefs ≡ 33 → s.degree ≤ 32
    → head_text s.prime s.degree ++ part_lines (as_sheet s) ++ total_text (totals_of (sheet_parts (as_sheet s))) ++ run_text (as_sheet s) ≡ answer_text (as_sheet s)
unfolding parts_text answer_text
lines_are s long l = rw (degree_listed s.degree s.coefs (omega arith)) refl
