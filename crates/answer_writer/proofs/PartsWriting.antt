-- A loop that writes the parts of a sheet one after the other, g of each, and counts them: `Writing old new i t rest e` is what holds after i turns,
-- which took the cursor from `old` to `new`; t has the totals, and `rest`, of degree e, is what is left of the polynomial f.
-- Proves it before the first turn, what a turn asks for and leaves, and what is written and counted at the end. Assumes nothing.
use mathlib.Core.Path.{◌≡◌, sym, ◌∙◌, ap, subst}
use mathlib.Core.List.{List, ◌∷◌, flat_map}
use Prim.Native.Nat.{ℕ, ◌+◌, ◌≤◌, ◌<◌}
use native.Mathlib.Omega.{arith}
use lib.ListN.{length, get_or, take}
use lib.Seq.{take-length}
use Rattle.specification.specs.Parts as parts
use Rattle.specification.specs.SheetClaims.{GoodSheet}
use Rattle.layouts.specs.AnswerLayout.{sheet_parts}
use Rattle.commands.specs.declared.Sheet.{Sheet}
use Rattle.commands.specs.AsSheet.{as_sheet}
use Rattle.modp_factors.specs.declared.Power.{Power}
use Rattle.modp_factors.specs.Factors.{Powers, held_powers, no_power}
use Rattle.part_verdict.specs.AsPart.{as_part}
use Rattle.parts.specs.declared.PartAndRest.{PartAndRest}
use Rattle.parts.specs.PowersLeft.{Left, FirstPart}
use Rattle.parts.specs.PowersFound.{PowersFound}
use Rattle.parts.proofs.PartsInTurn.{LeftAt, the_parts, past_parts, parts_count, all_left, next_left, part_at, left_next}
use Rattle.area.specs.declared.Cursor.{Cursor}
use Rattle.area.specs.Cursors.{Fits, Puts}
use Rattle.area.proofs.Turns.{Putting, EachTurn, each_turn, putting_none, putting_room, putting_more, putting_done}
use Rattle.answer_writer.specs.declared.Totals.{Totals}
use Rattle.answer_writer.specs.AnswerArrays.{TotalsOf}
use Rattle.answer_writer.specs.Counting.{part_factors, LowWith, With, Counted, counted_none, counted_more, counted_low, counted_done, part_repeated}
use Rattle.answer_writer.specs.SheetAnswers.{DegreesFit, degrees_fit, countable}

module _ (g : parts.Part → List ℕ) (p : ℕ) (f : List ℕ) (d : ℕ) (found : Powers) where
  abbrev Ps : List parts.Part
  Ps = the_parts p f d

  pub record Writing (old new : Cursor) (i : ℕ) (t : Totals) (rest : List ℕ) (e : ℕ) : Type 0 where
    pub written : Putting (λ i. flat_map g (take i Ps)) (length Ps) old new i
    pub counted : Counted (take i Ps) t
    pub left : i < length (held_powers found) → LeftAt p f d found i rest e

-- xs is the powers as a slice
module _ (g : parts.Part → List ℕ) {s : Sheet} {found : Powers} (F : PowersFound s.prime s.coefs s.degree found) (good : GoodSheet (as_sheet s))
    {old : Cursor} (room : Fits old (flat_map g (sheet_parts (as_sheet s)))) {xs : List Power} (same : xs ≡ held_powers found) where
  abbrev all : List parts.Part
  all = sheet_parts (as_sheet s)

  abbrev past : parts.Part
  past = past_parts s.prime s.coefs s.degree

  turns : EachTurn g past all
  turns = each_turn g past all

  -- there are as many parts as powers
  many : length xs ≡ length all
  many = ap length same ∙ sym (parts_count F)

  abbrev WritingSheet : Cursor → ℕ → Totals → List ℕ → ℕ → Type 0
  WritingSheet new i t rest e = Writing g s.prime s.coefs s.degree found old new i t rest e

  pub writing_none : WritingSheet old 0 (record { factors = 0; different = 0; free = 0 }) s.coefs s.degree
  writing_none = record { written = putting_none turns room; counted = counted_none all; left = λ l. all_left F }

  module _ {new : Cursor} {i : ℕ} {t : Totals} {rest : List ℕ} {e : ℕ} (w : WritingSheet new i t rest e) where
    pub writing_done : length xs ≤ i → Puts old new (flat_map g all) × TotalsOf all t
    writing_done l = (
      putting_done turns w.written (omega (arith, many)),
      counted_done (countable (as_sheet s) good) (subst (λ Qs. Counted Qs t) ended w.counted),
    )
      where
        ended : take i all ≡ all
        ended = ap (λ (k : ℕ). take k all) (let q : i ≡ length all = omega (arith, many, w.written.within) in q) ∙ take-length all

    -- the next power, and the part over it, when it is found
    module _ (l : i < length xs) where
      inside : i < length all
      inside = omega (arith, many)

      held : i < length (held_powers found)
      held = subst (λ ys. i < length ys) same l

      pub writing_asks : (L : List Power) × Left s.prime rest e (get_or xs i no_power ∷ L)
      writing_asks = rw same (next_left F held (w.left held))

      module _ {r : PartAndRest} (d : FirstPart s.prime rest e (get_or xs i no_power) r) where
        c : FirstPart s.prime rest e (get_or (held_powers found) i no_power) r
        c = subst (λ ys. FirstPart s.prime rest e (get_or ys i no_power) r) same d

        is : as_part r.part ≡ get_or all i past
        is = (part_at F held (w.left held) c).is

        pub writing_fits : DegreesFit r.part
        writing_fits = degrees_fit (part_at F held (w.left held) c).held

        pub writing_room : Fits new (g (as_part r.part))
        writing_room = subst (λ P. Fits new (g P)) (sym is) (putting_room turns w.written inside room)

        pub writing_low : LowWith (as_part r.part) t
        writing_low = subst (λ P. LowWith P t) (sym is) (counted_low past all i inside w.counted (countable (as_sheet s) good))

        pub writing_repeated : 1 ≤ part_factors (as_part r.part)
        writing_repeated = subst (λ P. 1 ≤ part_factors P) (sym is) (part_repeated past all i inside w.counted (countable (as_sheet s) good))

        pub writing_more : {newer : Cursor} {u : Totals} → Puts new newer (g (as_part r.part)) → With (as_part r.part) t u
            → WritingSheet newer (i + 1) u r.rest r.degree
        writing_more {newer} {u} v a = record {
          written = putting_more turns w.written inside (subst (λ P. Puts new newer (g P)) is v);
          counted = counted_more past all i inside w.counted (subst (λ P. With P t u) is a);
          left = left_next F held (w.left held) c;
        }
