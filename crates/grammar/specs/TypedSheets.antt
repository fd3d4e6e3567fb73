-- Which typed lines get a sheet, and which sheet it is.
-- Proves that the sheet of a tree is a good one exactly where the prime is taken and the value is "monic of degree 1 to 32", and `SheetsTyped`.
-- Assumes nothing.
use Rattle.std.specs.Prelude.{◌≡◌, refl, Bool, true, false, not, cond, ◌&&◌, ◌||◌, List, ℕ, suc, ◌≤◌, ◌<◌, eqb, ltb}
use Rattle.std.proofs.Common.{sym, ap, ◌∙◌, arith, ltb-false, le-ltb, lt→ltb, le→leb}
use Rattle.std.proofs.Math.Path.{subst}
use Rattle.std.proofs.lemmas.Bool.{false≢true, not-false}
use Rattle.std.proofs.Math.Dec.{T, leb, eqb→eq, ltb→lt, leb→le}
use Rattle.specification.specs.Limits.{taken, ◌², degree_limit, answer_area, number_limit}
use Rattle.specification.specs.Polynomials.{Poly, degree, leading}
use Rattle.specification.specs.Records.{trim}
use Rattle.specification.specs.Sheets.{degree_taken, sheet_bytes}
use Rattle.specification.specs.Calls.{Outcome, success, refused}
use Rattle.specification.specs.SheetClaims.{GoodSheet}
use Rattle.specification.specs.Grammar.{Tree}
use Rattle.specification.specs.TypedLines.{meaning, any_part, is_large, is_high, is_pattern, valued, worked}
use Rattle.specification.specs.TypedLines.{Typed, short_area, long_line, no_line, is_line}
use Rattle.specification.specs.TypedClaims.{typed_sheet, SheetOfLine, SheetsTyped}
use Rattle.lists.specs.Tests.{passes, both, left, right, neither}
use Rattle.arrays.specs.Trimming.{get_d_trim}
use Rattle.grammar.specs.Meanings.{meaning_low}
use Rattle.grammar.specs.WorkedLines.{too_large, too_high, worked_prime, valued_sheet}
use Rattle.grammar.specs.TreeParts.{true_passes, small_is, small_parts, low_is, low_parts}

-- ---- the sheet of a tree

module _ (p : ℕ) (t : Tree) where
  abbrev f : Poly
  f = trim (meaning p t)

  pub pattern_good : taken p ≡ true → is_pattern (meaning p t) ≡ true → GoodSheet (typed_sheet p t)
  unfolding is_pattern
  pattern_good prime e =
      let h : T (eqb (leading f) 1 && degree_taken (degree f)) = true_passes e in
      let d : T (ltb 0 (degree f) && leb (degree f) degree_limit) = right (eqb (leading f) 1) (degree_taken (degree f)) h in
      record {
        prime = true_passes prime;
        monic = record {
          positive = ltb→lt 0 (degree f) (left (ltb 0 (degree f)) (leb (degree f) degree_limit) d);
          leads_with_one = eqb→eq (leading f) 1 (left (eqb (leading f) 1) (degree_taken (degree f)) h);
          reduced = λ i l. subst (λ (a : ℕ). a < p ²) (sym (get_d_trim (meaning p t) i)) (meaning_low p prime t i);
        };
        fits = leb→le (degree f) degree_limit (right (ltb 0 (degree f)) (leb (degree f) degree_limit) d);
        may_ask = λ z. absurd (false≢true z);
      }

  -- and conversely
  pub good_prime : GoodSheet (typed_sheet p t) → taken p ≡ true
  good_prime g = passes (taken p) g.prime

  pub good_pattern : GoodSheet (typed_sheet p t) → is_pattern (meaning p t) ≡ true
  unfolding is_pattern
  good_pattern g =
      passes (eqb (leading f) 1 && degree_taken (degree f))
      (both (eqb (leading f) 1) (degree_taken (degree f)) (subst (λ (a : ℕ). T (eqb a 1)) (sym g.monic.leads_with_one) tt)
      (both (ltb 0 (degree f)) (leb (degree f) degree_limit) (lt→ltb 0 (degree f) g.monic.positive) (le→leb (degree f) degree_limit g.fits)))

-- ---- a line that is worked to a sheet

-- a choice between a refusal and something else is a success
module _ {bytes : List ℕ} {o : Outcome} (k : ℕ) where
  not_refused : (r : Bool) → success bytes ≡ cond r (refused (suc k) 0) o → (r ≡ false) × (success bytes ≡ o)
  not_refused true e = absurd (let z : 0 ≡ suc k = ap (λ (o : Outcome). o.number) e in omega (arith, z))
  not_refused false e = (refl, e)

  passed : (r : Bool) → success bytes ≡ cond r o (refused (suc k) 0) → (r ≡ true) × (success bytes ≡ o)
  passed true e = (refl, e)
  passed false e = absurd (let z : 0 ≡ suc k = ap (λ (o : Outcome). o.number) e in omega (arith, z))

record Passed (p : ℕ) (t : Tree) (bytes : List ℕ) : Type 0 where
  small : too_large p t ≡ false
  prime : taken p ≡ true
  low : too_high p t ≡ false
  is : bytes ≡ sheet_bytes (typed_sheet p t)

worked_passed : {p : ℕ} {t : Tree} {bytes : List ℕ} → success bytes ≡ worked p t → Passed p t bytes
unfolding worked valued
worked_passed {p} {t} e =
    let a = not_refused 15 (too_large p t) e in
    let b = passed 3 (taken p) a.1 in
    let c = not_refused 16 (too_high p t) b.1 in
    record { small = a.0; prime = b.0; low = c.0; is = ap (λ (o : Outcome). o.bytes) c.1 }

passed_worked : {p : ℕ} {t : Tree} {bytes : List ℕ} → Passed p t bytes → success bytes ≡ worked p t
passed_worked {p} {t} h = ap success h.is ∙ sym (worked_prime p t h.small h.prime ∙ valued_sheet p t h.low)

module _ {line bytes : List ℕ} where
  pub line_sheet : {area : ℕ} → Typed area line (success bytes) → SheetOfLine line bytes
  line_sheet (short_area l e) = absurd (let z : 0 ≡ 1 = ap (λ (o : Outcome). o.number) e in omega (arith, z))
  line_sheet (long_line l w e) = absurd (let z : 0 ≡ 16 = ap (λ (o : Outcome). o.number) e in omega (arith, z))
  line_sheet (no_line l w v e) = absurd (let z : 0 ≡ 15 = ap (λ (o : Outcome). o.number) e in omega (arith, z))
  line_sheet (is_line {p = p} {t} l w v e) =
      let h = worked_passed e in
      let s = neither (ltb number_limit p) (any_part is_large t) h.small in
      let q = neither (any_part (is_high p) t) (not (is_pattern (meaning p t))) h.low in
      record {
        prime = p;
        tree = t;
        read_as = record { short = w; read = v };
        small = small_is (ltb-false number_limit p s.0) s.1;
        low = low_is q.0;
        good = pattern_good p t h.prime (not-false (is_pattern (meaning p t)) q.1);
        is = h.is;
      }

  sheet_line : {area : ℕ} → answer_area ≤ area → SheetOfLine line bytes → Typed area line (success bytes)
  sheet_line l s =
      is_line l s.read_as.short s.read_as.read (passed_worked (record {
        small = neither_passes (le-ltb number_limit s.prime s.small.prime) (small_parts s.small);
        prime = good_prime s.prime s.tree s.good;
        low = neither_passes (low_parts s.low) (ap not (good_pattern s.prime s.tree s.good));
        is = s.is;
      }))
    where
      neither_passes : {a b : Bool} → a ≡ false → b ≡ false → (a || b) ≡ false
      neither_passes e f = rw (e, f)

pub sheets_typed : SheetsTyped
sheets_typed area l line bytes = (line_sheet, sheet_line l)
