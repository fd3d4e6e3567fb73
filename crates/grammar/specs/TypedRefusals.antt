-- Which lines are turned back with which number, in plain words.
-- Proves `RefusalsInCase`: 15, 16, 4 and 17 are each given in their case and in no other. Assumes nothing.
use Rattle.std.specs.Prelude.{◌≡◌, refl, Bool, true, false, not, List, ℕ, ◌≤◌, ltb}
use Rattle.std.proofs.Common.{sym, ap, subst, ◌∙◌, inl, inr, arith, ltb-false, le-ltb}
use Rattle.std.proofs.lemmas.Bool.{false≢true, not-false}
use Rattle.specification.specs.Limits.{taken, answer_area, number_limit}
use Rattle.specification.specs.SheetClaims.{GoodSheet}
use Rattle.specification.specs.Calls.{Outcome, refused}
use Rattle.specification.specs.Grammar.{Tree}
use Rattle.specification.specs.TypedLines.{NoLine, meaning, any_part, is_large, is_high, is_pattern, worked}
use Rattle.specification.specs.TypedLines.{Typed, short_area, long_line, no_line, is_line}
use Rattle.specification.specs.TypedClaims.{Small, Low, typed_sheet, NotALine, TooLarge, PrimeNotTaken, NoPattern, RefusalsInCase}
use Rattle.lists.specs.Tests.{neither}
use Rattle.grammar.specs.TreeParts.{small_is, small_parts, low_is, low_parts}
use Rattle.grammar.specs.WorkedLines.{too_large, too_high, worked_large, worked_no_prime, worked_prime, valued_high, valued_sheet}
use Rattle.grammar.specs.TypedSheets.{pattern_good, good_pattern}

number_is : {o q : Outcome} → o ≡ q → o.number ≡ q.number
number_is e = ap (λ (o : Outcome). o.number) e

-- ---- a line that is read

-- the cases of a line that is read, with what it is worked to
data Case (p : ℕ) (t : Tree) : Type 0 where
  large : (Small p t → ⊥) → worked p t ≡ refused 16 0 → Case p t
  no_prime : Small p t → taken p ≡ false → worked p t ≡ refused 4 0 → Case p t
  no_pattern : Small p t → taken p ≡ true → (Low p t → GoodSheet (typed_sheet p t) → ⊥) → worked p t ≡ refused 17 0 → Case p t
  sheet : Small p t → taken p ≡ true → Low p t → GoodSheet (typed_sheet p t) → (worked p t).number ≡ 0 → Case p t

module _ (p : ℕ) (t : Tree) where
  large_case : too_large p t ≡ true → Small p t → ⊥
  large_case e s = false≢true (sym (small_false s) ∙ e)
    where
      small_false : Small p t → too_large p t ≡ false
      small_false s = rw (le-ltb number_limit p s.prime, small_parts s)

  small_case : too_large p t ≡ false → Small p t
  small_case e = let s = neither (ltb number_limit p) (any_part is_large t) e in small_is (ltb-false number_limit p s.0) s.1

  high_case : too_high p t ≡ true → Low p t → GoodSheet (typed_sheet p t) → ⊥
  high_case e l g = false≢true (sym (high_false l g) ∙ e)
    where
      high_false : Low p t → GoodSheet (typed_sheet p t) → too_high p t ≡ false
      high_false l g = rw (low_parts l, good_pattern p t g)

  cases : Case p t
  cases = at (too_large p t) (taken p) (too_high p t) refl refl refl
    where
      at : (l q h : Bool) → too_large p t ≡ l → taken p ≡ q → too_high p t ≡ h → Case p t
      at true q h e f g = large (large_case e) (worked_large p t e)
      at false false h e f g = no_prime (small_case e) f (worked_no_prime p t e f)
      at false true true e f g = no_pattern (small_case e) f (high_case g) (worked_prime p t e f ∙ valued_high p t g)
      at false true false e f g =
          let q = neither (any_part (is_high p) t) (not (is_pattern (meaning p t))) g in
          sheet (small_case e) f (low_is q.0) (pattern_good p t f (not-false (is_pattern (meaning p t)) q.1))
          (number_is (worked_prime p t e f ∙ valued_sheet p t g))

-- ---- any line

-- a refusal is not another outcome
unlike : {A : Type 0} (j : ℕ) {at : ℕ} {o : Outcome} {k : ℕ} → refused j at ≡ o → o.number ≡ k → (j ≡ k → ⊥) → A
unlike j e f ne = absurd (ne (ap (λ (o : Outcome). o.number) e ∙ f))

module _ {area : ℕ} (long : answer_area ≤ area) {line : List ℕ} where
  -- 15
  is_15 : (k : ℕ) → Typed area line (refused 15 k) → NotALine line k
  is_15 k (short_area l e) = absurd (omega (arith, long, l))
  is_15 k (long_line l w e) = unlike 15 e refl (λ z. omega (arith, z))
  is_15 k (no_line {k = j} l w v e) = (w, subst (NoLine line) (sym (ap (λ (o : Outcome). o.place) e)) v)
  is_15 k (is_line {p = p} {t} l w v e) = at (cases p t)
    where
      at : Case p t → NotALine line k
      at (large s q) = unlike 15 e (number_is q) (λ z. omega (arith, z))
      at (no_prime s f q) = unlike 15 e (number_is q) (λ z. omega (arith, z))
      at (no_pattern s f h q) = unlike 15 e (number_is q) (λ z. omega (arith, z))
      at (sheet s f h g q) = unlike 15 e q (λ z. omega (arith, z))

  -- 16
  is_16 : Typed area line (refused 16 0) → TooLarge line
  is_16 (short_area l e) = absurd (omega (arith, long, l))
  is_16 (long_line l w e) = inl w
  is_16 (no_line l w v e) = unlike 16 e refl (λ z. omega (arith, z))
  is_16 (is_line {p = p} {t} l w v e) = at (cases p t)
    where
      at : Case p t → TooLarge line
      at (large s q) = inr (p, t, record { short = w; read = v }, s)
      at (no_prime s f q) = unlike 16 e (number_is q) (λ z. omega (arith, z))
      at (no_pattern s f h q) = unlike 16 e (number_is q) (λ z. omega (arith, z))
      at (sheet s f h g q) = unlike 16 e q (λ z. omega (arith, z))

  gives_16 : TooLarge line → Typed area line (refused 16 0)
  gives_16 (inl l) = long_line long l refl
  gives_16 (inr (p, t, r, n)) = at (cases p t)
    where
      at : Case p t → Typed area line (refused 16 0)
      at (large s q) = is_line long r.short r.read (sym q)
      at (no_prime s f q) = absurd (n s)
      at (no_pattern s f h q) = absurd (n s)
      at (sheet s f h g q) = absurd (n s)

  -- 4
  is_4 : Typed area line (refused 4 0) → PrimeNotTaken line
  is_4 (short_area l e) = absurd (omega (arith, long, l))
  is_4 (long_line l w e) = unlike 4 e refl (λ z. omega (arith, z))
  is_4 (no_line l w v e) = unlike 4 e refl (λ z. omega (arith, z))
  is_4 (is_line {p = p} {t} l w v e) = at (cases p t)
    where
      at : Case p t → PrimeNotTaken line
      at (large s q) = unlike 4 e (number_is q) (λ z. omega (arith, z))
      at (no_prime s f q) = (p, t, record { short = w; read = v }, s, f)
      at (no_pattern s f h q) = unlike 4 e (number_is q) (λ z. omega (arith, z))
      at (sheet s f h g q) = unlike 4 e q (λ z. omega (arith, z))

  gives_4 : PrimeNotTaken line → Typed area line (refused 4 0)
  gives_4 (p, t, r, small, none) = at (cases p t)
    where
      at : Case p t → Typed area line (refused 4 0)
      at (large s q) = absurd (s small)
      at (no_prime s f q) = is_line long r.short r.read (sym q)
      at (no_pattern s f h q) = absurd (false≢true (sym none ∙ f))
      at (sheet s f h g q) = absurd (false≢true (sym none ∙ f))

  -- 17
  is_17 : Typed area line (refused 17 0) → NoPattern line
  is_17 (short_area l e) = absurd (omega (arith, long, l))
  is_17 (long_line l w e) = unlike 17 e refl (λ z. omega (arith, z))
  is_17 (no_line l w v e) = unlike 17 e refl (λ z. omega (arith, z))
  is_17 (is_line {p = p} {t} l w v e) = at (cases p t)
    where
      at : Case p t → NoPattern line
      at (large s q) = unlike 17 e (number_is q) (λ z. omega (arith, z))
      at (no_prime s f q) = unlike 17 e (number_is q) (λ z. omega (arith, z))
      at (no_pattern s f h q) = (p, t, record { short = w; read = v }, s, f, h)
      at (sheet s f h g q) = unlike 17 e q (λ z. omega (arith, z))

  gives_17 : NoPattern line → Typed area line (refused 17 0)
  gives_17 (p, t, r, small, prime, n) = at (cases p t)
    where
      at : Case p t → Typed area line (refused 17 0)
      at (large s q) = absurd (s small)
      at (no_prime s f q) = absurd (false≢true (sym f ∙ prime))
      at (no_pattern s f h q) = is_line long r.short r.read (sym q)
      at (sheet s f h g q) = absurd (n h g)

pub refusals_in_case : RefusalsInCase
refusals_in_case area long line = record {
  fifteen = λ k. (is_15 long k, λ w. no_line long w.0 w.1 refl);
  sixteen = (is_16 long, gives_16 long);
  four = (is_4 long, gives_4 long);
  seventeen = (is_17 long, gives_17 long);
}
