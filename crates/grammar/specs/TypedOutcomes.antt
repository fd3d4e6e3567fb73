-- What a typed line is answered: worked out by the machine, `typed_outcome`.
-- Proves that the length of a large enough area changes nothing (`typed_area`), and which numbers and places come back (`typed_numbers`).
-- Assumes nothing.
use Rattle.std.specs.Prelude.{◌≡◌, ◌⊎◌, ◌≢◌, not, cond, ◌||◌, List, ℕ, ◌≤◌, length}
use Rattle.std.proofs.Math.Path.{refl}
use Rattle.std.proofs.Common.{sym, subst, inl, inr, arith}
use Rattle.std.proofs.Math.Dec.{ltb}
use Rattle.specification.specs.Limits.{taken, answer_area, line_limit, number_limit}
use Rattle.specification.specs.Calls.{Outcome, success, refused}
use Rattle.specification.specs.Grammar.{Tree}
use Rattle.specification.specs.TypedLines.{Typed, short_area, long_line, no_line, is_line, worked, valued, meaning, any_part, is_high, is_large, is_pattern}
use Rattle.lists.specs.Tests.{picked}
use Rattle.grammar.specs.Readings as readings
use Rattle.grammar.specs.Readings.{Found, read_line}

-- ---- the answer, worked out by the machine

-- what has been found is answered
unfoldable pub answered : Found → Outcome
answered (readings.is_line p t) = worked p t
answered (readings.stops_at k) = refused 15 k

unfoldable pub typed_outcome : List ℕ → Outcome
typed_outcome line = cond (ltb line_limit (length line)) (refused 16 0) (answered (read_line line))

-- ---- the area

-- two areas that are large enough
pub typed_area : {a b : ℕ} {line : List ℕ} {o : Outcome} → answer_area ≤ a → answer_area ≤ b → Typed a line o → Typed b line o
typed_area l m (short_area s e) = absurd (omega arith)
typed_area l m (long_line s w e) = long_line m w e
typed_area l m (no_line s w v e) = no_line m w v e
typed_area l m (is_line s w v e) = is_line m w v e

-- ---- numbers and places

pub record TypedNumbers (line : List ℕ) (o : Outcome) : Type 0 where
  pub number : (o.number ≡ 0) ⊎ (o.number ≡ 1) ⊎ (o.number ≡ 4) ⊎ (o.number ≡ 15) ⊎ (o.number ≡ 16) ⊎ (o.number ≡ 17)
  -- only 15 has a place
  pub place : o.number ≢ 15 → o.place ≡ 0
  pub within : o.place ≤ length line
  pub limit : o.place ≤ line_limit

-- the outcomes of a line that is read
pub data Worked : Outcome → Type 0 where
  worked_success : (bytes : List ℕ) → Worked (success bytes)
  worked_4 : Worked (refused 4 0)
  worked_16 : Worked (refused 16 0)
  worked_17 : Worked (refused 17 0)

pub worked_cases : (p : ℕ) (t : Tree) → Worked (worked p t)
unfolding worked valued
worked_cases p t =
    picked Worked (ltb number_limit p || any_part is_large t) (λ _. worked_16)
    (λ _. picked Worked (taken p)
    (λ _. picked Worked (any_part (is_high p) t || not (is_pattern (meaning p t))) (λ _. worked_17) (λ _. worked_success _)) (λ _. worked_4))

worked_numbers : {line : List ℕ} {o : Outcome} → Worked o → TypedNumbers line o
worked_numbers (worked_success bytes) = record { number = inl refl; place = λ _. refl; within = omega arith; limit = omega arith }
worked_numbers worked_4 = record { number = inr (inr (inl refl)); place = λ _. refl; within = omega arith; limit = omega arith }
worked_numbers worked_16 = record { number = inr (inr (inr (inr (inl refl)))); place = λ _. refl; within = omega arith; limit = omega arith }
worked_numbers worked_17 = record { number = inr (inr (inr (inr (inr refl)))); place = λ _. refl; within = omega arith; limit = omega arith }

pub typed_numbers : {area : ℕ} {line : List ℕ} {o : Outcome} → Typed area line o → TypedNumbers line o
typed_numbers {line = line} (short_area l e) =
    subst (TypedNumbers line) (sym e) (record { number = inr (inl refl); place = λ _. refl; within = omega arith; limit = omega arith })
typed_numbers {line = line} (long_line l w e) = subst (TypedNumbers line) (sym e) (worked_numbers worked_16)
typed_numbers {line = line} (no_line l w v e) = subst (TypedNumbers line) (sym e) (record {
  number = inr (inr (inr (inl refl)));
  place = λ h. absurd (h refl);
  within = v.within;
  limit = omega (arith, v.within);
})
typed_numbers {line = line} (is_line {p = p} {t} l w v e) = subst (TypedNumbers line) (sym e) (worked_numbers (worked_cases p t))
