-- What a typed line is answered, `Typed`: every line has an answer, and one only.
-- Proves `OneOutcome`. Assumes nothing.
use Rattle.std.specs.Prelude.{◌≡◌, Bool, cond, List, ℕ, ◌<◌, ◌≤◌, length}
use Rattle.std.proofs.Math.Path.{refl}
use Rattle.std.proofs.Common.{sym, ap, ◌∙◌, arith, ltb-true, ltb-false}
use Rattle.std.proofs.Math.Bool.{true, false}
use Rattle.std.proofs.Math.Decide.{dec_lt}
use Rattle.std.proofs.Math.Dec.{ltb}
use Rattle.specification.specs.Limits.{answer_area, line_limit}
use Rattle.specification.specs.Calls.{Outcome, refused}
use Rattle.specification.specs.TypedLines.{Typed, short_area, long_line, no_line, is_line}
use Rattle.specification.specs.TypedClaims.{Answering, OneOutcome}
use Rattle.grammar.specs.Readings as readings
use Rattle.grammar.specs.Readings.{Found, Right, read_line}
use Rattle.grammar.specs.TypedOutcomes.{answered, typed_outcome}
use Rattle.grammar.proofs.Runs.{line_once}
use Rattle.grammar.proofs.Stopping.{stops_once}
use Rattle.grammar.proofs.Readings.{read_line_right}

-- ---- one answer

module _ {area : ℕ} {line : List ℕ} {o q : Outcome} where
  pub typed_once : Typed area line o → Typed area line q → o ≡ q
  typed_once (short_area l e) (short_area m f) = e ∙ sym f
  typed_once (short_area l e) (long_line m w f) = absurd (omega arith)
  typed_once (short_area l e) (no_line m w v f) = absurd (omega arith)
  typed_once (short_area l e) (is_line m w v f) = absurd (omega arith)
  typed_once (long_line l w e) (short_area m f) = absurd (omega arith)
  typed_once (long_line l w e) (long_line m v f) = e ∙ sym f
  typed_once (long_line l w e) (no_line m v u f) = absurd (omega arith)
  typed_once (long_line l w e) (is_line m v u f) = absurd (omega arith)
  typed_once (no_line l w v e) (short_area m f) = absurd (omega arith)
  typed_once (no_line l w v e) (long_line m u f) = absurd (omega arith)
  typed_once (no_line l w v e) (no_line m u z f) = e ∙ ap (refused 15) (stops_once v z) ∙ sym f
  typed_once (no_line l w v e) (is_line m u z f) = absurd (v.not_such _ _ z)
  typed_once (is_line l w v e) (short_area m f) = absurd (omega arith)
  typed_once (is_line l w v e) (long_line m u f) = absurd (omega arith)
  typed_once (is_line l w v e) (no_line m u z f) = absurd (z.not_such _ _ v)
  typed_once (is_line l w v e) (is_line m u z f) = let h = line_once v z in cc (e, f, h.0, h.1)

-- ---- the answer that the machine works out

module _ {area : ℕ} (l : answer_area ≤ area) (line : List ℕ) where
  found_typed : length line ≤ line_limit → (f : Found) → Right line f → Typed area line (answered f)
  unfolding answered
  found_typed s (readings.is_line p t) v = is_line l s v refl
  found_typed s (readings.stops_at k) v = no_line l s v refl

  pub outcome_typed : Typed area line (typed_outcome line)
  unfolding typed_outcome
  outcome_typed = at (ltb line_limit (length line)) refl
    where
      at : (r : Bool) → ltb line_limit (length line) ≡ r → Typed area line (cond r (refused 16 0) (answered (read_line line)))
      at true e = long_line l (ltb-true line_limit (length line) e) refl
      at false e = found_typed (ltb-false line_limit (length line) e) (read_line line) (read_line_right line)

pub one_outcome : OneOutcome
one_outcome area line = at (dec_lt area answer_area)
  where
    at : Dec (area < answer_area) → Answering area line
    at (yes l) = record { outcome = refused 1 0; holds = short_area l refl; only = λ o w. typed_once w (short_area l refl) }
    at (no l) =
        let w = outcome_typed (let z : answer_area ≤ area = omega (arith, l) in z) line in
        record { outcome = typed_outcome line; holds = w; only = λ o v. typed_once v w }
