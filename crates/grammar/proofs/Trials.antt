-- The table of typed lines, worked out.
-- Proves `TypedTrials`: each line of the table is answered as it says. Assumes nothing.
use Rattle.std.specs.Prelude.{◌≡◌, refl, List, [], ◌∷◌, map}
use Rattle.std.proofs.Common.{subst, le_refl}
use Rattle.specification.specs.Limits.{answer_area}
use Rattle.specification.specs.Open.{everything}
use Rattle.specification.specs.TypedTrials.{TypedTrial, typed_trials, AllTyped, TypedTrials}
use Rattle.grammar.specs.Machine.{multiplied, added, summed, closed, is_digit, after_prime, after_power, after_term, step, after}
use Rattle.grammar.specs.Readings.{whole, ending, read_from, read_line}
use Rattle.grammar.specs.TypedOutcomes.{answered, typed_outcome}
use Rattle.grammar.proofs.TypedOutcomes.{outcome_typed}

-- what the machine gives for a row's line
abbrev worked : TypedTrial → TypedTrial
worked r = record { line = r.line; outcome = typed_outcome r.line }

rows_worked : map worked typed_trials ≡ typed_trials
unfolding
    everything
    multiplied added summed closed is_digit after_prime after_power after_term step after
    whole ending read_from read_line
    answered typed_outcome
rows_worked = refl

all_worked : (rows : List TypedTrial) → AllTyped (map worked rows)
all_worked [] = tt
all_worked (r ∷ rows) = (outcome_typed (le_refl answer_area) r.line, all_worked rows)

pub typed_trials_lem : TypedTrials
typed_trials_lem = subst AllTyped rows_worked (all_worked typed_trials)
