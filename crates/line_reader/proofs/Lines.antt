-- A whole line: its prime, its colon and its expression, from the first byte to the last; or where it stops.
-- Proves one law for each way in which `read_short` ends. Assumes nothing.
use mathlib.Core.Path.{◌≡◌, refl, subst, ◌∙◌}
use mathlib.Core.Logic.{◌≢◌, inr}
use mathlib.Core.Bool.{false}
use mathlib.Core.List.{List}
use Rattle.std.specs.Prelude.{Option, Err}
use Prim.Native.Nat.{ℕ, ◌+◌, ◌-◌, ◌<◌, ◌≤◌}
use native.Mathlib.Nat.{le_refl}
use native.Mathlib.Omega.{arith}
use lib.ListN.{length, get_or}
use Rattle.specification.specs.Limits.{answer_area, line_limit}
use Rattle.specification.specs.Calls as calls
use Rattle.specification.specs.Grammar.{Tree, At, Expression, line}
use Rattle.specification.specs.TypedLines.{Typed, no_line, is_line}
use Rattle.grammar.specs.Machine as machine
use Rattle.grammar.specs.Machine.{Context, bottom, Fresh, wants, is_digit, step, stuck, after}
use Rattle.grammar.proofs.Runs as runs
use Rattle.grammar.specs.Runs.{ExpressionRun}
use Rattle.grammar.proofs.Runs.{PrimeRead}
use Rattle.grammar.specs.Stopping.{Stopped}
use Rattle.grammar.proofs.Stopping.{stopped_is}
use Rattle.line_values.specs.Worth.{Value, Worth}
use Rattle.primes.specs.declared.TakenPrime.{TakenPrime}
use Rattle.refusals.specs.declared.Refused.{Refused}
use Rattle.refusals.specs.declared.Refusal.TheVariants.{NotALine}
use Rattle.line_reader.specs.Levels as levels
use Rattle.line_reader.specs.LineContracts.{ByteAt, Skipped, Counted, HaltsAt, ExpressionStands}
use Rattle.line_reader.specs.Gives.{Gives, PrimeIn, stand_in, WorkedOut, LineRead}
use Rattle.line_reader.proofs.Bytes.{behind, between}
use Rattle.line_reader.proofs.Judging.{IsAt, Outcome, gives_refused}
use Rattle.line_reader.proofs.Behind.{prime_follows, stopped_open, stopped_prime, no_prime, no_colon}

-- what a line gives, if it is short enough
abbrev Read : List ℕ → Outcome → Type 0
Read s r = length s ≤ line_limit → (o : calls.Outcome) × Typed answer_area s o × Gives r o

line_stops : {s : List ℕ} {k : ℕ} {e : Refused} → Stopped s k → IsAt NotALine k e → Read s (Err e)
line_stops {k = k} w i short = (calls.refused 15 k, no_line (le_refl answer_area) short (stopped_is w) refl, gives_refused NotALine refl i)

module _ {s : List ℕ} where
  pub no_prime_read : {e : Refused} → is_digit (get_or s 0 0) ≡ false → IsAt NotALine 0 e → Read s (Err e)
  no_prime_read f = line_stops (stopped_open (omega arith) (runs.after_none s) refl refl (no_prime _ f))

  module _ {end v : ℕ} (c : Counted s 0 end v) where
    prime_runs : after s end ≡ machine.prime c.number
    prime_runs = runs.number_runs machine.prime runs.start_digit runs.prime_digit c.stands (runs.after_none s)

    -- the prime, and the blanks behind it
    prime_past : {colon : ℕ} → Skipped s end colon → PrimeRead c.number (after s colon)
    prime_past w =
        runs.over_blanks (λ k. PrimeRead c.number (after s k)) w.blanks (runs.prime_read prime_runs)
        (λ k a h. rw (runs.after_suc s k, a.is) (runs.prime_blank h))

    pub no_colon_read : {colon b : ℕ} {e : Refused} → is_digit (get_or s end 0) ≡ false → Skipped s end colon → ByteAt s colon b → b ≢ 58
        → IsAt NotALine colon e → Read s (Err e)
    no_colon_read f w a h =
        line_stops (stopped_prime w.within (prime_past w) (prime_follows w prime_runs f ∙ no_colon _ _ w.ends (λ z. h (a.is ∙ z))))

    -- the colon has been read
    module _ {colon from : ℕ} (w : Skipped s end colon) (a : At s colon 58) (b : Skipped s (colon + 1) from) where
      begins : after s from ≡ wants (bottom c.number)
      begins = runs.still (behind b) (runs.wants_blank _) (runs.moves a refl (runs.prime_colon (prime_past w)))

      pub no_expression_read : {e : Refused} → HaltsAt Fresh s from e → Read s (Err e)
      no_expression_read {e} h =
          let is : IsAt NotALine e.place e = λ i. record { why = h.number i; place = e.place } in
          line_stops (h.halts.stopped _ tt begins) is

      module _ {p last : ℕ} {whole : Value} (t : ExpressionStands s p from last whole) where
        run : ExpressionRun (bottom c.number) t.tree (after s last)
        run = runs.expression_runs t.stands _ tt begins

        -- the expression ends before the line does
        pub more_read : {place : ℕ} {e : Refused} → last < length s → Skipped s last place → IsAt NotALine place e → Read s (Err e)
        more_read {place} l k = line_stops (record {
          within = k.within;
          living = runs.ended_alive (runs.still_ended k.blanks run.ended);
          dead = runs.after_suc s place ∙ t.follows _ tt begins place k ∙ levels.bottom_stuck _ _ _;
          at_end = λ e. inr (place - 1, omega (arith, k.blanks.order), k.blanks.all (place - 1) (omega arith) (omega arith));
        })

        pub line_read : (q : Option TakenPrime) {r : Outcome} → length s ≤ last → p ≡ stand_in q → PrimeIn v q → WorkedOut v q whole r → Read s r
        line_read q l m h o short = (
          _,
          is_line (le_refl answer_area) short (line c.stands (between w a b) (ends (omega (arith, t.within)) t.stands)) refl,
          o.gives c.number t.tree c.value h (subst (λ (n : ℕ). Worth n t.tree whole) m t.worth),
        )
          where
            ends : {i j k : ℕ} {e : Tree} → j ≡ k → Expression s i j e → Expression s i k e
            ends {i} {e = e} q w = subst (λ (m : ℕ). Expression s i m e) q w

-- ---- any line

pub as_read : {s : List ℕ} {r : Outcome} → (o : calls.Outcome) × Typed answer_area s o × Gives r o → LineRead s r
as_read (o, typed, gives) = record { outcome = o; typed = typed; gives = gives }
