-- `run_length::run_length` meets its contract.
-- Assumes nothing.
use native.Mathlib.Omega.{arith}
use borrow.Author.Rules.{rules}
use Rattle.algebra.specs.TakenPrimes.{square_small}
use Rattle.run_length.proofs.RowTable.{rows_small}
use Rattle.run_length.proofs.GreatSteps.{modulus, steps_more, run_met, run_too_long, run_none}
use Rattle.run_length.proofs.run_length.Goals as goal

pub overflow_mul-q : goal.overflow_mul-q
overflow_mul-q c = omega (arith, square_small _ c.requires.0.prime)

pub small_steps-y-requires : goal.small_steps-y-requires
small_steps-y-requires c =
    let given = c.requires.0 in
    (modulus given, given.positive, search rules)

pub meeting-requires : goal.meeting-requires
meeting-requires c =
    let given = c.requires.0 in
    let great = c.loop-j.invariant.great in
    (modulus given, given.positive, c.small_steps-y.ensures.0, great.reduced, great.small)

pub returns-then-k-le65535 : goal.returns-then-k-le65535
returns-then-k-le65535 c =
    run_met c.requires.0 c.loop-j.invariant c.in-Some.ensures c.requires.1 (omega arith)

pub returns-in-Some : goal.returns-in-Some
returns-in-Some c =
    run_too_long c.requires.0 c.loop-j.invariant c.in-Some.ensures (omega arith) (omega arith)

pub great_step-v-requires : goal.great_step-v-requires
great_step-v-requires c =
    let great = c.loop-j.invariant.great in
    (rows_small c.rows_of.ensures, great.reduced, great.small)

pub loop-j-preserved : goal.loop-j-preserved
loop-j-preserved c =
    let step = c.great_step-v.ensures.is _ _ c.rows_of.ensures in
    steps_more c.loop-j.invariant c.in_default.ensures (omega arith) (omega arith) c.small_steps-y.ensures.1 step

pub returns : goal.returns
returns c = run_none c.requires.0 c.loop-j.invariant c.loop-j-test.false
