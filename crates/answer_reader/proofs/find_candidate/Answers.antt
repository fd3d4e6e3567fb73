-- `answer_reader::find_candidate` meets its contract.
-- Assumes nothing.
use mathlib.Core.Path.{sym, ◌∙◌}
use mathlib.Core.Bool.{false≢true}
use native.Mathlib.Omega.{arith}
use borrow.Author.Tests.{ltb-true, ltb-false}
use Rattle.answer_reader.proofs.CandidateFound.{no_answer, first_there, prime_there, prime_taken, product_there, degree_positive, run_allowed, candidate_found}
use Rattle.answer_reader.proofs.find_candidate.Goals as goal

pub returns-in_err-at : goal.returns-in_err-at
returns-in_err-at c = rw c.from_residual.ensures (no_answer (λ s g e. first_there s e c.in_err-at.ensures))

pub returns-then-answer-at : goal.returns-then-answer-at
returns-then-answer-at c = no_answer (λ s g e. omega (arith, prime_there s g e c.in_ok-at.ensures))

pub returns-in_err-prime : goal.returns-in_err-prime
returns-in_err-prime c =
    rw c.from_residual-in_err-prime.ensures
    (no_answer (λ s g e. false≢true (sym c.in_err-prime.ensures ∙ prime_taken s g e c.in_ok-at.ensures)))

pub returns-in_err-f : goal.returns-in_err-f
returns-in_err-f c =
    rw c.from_residual-in_err-f.ensures (no_answer (λ s g e. product_there s g e c.in_ok-at.ensures c.in_ok-prime.ensures c.in_err-f.ensures))

pub returns-then-not-positive : goal.returns-then-not-positive
returns-then-not-positive c =
    no_answer (λ s g e. omega (arith, degree_positive s g e c.in_ok-at.ensures c.in_ok-prime.ensures c.in_ok-f.ensures, ltb-false, c.if-not-positive.true))

pub returns-then-not-run_allowed : goal.returns-then-not-run_allowed
returns-then-not-run_allowed c =
    no_answer (λ s g e.
    c.run_allowed.ensures.no c.if-not-run_allowed.true
    (run_allowed s g e c.in_ok-at.ensures c.in_ok-prime.ensures c.in_ok-f.ensures c.shows_run-run.ensures))

pub returns : goal.returns
returns c =
    candidate_found c.in_ok-at.ensures c.in_ok-prime.ensures c.in_ok-prime.prime.taken c.in_ok-f.ensures
    (omega (arith, ltb-true, c.if-not-positive.false)) c.shows_run-run.ensures
    (c.run_allowed.ensures.yes c.if-not-run_allowed.false)
