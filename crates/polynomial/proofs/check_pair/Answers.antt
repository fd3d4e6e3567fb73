-- `polynomial::check_pair` meets its contract.
-- Assumes nothing.
use Rattle.std.proofs.Common.{arith, sym, ◌∙◌}
use Rattle.lists.specs.Cases.{cases}
use Rattle.polynomial.proofs.Checks.{first_improper, second_improper, primes_differ, is_pair}
use Rattle.polynomial.proofs.check_pair.Goals.{then-not-proper-via-then-not-proper, then-not-proper-via-else-not-proper+then-not-proper-2}
use Rattle.polynomial.proofs.check_pair.Goals as goal

pub returns-then-not-proper : goal.returns-then-not-proper
returns-then-not-proper c = elim c.then-not-proper.branch [
  | then-not-proper-via-then-not-proper w ↦ first_improper _ _ (sym c.proper.ensures ∙ (search cases))
  | then-not-proper-via-else-not-proper+then-not-proper-2 w ↦
      second_improper _ _ (sym c.proper.ensures ∙ (search cases)) (sym w.proper-else-not-proper.ensures ∙ (search cases))
]

pub returns-then-a-b : goal.returns-then-a-b
returns-then-a-b c =
    primes_differ _ _ (sym c.proper.ensures ∙ (search cases)) (sym c.proper-else-not-proper.ensures ∙ (search cases)) (λ e. omega (arith, e))

pub returns : goal.returns
returns c = is_pair _ _ (sym c.proper.ensures ∙ (search cases)) (sym c.proper-else-not-proper.ensures ∙ (search cases)) (omega arith)
