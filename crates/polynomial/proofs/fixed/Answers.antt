-- `polynomial::fixed` meets its contract.
-- Assumes nothing.
use Rattle.std.proofs.Common.{refl, ◌∙◌}
use Rattle.specification.specs.Records.{prime_number}
use Rattle.polynomial.proofs.fixed.Goals as goal

pub returns-then-taken : goal.returns-then-taken
unfolding prime_number
returns-then-taken c = c.accept.ensures ∙ rw (← c.taken.ensures, c.if-taken.true) refl

pub returns-else-taken : goal.returns-else-taken
unfolding prime_number
returns-else-taken c = c.refuse.ensures ∙ rw (← c.taken.ensures, c.if-taken.false) refl
