-- `polynomial::proper` meets its contract.
-- Assumes nothing.
use Rattle.std.proofs.Common.{◌≡◌, rules, length, eq-eqb, refl, ◌∙◌}
use Rattle.specification.specs.Records.{proper}
use Rattle.polynomial.proofs.proper.Goals as goal

pub returns-then-taken : goal.returns-then-taken
unfolding proper
returns-then-taken c =
    let long : length c.args.a.coefs ≡ 33 = search rules in
    c.all_below.ensures ∙ rw (c.square.ensures, ← c.taken.ensures, c.if-taken.true, eq-eqb _ _ long) refl

pub returns-else-taken : goal.returns-else-taken
unfolding proper
returns-else-taken c = rw (← c.taken.ensures, c.if-taken.false)
