-- `inverses::inverse` meets its contract.
-- Assumes nothing.
use native.Mathlib.Omega.{arith}
use borrow.Author.Rules.{rules}
use Prim.Native.Nat.{◌<◌}
use Rattle.std.proofs.lemmas.Grind.{common_steps}
use Rattle.specification.specs.Limits.{primes}
use Rattle.lists.specs.Tests.{contrary}
use Rattle.inverses.specs.Answer.{entry_answer, no_answer}
use Rattle.inverses.proofs.inverse.Goals as goal

pub entry_at-requires : goal.entry_at-requires
unfolding primes
entry_at-requires c =
    let at = c.in-Some.ensures in
    let low : 0 < c.args.a = search rules in
    let high : c.args.a < c.args.prime = search rules in
    (at.within, low, rw at.entry high)

pub returns-in_default : goal.returns-in_default
returns-in_default c = no_answer _ _ (λ t z l. contrary c.in_default.ensures t)

pub returns-then-contains : goal.returns-then-contains
returns-then-contains c =
    let at = c.in-Some.ensures in
    let low : 0 < c.args.a = search rules in
    let high : c.args.a < c.args.prime = search rules in
    entry_answer _ _ _ at.listed low high (rw at.entry at c.entry_at.ensures)

pub returns-else-contains : goal.returns-else-contains
returns-else-contains c =
    no_answer _ _ (λ t z l. grind (arith, common_steps))
