-- `run_length::small_steps` meets its contract.
-- Assumes nothing.
use borrow.Author.Rules.{rules}
use Rattle.algebra.specs.PolynomialRing.{x}
use Rattle.quotients.proofs.PowerTurns.{power_more}
use Rattle.run_length.proofs.PowerOfOne.{one_power}
use Rattle.run_length.proofs.MarkTable.{marks_none, marks_more}
use Rattle.run_length.proofs.small_steps.Goals as goal

pub loop-i-init : goal.loop-i-init
loop-i-init c = (marks_none c.requires.2, one_power c.requires.0 c.monomial-r.ensures c.requires.1)

pub loop-i-preserved : goal.loop-i-preserved
loop-i-preserved c =
    let inv = c.loop-i.invariant in
    (marks_more c.args.f.now.monic.monic inv.0 (search rules) inv.1 c.mark.ensures, power_more _ _ x _ inv.1 c.shift.ensures)
