-- `run_length::mark` meets its contract.
-- Assumes nothing.
use mathlib.Core.Path.{refl}
use native.Mathlib.Nat.{le_antisymm}
use borrow.Author.Rules.{rules}
use Rattle.run_length.proofs.MarkSum.{sum_none, sum_more, sum_done}
use Rattle.run_length.proofs.mark.Goals as goal

pub loop-i-init : goal.loop-i-init
loop-i-init c = sum_none _ _

pub loop-i-preserved : goal.loop-i-preserved
loop-i-preserved c =
    sum_more _ _ c.loop-i.invariant refl refl (search rules) (search rules)

pub returns : goal.returns
returns c = sum_done _ _ c.loop-i.invariant (le_antisymm (search rules) (search rules))
