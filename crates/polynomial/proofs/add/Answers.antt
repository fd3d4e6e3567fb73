-- `polynomial::add` meets its contract: where the pair passes, both records are proper and of one prime.
-- Assumes nothing.
use Rattle.std.proofs.Common.{sym, ◌∙◌}
use Rattle.specification.specs.Records.{sum}
use Rattle.polynomial.specs.Checked.{not_zero}
use Rattle.polynomial.proofs.Accepted.{pair_accepted}
use Rattle.polynomial.proofs.Results.{result_refused, sum_is}
use Rattle.polynomial.proofs.add.Goals as goal

pub sum-requires : goal.sum-requires
sum-requires c =
    let pair = pair_accepted _ _ (sym c.in-Ok.ensures) in
    rw c.square.ensures (pair.first, pair.second)

pub returns-in-Ok : goal.returns-in-Ok
returns-in-Ok c = c.accept.ensures ∙ sum_is _ _ (sym c.in-Ok.ensures) (rw c.square.ensures at c.sum.ensures)

pub returns-in-Err : goal.returns-in-Err
unfolding sum
returns-in-Err c = c.refuse.ensures ∙ rw (← c.in-Err.ensures) (result_refused _ (not_zero c.in-Err.why))
