-- `polynomial::sub` meets its contract: where the pair passes, both records are proper and of one prime.
-- Assumes nothing.
use Rattle.std.proofs.Common.{sym, ◌∙◌}
use Rattle.specification.specs.Records.{difference}
use Rattle.polynomial.specs.Checked.{not_zero}
use Rattle.polynomial.proofs.Accepted.{pair_accepted}
use Rattle.polynomial.proofs.Results.{result_refused, difference_is}
use Rattle.polynomial.proofs.sub.Goals as goal

pub difference-requires : goal.difference-requires
difference-requires c =
    let pair = pair_accepted _ _ (sym c.in-Ok.ensures) in
    rw c.square.ensures (pair.first, pair.second)

pub returns-in-Ok : goal.returns-in-Ok
returns-in-Ok c = c.accept.ensures ∙ difference_is _ _ (sym c.in-Ok.ensures) (rw c.square.ensures at c.difference.ensures)

pub returns-in-Err : goal.returns-in-Err
unfolding difference
returns-in-Err c = c.refuse.ensures ∙ rw (← c.in-Err.ensures) (result_refused _ (not_zero c.in-Err.why))
