-- `polynomial::divide` meets its contract: where the division passes, the divisor is monic.
-- Assumes nothing.
use Rattle.std.proofs.Common.{arith, sym, ◌∙◌}
use Rattle.specification.specs.Records.{division}
use Rattle.arrays.specs.Sizes.{below_size}
use Rattle.polynomial.specs.Checked.{not_zero}
use Rattle.polynomial.proofs.Accepted.{division_accepted}
use Rattle.polynomial.proofs.DivisionResult.{monic_size, monic_array, division_refused, division_is}
use Rattle.polynomial.proofs.divide.Goals as goal

pub overflow_sub-divisor : goal.overflow_sub-divisor
overflow_sub-divisor c = monic_size c.size-t.ensures (division_accepted _ _ (sym c.in-Ok.ensures)).1

pub invariant_of-divisor : goal.invariant_of-divisor
invariant_of-divisor c =
    let e = division_accepted _ _ (sym c.in-Ok.ensures) in
    let t = c.size-t.ensures in
    record {
      monic = rw c.square.ensures
          record { fits = omega (arith, t.limit, monic_size t e.1); reduced = e.0.second; monic = monic_array _ t e.1 };
    }

pub divide-d-requires : goal.divide-d-requires
divide-d-requires c =
    let s = c.size-s.ensures in
    rw c.square.ensures ((division_accepted _ _ (sym c.in-Ok.ensures)).0.first, s.limit, below_size _ s)

pub returns-in-Ok : goal.returns-in-Ok
returns-in-Ok c =
    c.accept_division.ensures
    ∙ division_is _ _ (sym c.in-Ok.ensures) c.size-t.ensures (rw c.square.ensures at c.divide-d.ensures)

pub returns-in-Err : goal.returns-in-Err
unfolding division
returns-in-Err c = c.refuse_division.ensures ∙ rw (← c.in-Err.ensures) (division_refused _ _ (not_zero c.in-Err.why))
