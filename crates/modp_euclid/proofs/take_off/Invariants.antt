-- `modp_euclid::take_off`: the loop has divided down to the terms below top, with a quotient that no array holds.
use Rattle.modp_euclid.specs.TakenOff.{Taking}
use Rattle.modp_euclid.proofs.take_off.Given as goal

abbrev pub invariant-loop-top : goal.invariant-loop-top
invariant-loop-top l = Taking l.p l.fn.a l.g l.e l.top l.a
