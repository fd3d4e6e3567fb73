-- `run_length::is_power` meets its contract.
-- Assumes nothing.
use Rattle.run_length.proofs.PowerOfOne.{one_power}
use Rattle.run_length.proofs.MeetingSearch.{power_decided}
use Rattle.run_length.proofs.is_power.Goals as goal

pub times_power_of_x-r-requires : goal.times_power_of_x-r-requires
times_power_of_x-r-requires c =
    let h = c.requires in
    let one = one_power h.0 c.monomial.ensures {q = c.args.g} h.1 in
    (one.reduced, one.small)

pub returns : goal.returns
returns c =
    let h = c.requires in
    power_decided h.2 h.3 c.args.f.now.monic.monic h.0 c.args.i c.monomial.ensures c.times_power_of_x-r.ensures c.equal.ensures
