-- `modp_dependency::Held::take_off` meets its contract.
-- Assumes nothing.
use Rattle.std.proofs.Common.{arith, rules}
use Rattle.algebra.specs.Degree.{below_up}
use Rattle.arrays.specs.SameEntries.{zero_above}
use Rattle.modp_dependency.specs.Reduction.{leading_gone, taken_off}
use Rattle.modp_dependency.proofs.Held.take_off.Goals as goal

pub add_in_place-requires : goal.add_in_place-requires
add_in_place-requires c =
    let h = c.requires in
    (search rules, search rules, search rules, h.2.low, h.4.low, zero_above h.4 (below_up (omega arith) h.5.below))

pub add_in_place-requires-2 : goal.add_in_place-requires-2
add_in_place-requires-2 c = let h = c.requires in (search rules, search rules, search rules, h.3.low, h.6.low, zero_above h.6 h.7)

pub size_below-self-requires : goal.size_below-self-requires
size_below-self-requires c = let h = c.requires in (search rules, search rules, leading_gone h.0 h.2 c.args.self.now.sized h.5 c.add_in_place.ensures)

pub returns : goal.returns
returns c =
    let h = c.requires in
    taken_off h.0 h.2 c.args.self.now.sized h.5 c.add_in_place.ensures h.3 c.add_in_place-2.ensures c.size_below-self.ensures
