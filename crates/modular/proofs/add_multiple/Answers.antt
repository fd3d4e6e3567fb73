-- `modular::add_multiple` meets its contract: `add_in_place` is lent the part from k on.
-- Assumes nothing.
use borrow.Author.Rules.{rules}
use Rattle.arrays.specs.SameEntries.{zero_above}
use Rattle.modular.proofs.AddMultiple.{part_within, multiple_added}
use Rattle.modular.proofs.add_multiple.Goals as goal

pub add_in_place-requires : goal.add_in_place-requires
add_in_place-requires c =
    let pre = c.requires in
    (pre.0, search rules, search rules, part_within c.args.k _ pre.1 (search rules), pre.2.low, zero_above pre.2 pre.3)

pub returns : goal.returns
returns c = multiple_added _ _ _ _ _ c.requires.1 c.requires.3 (search rules) c.add_in_place.ensures
