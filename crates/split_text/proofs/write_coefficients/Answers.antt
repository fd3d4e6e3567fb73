-- `split_text::write_coefficients` meets its contract: after i turns the first i coefficients are written.
-- Assumes nothing.
use Rattle.area.proofs.Turns.{putting_none, putting_room, putting_more, putting_done}
use Rattle.split_text.specs.TextArrays.{all_coefficient_turns}
use Rattle.split_text.proofs.write_coefficients.Goals as goal

pub loop-v-init : goal.loop-v-init
loop-v-init c = putting_none (all_coefficient_turns _) c.requires

pub write_item-requires : goal.write_item-requires
write_item-requires c = putting_room (all_coefficient_turns _) c.loop-v.invariant c.loop-v-test.true c.requires

pub loop-v-preserved : goal.loop-v-preserved
loop-v-preserved c = putting_more (all_coefficient_turns _) c.loop-v.invariant c.loop-v-test.true c.write_item.ensures

pub returns : goal.returns
returns c = putting_done (all_coefficient_turns _) c.loop-v.invariant c.loop-v-test.false
