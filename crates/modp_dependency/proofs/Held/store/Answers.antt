-- `modp_dependency::Held::store` meets its contract.
-- Assumes nothing.
use Rattle.std.proofs.Common.{rules, arith}
use Rattle.arrays.specs.SameEntries.{zero_above}
use Rattle.modp_dependency.specs.Storing.{monic_row, preimage_kept, both_stored}
use Rattle.modp_dependency.proofs.Held.store.Goals as goal

pub add_in_place-requires-2 : goal.add_in_place-requires-2
add_in_place-requires-2 c =
    let h = c.requires in
    let kept = preimage_kept c.args.rows.now c.add_in_place.new.r (omega arith) h.4 in
    (search rules, omega (arith, kept.reduced.len), omega (arith, kept.reduced.len, h.6.len), kept.reduced.low, h.6.low, zero_above h.6 h.7)

pub returns : goal.returns
returns c =
    let h = c.requires in
    let kept = preimage_kept c.args.rows.now c.add_in_place.new.r (omega arith) h.4 in
    both_stored _ (omega arith) (monic_row h.0 _ c.inverse-c.ensures.1 h.4.0 kept c.add_in_place.ensures c.add_in_place-2.ensures)
