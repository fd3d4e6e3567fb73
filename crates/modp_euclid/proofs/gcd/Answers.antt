-- `modp_euclid::gcd` meets its contract.
-- Assumes nothing.
use Rattle.std.proofs.Common.{pos_of_ne-zero, arith, rules}
use Rattle.arrays.specs.SameEntries.{zero_above}
use Rattle.arrays.specs.Sizes.{size_degree}
use Rattle.modp_euclid.specs.TakenOff.{fewer_left}
use Rattle.modp_euclid.specs.RemainderRows.{formed_first, combined_first}
use Rattle.modp_euclid.specs.Next.{operands, formed_next, combined_next}
use Rattle.modp_euclid.specs.CommonDivisors.{gcd_former, cofactor_former}
use Rattle.modp_euclid.proofs.gcd.Goals as goal

pub size_below-n-requires : goal.size_below-n-requires
size_below-n-requires c = let h = c.requires in (search rules, omega (arith, h.2.len), zero_above h.2 h.3)

pub loop-n-init : goal.loop-n-init
loop-n-init c =
    let h = c.requires in
    let b = c.args.b.monic in
    let l = h.0.large in
    (combined_first _ _ _ _ _ l, formed_first _ _ _ _ _ l b.fits h.2 b.reduced h.3 b.monic c.size_below-n.ensures)

pub take_row_off-m-requires : goal.take_row_off-m-requires
take_row_off-m-requires c =
    let h = c.requires in
    let formed = c.loop-n.invariant.1 in
    (h.0, formed.leading.limit, omega (arith, formed.limit, formed.fewer, c.args.b.monic.fits), operands formed c.loop-n-test.true)

pub monic_row-requires : goal.monic_row-requires
monic_row-requires c =
    let h = c.requires in
    let pos = c.loop-n-test.true in
    let one = formed_next c.loop-n.invariant.1 pos c.take_row_off-m.ensures in
    (h.0, omega (arith, c.args.b.monic.fits, pos), one.former, size_degree pos one.leading)

pub returns-then-m-eq0 : goal.returns-then-m-eq0
returns-then-m-eq0 c =
    let inv = c.loop-n.invariant in
    let pos = c.loop-n-test.true in
    let taken = c.take_row_off-m.ensures in
    let combined = combined_next inv.1 pos taken inv.0 in
    let formed = formed_next inv.1 pos taken in
    let monic = c.monic_row.ensures in
    (rw monic.1 (gcd_former combined formed monic.0 (omega (arith, c.if-m-eq0.true))), cofactor_former combined formed monic.0, monic.2)

pub take_row_off-n-requires : goal.take_row_off-n-requires
take_row_off-n-requires c =
    let h = c.requires in
    let one = formed_next c.loop-n.invariant.1 c.loop-n-test.true c.take_row_off-m.ensures in
    (h.0, one.leading.limit, omega (arith, one.limit, one.fewer, c.args.b.monic.fits), operands one (pos_of_ne-zero c.if-m-eq0.false))

pub loop-n-smaller : goal.loop-n-smaller
loop-n-smaller c =
    let one = c.take_row_off-m.ensures in
    let two = c.take_row_off-n.ensures in
    let less = fewer_left c.loop-n-test.true one.divided one.size in
    omega (arith, less, fewer_left (pos_of_ne-zero c.if-m-eq0.false) two.divided two.size)

pub loop-n-preserved : goal.loop-n-preserved
loop-n-preserved c =
    let inv = c.loop-n.invariant in
    let pos = c.loop-n-test.true in
    let more = pos_of_ne-zero c.if-m-eq0.false in
    let one = c.take_row_off-m.ensures in
    let two = c.take_row_off-n.ensures in
    let formed = formed_next inv.1 pos one in
    (combined_next formed more two (combined_next inv.1 pos one inv.0), formed_next formed more two)

pub monic_row-requires-2 : goal.monic_row-requires-2
monic_row-requires-2 c =
    let h = c.requires in
    let formed = c.loop-n.invariant.1 in
    (h.0, omega (arith, c.args.b.monic.fits, formed.fewer), formed.former, size_degree (omega (arith, formed.fewer)) formed.leading)

pub returns : goal.returns
returns c =
    let inv = c.loop-n.invariant in
    let monic = c.monic_row-2.ensures in
    (rw monic.1 (gcd_former inv.0 inv.1 monic.0 (omega (arith, c.loop-n-test.false))), cofactor_former inv.0 inv.1 monic.0, monic.2)
