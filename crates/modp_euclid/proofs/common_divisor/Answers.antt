-- `modp_euclid::common_divisor` meets its contract.
-- Assumes nothing.
use Rattle.std.proofs.Common.{pos_of_ne-zero, arith, rules}
use Rattle.arrays.specs.SameEntries.{zero_above}
use Rattle.arrays.specs.Sizes.{below_size, size_degree}
use Rattle.modp_euclid.specs.TakenOff.{fewer_left}
use Rattle.modp_euclid.specs.Remainders.{reached_first, reached_next}
use Rattle.modp_euclid.specs.CommonDivisors.{gcd_of_remainders}
use Rattle.modp_euclid.proofs.common_divisor.Goals as goal

pub size_below-r-requires : goal.size_below-r-requires
size_below-r-requires c = let h = c.requires in (search rules, omega (arith, h.1.len), zero_above h.1 h.2)

pub loop-r-init : goal.loop-r-init
loop-r-init c =
    let h = c.requires in
    let b = c.args.b.monic in
    reached_first h.0.large b.fits h.1 b.reduced h.2 b.monic c.size_below-r.ensures

pub take_off-s-requires : goal.take_off-s-requires
take_off-s-requires c =
    let h = c.loop-r.invariant.successive in
    (c.requires.0, h.leading.limit, h.former, below_size _ h.leading, h.latter, size_degree c.loop-r-test.true h.size)

pub monic_multiple-requires : goal.monic_multiple-requires
monic_multiple-requires c =
    let h = c.loop-r.invariant.successive in
    (c.requires.0, h.latter, size_degree c.loop-r-test.true h.size)

pub returns-then-s-eq0 : goal.returns-then-s-eq0
returns-then-s-eq0 c =
    let one = reached_next c.loop-r.invariant c.loop-r-test.true c.take_off-s.ensures in
    let m = c.monic_multiple.ensures in
    (rw m.1 (gcd_of_remainders one (omega (arith, c.if-s-eq0.true)) m.0), m.2)

pub take_off-r-requires : goal.take_off-r-requires
take_off-r-requires c =
    let h = c.loop-r.invariant.successive in
    let taken = c.take_off-s.ensures in
    (c.requires.0, h.size.limit, h.latter, below_size _ h.size, taken.divided.remainder, size_degree (pos_of_ne-zero c.if-s-eq0.false) taken.size)

pub loop-r-smaller : goal.loop-r-smaller
loop-r-smaller c =
    let one = c.take_off-s.ensures in
    let two = c.take_off-r.ensures in
    let less = fewer_left c.loop-r-test.true one.divided one.size in
    omega (arith, less, fewer_left (pos_of_ne-zero c.if-s-eq0.false) two.divided two.size)

pub loop-r-preserved : goal.loop-r-preserved
loop-r-preserved c =
    let one = reached_next c.loop-r.invariant c.loop-r-test.true c.take_off-s.ensures in
    reached_next one (pos_of_ne-zero c.if-s-eq0.false) c.take_off-r.ensures

pub monic_multiple-requires-2 : goal.monic_multiple-requires-2
monic_multiple-requires-2 c =
    let h = c.loop-r.invariant.successive in
    (c.requires.0, h.former, size_degree (omega (arith, h.fewer)) h.leading)

pub returns : goal.returns
returns c =
    let m = c.monic_multiple-2.ensures in
    (rw m.1 (gcd_of_remainders c.loop-r.invariant (omega (arith, c.loop-r-test.false)) m.0), m.2)
