-- `modp_roots::divide_out` meets its contract.
-- Assumes nothing.
use Rattle.std.proofs.Common.{refl, add-one, arith}
use Rattle.arrays.specs.SameEntries.{zero_above}
use Rattle.modp_roots.specs.DividedOut.{dividing_none, dividing_once, dividing_stops, dividing_done, dividing_least, remainder_zero, remainder_not_zero}
use Rattle.modp_roots.proofs.divide_out.Goals as goal

pub loop-left-init : goal.loop-left-init
loop-left-init c = (dividing_none c.args.a.monic.reduced c.args.a.monic.monic, refl)

pub divide-t-requires : goal.divide-t-requires
divide-t-requires c =
    let D = c.loop-left.invariant.0 in
    rw c.requires.1 (D.reduced, omega (arith, dividing_least D, c.args.a.monic.fits), rw add-one D.monic.below)

pub size_below-requires : goal.size_below-requires
size_below-requires c =
    let D = c.divide-t.ensures in
    (omega (arith, c.args.g.monic.fits), omega (arith, D.remainder.len), zero_above D.remainder D.small)

pub returns-then-size_below-ne0 : goal.returns-then-size_below-ne0
returns-then-size_below-ne0 c =
    let (D, same) = c.loop-left.invariant in
    let monic = rw c.requires.1 at c.args.g.monic.monic in
    (dividing_stops D (remainder_not_zero monic (rw c.requires.1 at c.divide-t.ensures) c.size_below.ensures c.if-size_below-ne0.true), same)

pub loop-left-preserved : goal.loop-left-preserved
loop-left-preserved c =
    let E = rw c.requires.1 at c.divide-t.ensures in
    (dividing_once c.loop-left.invariant.0 c.requires.0 (rw c.requires.1 at c.args.g.monic.monic) E.quotient (remainder_zero E c.size_below.ensures (omega arith)), refl)

pub returns : goal.returns
returns c =
    let (D, same) = c.loop-left.invariant in
    (dividing_done D c.requires.0 (rw c.requires.1 at c.args.g.monic.monic) (omega (arith, c.loop-left-test.false)), same)
