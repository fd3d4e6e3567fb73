-- `modp_radical::radical_of` meets its contract.
-- Assumes nothing.
use Rattle.std.proofs.Common.{arith}
use Rattle.arrays.specs.SameEntries.{zero_above}
use Rattle.modp_radical.specs.Radicals.{derivative_terms, derivative_zero, derivative_quotient, radical_quotient}
use Rattle.modp_radical.proofs.radical_of.Goals as goal

pub size_below-requires : goal.size_below-requires
size_below-requires c =
    let a = c.args.a.monic in
    let D = c.derivative-v.ensures in
    (omega (arith, a.fits), omega (arith, a.fits, D.reduced.len), zero_above D.reduced (derivative_terms _ D a.monic))

pub root-requires : goal.root-requires
root-requires c =
    let h = c.requires in
    (h.0, h.2, derivative_zero _ c.derivative-v.ensures c.size_below.ensures (omega arith))

pub common_divisor-g-requires : goal.common_divisor-g-requires
common_divisor-g-requires c =
    let D = c.derivative-v.ensures in
    (c.requires.0, D.reduced, derivative_terms _ D c.args.a.monic.monic)

pub quotient-q-requires : goal.quotient-q-requires
quotient-q-requires c = let (g, same) = c.common_divisor-g.ensures in (c.requires.0.large, same, g.right)

pub lowest-requires : goal.lowest-requires
lowest-requires c =
    let P = c.requires.0 in
    let (g, same) = c.common_divisor-g.ensures in
    let (q, degree, n) = c.quotient-q.ensures in
    let Q = derivative_quotient P _ c.args.a.monic.monic c.derivative-v.ensures c.size_below.ensures (omega arith) g q in
    (omega (arith, degree, Q.positive), rw n P, rw n same)

pub returns : goal.returns
returns c =
    let (q, degree, n) = c.quotient-q.ensures in
    radical_quotient c.requires.0 _ c.args.a.monic.monic c.derivative-v.ensures c.size_below.ensures (omega arith) c.common_divisor-g.ensures.0 q _
    (rw (degree, n) at c.lowest.ensures)
