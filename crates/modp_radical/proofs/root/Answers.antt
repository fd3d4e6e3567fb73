-- `modp_radical::root` meets its contract.
-- Assumes nothing.
use Rattle.std.proofs.Common.{refl, arith}
use Rattle.modp_radical.proofs.DerivedArrays.{root_stored}
use Rattle.modp_radical.proofs.root.Goals as goal

pub invariant_of-result : goal.invariant_of-result
invariant_of-result c =
    let h = c.requires in
    let a = c.args.a.monic in
    let R = root_stored _ h.0 h.1 a h.2 (omega (arith, c.loop-i-test.false)) c.loop-i.invariant in
    record { monic = record { fits = omega (arith, R.fits, a.fits); reduced = R.reduced; monic = R.monic } }

pub returns : goal.returns
returns c =
    let h = c.requires in
    (root_stored _ h.0 h.1 c.args.a.monic h.2 (omega (arith, c.loop-i-test.false)) c.loop-i.invariant, refl)
