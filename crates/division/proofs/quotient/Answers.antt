-- `division::quotient` meets its contract.
-- Assumes nothing.
use Rattle.std.proofs.Common.{refl, add-one, arith}
use Rattle.division.specs.DivisionLoop.{exact_division, quotient_monic}
use Rattle.division.proofs.quotient.Goals as goal

pub divide-t-requires : goal.divide-t-requires
divide-t-requires c =
    let a = c.args.a.monic in
    rw c.requires.1 (a.reduced, omega (arith, a.fits), rw add-one a.monic.below)

pub overflow_sub-result : goal.overflow_sub-result
overflow_sub-result c =
    let h = c.requires in
    let Q = quotient_monic _ _ _ (rw h.1 at c.args.g.monic.monic) h.2 (rw h.1 at c.divide-t.ensures) h.0 c.args.a.monic.monic in
    omega (arith, Q.0)

pub invariant_of-result : goal.invariant_of-result
invariant_of-result c =
    let h = c.requires in
    let a = c.args.a.monic in
    let t = rw h.1 at c.divide-t.ensures in
    let Q = quotient_monic _ _ _ (rw h.1 at c.args.g.monic.monic) h.2 t h.0 a.monic in
    record { monic = record { fits = omega (arith, a.fits); reduced = t.quotient; monic = Q.1 } }

pub returns : goal.returns
returns c =
    let h = c.requires in
    (exact_division _ _ _ (rw h.1 at c.args.g.monic.monic) h.2 (rw h.1 at c.divide-t.ensures), refl, refl)
