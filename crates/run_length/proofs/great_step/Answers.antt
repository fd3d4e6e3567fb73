-- `run_length::great_step` meets its contract.
-- Assumes nothing.
use native.Mathlib.Omega.{arith}
use Rattle.arrays.specs.SameEntries.{zero_above}
use Rattle.modular.proofs.AddMultiple.{multiple_added_to}
use Rattle.run_length.proofs.RowSum.{lent_row, step_none, step_more, step_done}
use Rattle.run_length.proofs.great_step.Goals as goal

pub new-modulus-requires : goal.new-modulus-requires
new-modulus-requires c = omega (arith, c.requires.1.low 0)

pub loop-i-init : goal.loop-i-init
loop-i-init c = step_none _ _ _ (omega (arith, c.requires.1.low 0))

pub add_by-requires : goal.add_by-requires
add_by-requires c =
    let pre = c.requires in
    let loop = c.loop-i in
    let row = pre.0.reduced loop.i c.loop-i-test.true in
    rw (c.new-modulus.ensures, lent_row c.args.rows.now loop.i) (
      omega (arith, pre.1.low loop.i),
      omega (arith, loop.invariant.reduced.len, c.args.f.now.monic.fits),
      omega (arith, loop.invariant.reduced.len, row.len),
      loop.invariant.reduced.low,
      row.low,
      zero_above row (pre.0.small loop.i c.loop-i-test.true),
    )

pub loop-i-preserved : goal.loop-i-preserved
loop-i-preserved c =
    let pre = c.requires in
    let loop = c.loop-i in
    let taken = c.loop-i-test.true in
    let added = rw (c.new-modulus.ensures, lent_row c.args.rows.now loop.i) at c.add_by.ensures in
    step_more _ _ _ pre.0 taken (omega (arith, taken, c.args.f.now.monic.fits, pre.1.len)) loop.invariant
    (multiple_added_to _ _ _ _ loop.invariant.reduced added)

pub returns : goal.returns
returns c = step_done _ _ _ c.loop-i-test.false c.requires.2 c.loop-i.invariant
