-- `run_length::rows_of` meets its contract.
-- Assumes nothing.
use native.Mathlib.Omega.{arith}
use Rattle.quotients.specs.Shift.{shifts_none, shifts_more}
use Rattle.run_length.proofs.RowTable.{rows_none, rows_more}
use Rattle.run_length.proofs.rows_of.Goals as goal

pub loop-i-init : goal.loop-i-init
loop-i-init c = (rows_none, shifts_none _ c.requires.1 c.requires.2)

pub loop-i-preserved : goal.loop-i-preserved
loop-i-preserved c =
    let inv = c.loop-i.invariant in
    (rows_more (omega (arith, c.requires.0)) inv.0 inv.1 c.store_row.ensures, shifts_more _ _ inv.1 c.shift.ensures)
