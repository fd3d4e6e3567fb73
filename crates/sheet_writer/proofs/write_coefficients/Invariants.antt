-- `sheet_writer::write_coefficients` meets its contract: after i turns the commands of the first i coefficients are written.
-- Assumes nothing.
use lib.ListN.{length, take}
use Rattle.layouts.specs.CoefficientBytes.{coefficient_bytes}
use Rattle.area.proofs.Turns.{Putting}
use Rattle.sheet_writer.proofs.write_coefficients.Given as goal

abbrev pub invariant-loop-i : goal.invariant-loop-i
invariant-loop-i l = Putting (λ i. coefficient_bytes l.p 0 (take i l.coefs)) (length l.coefs) l.fn.out l.out l.i
