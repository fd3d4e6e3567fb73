-- `split_text::write_coefficients` meets its contract: after i turns the first i coefficients are written.
-- Assumes nothing.
use lib.ListN.{length, take}
use Rattle.specification.specs.Text.{coefficient_text}
use Rattle.area.proofs.Turns.{Putting}
use Rattle.split_text.proofs.write_coefficients.Given as goal

abbrev pub invariant-loop-v : goal.invariant-loop-v
invariant-loop-v l = Putting (λ i. coefficient_text (take i l.coefs)) (length l.coefs) l.fn.out l.out l.v-index
