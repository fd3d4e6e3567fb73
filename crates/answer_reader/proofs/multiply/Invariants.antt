-- `answer_reader::multiply` meets its contract.
-- Assumes nothing.
use Rattle.std.proofs.Common.{◌≡◌, ◌-◌, length}
use Rattle.specification.specs.Limits.{◌²}
use Rattle.answer_reader.proofs.Multiplying.{Multiplying}
use Rattle.answer_reader.proofs.multiply.Given as goal

abbrev pub invariant-loop-at : goal.invariant-loop-at
invariant-loop-at l =
    let (coefs, (degree, (n, _))) = l.grown in
    Multiplying l.answer l.prime.value coefs degree l.at × (n ≡ l.prime.value ²)

abbrev pub decreases-loop-at : goal.decreases-loop-at
decreases-loop-at l = length l.answer - l.at
