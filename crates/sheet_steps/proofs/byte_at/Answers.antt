-- `sheet_steps::byte_at` meets its contract.
-- Assumes nothing.
use Rattle.std.proofs.Common.{rules}
use Rattle.sheet_steps.specs.Steps.{byte_taken, byte_missing}
use Rattle.sheet_steps.proofs.byte_at.Goals as goal

pub returns-in-Some : goal.returns-in-Some
returns-in-Some c = byte_taken (search rules) (search rules) (search rules)

pub returns-in-None : goal.returns-in-None
returns-in-None c = byte_missing (search rules) c.at.ensures
