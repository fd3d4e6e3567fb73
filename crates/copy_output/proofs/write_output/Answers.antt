-- `copy_output::write_output` meets its contract: a refusal's line is written over an area that is as it was.
-- Assumes nothing.
use Rattle.std.proofs.Common.{arith}
use Rattle.std.proofs.Math.Decide.{ℕ_discrete}
use Rattle.splitter.specs.CopyLaws.{copy_place}
use Rattle.copy_output.specs.GivenOut.{copy_out, line_room, line_out}
use Rattle.copy_output.proofs.write_output.Goals as goal

pub outcome_text-requires : goal.outcome_text-requires
outcome_text-requires c =
    λ ne. line_room _ c.requires c.copy-called.ensures ne _ (omega (arith, copy_place _ c.copy-called.ensures))

pub returns : goal.returns
returns c =
    elim (ℕ_discrete c.copy-called.result.number 0) [
      | yes z ↦ let (count, area) = c.outcome_text.ensures.written z in rw (count, area) (copy_out _ c.requires c.copy-called.ensures z)
      | no ne ↦ line_out _ c.requires c.copy-called.ensures ne (rw (copy_place _ c.copy-called.ensures) at (c.outcome_text.ensures.refused ne))
    ]
