-- `sheet_output::write_output` meets its contract: a refusal's line is written over an area that is as it was.
-- Assumes nothing.
use Rattle.std.proofs.Math.Decide.{ℕ_discrete}
use Rattle.sheet_output.specs.Sent.{sheet_sent, refusal_room, refusal_sent}
use Rattle.sheet_output.proofs.write_output.Goals as goal

pub outcome_text-requires : goal.outcome_text-requires
outcome_text-requires c = λ ne. refusal_room _ c.requires c.typed-called.ensures ne

pub returns : goal.returns
returns c =
    elim (ℕ_discrete c.typed-called.result.number 0) [
      | yes z ↦ let (count, area) = c.outcome_text.ensures.written z in rw (count, area) (sheet_sent _ c.requires c.typed-called.ensures z)
      | no ne ↦ refusal_sent _ c.requires c.typed-called.ensures ne (c.outcome_text.ensures.refused ne)
    ]
