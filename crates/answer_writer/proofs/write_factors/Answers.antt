-- `answer_writer::write_factors` meets its contract: the second factor is written if there is one.
-- Assumes nothing.
use Rattle.answer_writer.specs.FactorsWritten.{first_fits, second_fits, two_put, one_put}
use Rattle.answer_writer.proofs.write_factors.Goals as goal

pub write_factor-requires : goal.write_factor-requires
write_factor-requires g c = (c.requires.0, first_fits _ _ _ c.requires.2)

pub write_factor-requires-in-Some : goal.write_factor-requires-in-Some
write_factor-requires-in-Some g c = (rw c.in-Some.is at c.requires.1, second_fits _ _ _ c.in-Some.is c.requires.2 c.write_factor.ensures)

pub returns-in-Some : goal.returns-in-Some
returns-in-Some g c = two_put _ _ _ c.in-Some.is c.write_factor.ensures c.write_factor-in-Some.ensures

pub returns-in_default : goal.returns-in_default
returns-in_default g c = one_put _ _ _ c.in_default.is c.write_factor.ensures
