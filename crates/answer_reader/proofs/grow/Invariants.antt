-- `answer_reader::grow` meets its contract.
-- Assumes nothing.
use Rattle.answer_reader.proofs.Growing.{Growing}
use Rattle.answer_reader.proofs.grow.Given as goal

abbrev pub invariant-loop : goal.invariant-loop
invariant-loop l = Growing l.so_far l.fn.factor l.counter l.coefs l.degree
