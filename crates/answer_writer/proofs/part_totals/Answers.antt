-- `answer_writer::part_totals` meets its contract: a second factor counts if there is one.
-- Assumes nothing.
use native.Mathlib.Omega.{arith}
use borrow.Author.Rules.{rules}
use Rattle.answer_writer.specs.Counting.{split_counts, other_counts, added}
use Rattle.answer_writer.proofs.part_totals.Goals as goal

pub overflow_add-first : goal.overflow_add-first
overflow_add-first c = omega (arith, (split_counts c.args.part c.in-Some.is).0, c.requires.2)

pub totals_of-requires : goal.totals_of-requires
totals_of-requires c =
    let q = split_counts c.args.part c.in-Some.is in
    (c.requires.0, omega (arith, q.0, c.requires.1), omega (arith, q.0, c.requires.2))

pub totals_of-requires-in-None : goal.totals_of-requires-in-None
totals_of-requires-in-None c =
    let q = other_counts c.args.part c.in-None.is in
    (c.requires.0, omega (arith, q.0, c.requires.1), omega (arith, q.0, c.requires.2))

pub returns-in-Some : goal.returns-in-Some
returns-in-Some c = added c.args.part (search rules) c.requires.0 (split_counts c.args.part c.in-Some.is) c.totals_of.ensures

pub returns-in-None : goal.returns-in-None
returns-in-None c = added c.args.part (search rules) c.requires.0 (other_counts c.args.part c.in-None.is) c.totals_of-in-None.ensures
