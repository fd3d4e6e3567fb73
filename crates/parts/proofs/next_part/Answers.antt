-- `parts::next_part` meets its contract: the power is the last one left if its degree is that of f.
-- Assumes nothing.
use Rattle.std.proofs.Common.{arith}
use Rattle.parts.specs.PowersLeft.{first_held, first_lifted, first_fits, last_given, last_found, none_after, some_after}
use Rattle.parts.proofs.next_part.Goals as goal

pub overflow_mul-is_last : goal.overflow_mul-is_last
overflow_mul-is_last c = omega (arith, first_fits c.requires.1)

pub lifted_power-whole-requires : goal.lifted_power-whole-requires
lifted_power-whole-requires c = let (L, w) = c.requires in (w.monic.prime, first_lifted w, (first_held w).positive, first_fits w)

pub part_over-part-requires : goal.part_over-part-requires
part_over-part-requires c = let (L, w) = c.requires in (last_given (none_after L w c.if-is_last.true), c.lifted_power-whole.ensures.0)

pub returns-then-is_last : goal.returns-then-is_last
returns-then-is_last c =
    let (L, w) = c.requires in
    last_found (none_after L w c.if-is_last.true) c.part_over-part.ensures c.monomial-one.ensures

pub first_part-requires : goal.first_part-requires
first_part-requires c = let (L, w) = c.requires in some_after L w c.if-is_last.false
