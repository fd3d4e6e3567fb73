-- A record that is not turned back has parts.
use Rattle.std.proofs.Common.{arith}
use Rattle.test_parts.specs.HasParts.{positive, record_monic}
use Rattle.test_parts.proofs.print_record.Goals as goal

pub overflow_sub-d : goal.overflow_sub-d
overflow_sub-d g c = omega (arith, positive _ c.in-Ok.ensures c.size-d.ensures)

pub powers_of-found-requires : goal.powers_of-found-requires
powers_of-found-requires g c = record_monic _ c.in-Ok.ensures c.size-d.ensures
