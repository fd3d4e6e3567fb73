-- `inverses::entry_at` meets its contract.
-- Assumes nothing.
use native.Mathlib.Omega.{arith}
use Rattle.specification.specs.Limits.{primes}
use Rattle.inverses.specs.InverseTable.{offset_room}
use Rattle.inverses.proofs.entry_at.Goals as goal

pub overflow_add-result : goal.overflow_add-result
unfolding primes
overflow_add-result c = let (u, z, v) = c.requires in omega (arith, c.offset-first.ensures, offset_room _ _ u z v)

pub bounds-t-first : goal.bounds-t-first
unfolding primes
bounds-t-first c = let (u, z, v) = c.requires in omega (arith, c.offset-first.ensures, offset_room _ _ u z v)

pub returns : goal.returns
unfolding primes
returns c = let (u, z, v) = c.requires in rw c.offset-first.ensures (c.table-t.ensures.rule _ _ u z v)
