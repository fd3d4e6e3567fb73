-- `modular::add_in_place` meets its contract.
-- Assumes nothing.
use native.Mathlib.Nat.{mod_self}
use Rattle.modular.specs.InPlace.{nothing_added}
use Rattle.modular.proofs.add_in_place.Goals as goal

pub returns-then-c-n : goal.returns-then-c-n
returns-then-c-n c = nothing_added c.requires.3 (rw c.if-c-n.true (mod_self _))
