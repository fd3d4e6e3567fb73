-- `modular::add_by` meets its contract. The loop has passed the places before j.
-- Assumes nothing.
use Rattle.modular.specs.InPlace.{Adding}
use Rattle.modular.proofs.add_by.Given as goal

abbrev pub invariant-loop-j : goal.invariant-loop-j
invariant-loop-j l = Adding l.fn.modulus.n l.fn.r l.c l.b l.j l.r
