-- `modular::over` meets its contract. The loop has divided the entries before i.
-- Assumes nothing.
use Rattle.std.proofs.Common.{◌/◌, get_or}
use Rattle.lists.specs.Entries.{Replaced}
use Rattle.modular.proofs.over.Given as goal

abbrev pub invariant-loop-i : goal.invariant-loop-i
invariant-loop-i l = Replaced 0 (λ j. get_or l.a j 0 / l.p) l.a 0 l.q l.i
