-- The parts over the first i powers are printed.
use Rattle.std.proofs.Common.{◌<◌, length}
use Rattle.modp_factors.specs.Factors.{held_powers}
use Rattle.parts.proofs.PartsInTurn.{LeftAt}
use Rattle.test_parts.proofs.print_parts.Given as goal

abbrev pub invariant-loop-x : goal.invariant-loop-x
invariant-loop-x g l = l.x-index < length (held_powers l.fn.found) → LeftAt l.fn.p l.fn.f l.fn.d l.fn.found l.x-index l.rest l.e
