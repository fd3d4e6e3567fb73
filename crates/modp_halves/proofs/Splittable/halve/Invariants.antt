-- `modp_halves::Splittable::halve` meets its contract. The loop has seen that the gcd of Q and v - k is 1 for every k below c.
-- Assumes nothing.
use Rattle.std.proofs.Common.{ℕ, ◌<◌}
use Rattle.modp_halves.specs.Halves.{CoprimeTo}
use Rattle.modp_halves.proofs.Splittable.halve.Given as goal

abbrev pub invariant-loop-c : goal.invariant-loop-c
invariant-loop-c l = (k : ℕ) → k < l.c → CoprimeTo l.self.halvable k
