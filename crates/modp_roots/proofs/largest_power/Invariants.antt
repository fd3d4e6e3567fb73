-- `modp_roots::largest_power`: the loop has found a power of p that is at most n.
use Rattle.std.proofs.Common.{◌-◌, ◌≤◌}
use Rattle.modp_roots.specs.BinomialDivision.{PowerOf}
use Rattle.modp_roots.proofs.largest_power.Given as goal

abbrev pub invariant-loop-k : goal.invariant-loop-k
invariant-loop-k l = PowerOf l.p l.k × (l.k ≤ l.n)

abbrev pub decreases-loop-k : goal.decreases-loop-k
decreases-loop-k l = l.n - l.k
