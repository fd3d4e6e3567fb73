-- `modp_euclid::common_divisor`: the loop keeps two successive remainders of a and b, which are the first two; a turn makes two divisions.
use Rattle.modp_euclid.specs.Remainders.{Reached}
use Rattle.modp_euclid.proofs.common_divisor.Given as goal

abbrev pub invariant-loop-r : goal.invariant-loop-r
invariant-loop-r l = Reached l.p l.fn.a l.fn.b.coefs l.fn.b.degree (record { former = l.x; terms = l.s; latter = l.y; size = l.r })

abbrev pub decreases-loop-r : goal.decreases-loop-r
decreases-loop-r l = l.r
