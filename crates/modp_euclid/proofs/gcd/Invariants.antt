-- `modp_euclid::gcd`: the loop keeps two successive rows of a and b, which are the first two; a turn makes two divisions.
use Rattle.modp_euclid.specs.RemainderRows.{Rows, Formed, Combined}
use Rattle.modp_euclid.proofs.gcd.Given as goal

abbrev pub invariant-loop-n : goal.invariant-loop-n
invariant-loop-n l =
    let w : Rows = record { former = record { remainder = l.x; cofactor = l.u }; terms = l.m; latter = record { remainder = l.y; cofactor = l.v }; size = l.n } in
    Combined l.p l.fn.a l.fn.b.coefs w × Formed l.p l.d w

abbrev pub decreases-loop-n : goal.decreases-loop-n
decreases-loop-n l = l.n
