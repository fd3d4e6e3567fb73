-- `modp_roots::divide_out`: the loop has divided g out `times` times.
use Rattle.std.proofs.Common.{◌≡◌}
use Rattle.algebra.specs.CoefficientLists.{poly}
use Rattle.modp_roots.specs.DividedOut.{Dividing}
use Rattle.modp_roots.proofs.divide_out.Given as goal

abbrev pub invariant-loop-left : goal.invariant-loop-left
invariant-loop-left l =
    let a = l.fn.a in
    let (f, (e, (n, _))) = l.left in
    Dividing a.n (poly a.n a.coefs) a.degree (poly a.n l.g.coefs) l.g.degree f e l.times × (n ≡ a.n)

abbrev pub decreases-loop-left : goal.decreases-loop-left
decreases-loop-left l = l.left.1.0
