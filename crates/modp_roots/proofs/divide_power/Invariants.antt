-- `modp_roots::divide_power`: the loop has divided x − c out `times` times.
use Rattle.std.proofs.Common.{◌≡◌}
use Rattle.algebra.specs.Residues.{residue}
use Rattle.algebra.specs.CoefficientLists.{poly}
use Rattle.frobenius.specs.Evaluation.{linear}
use Rattle.modp_roots.specs.DividedOut.{Dividing}
use Rattle.modp_roots.proofs.divide_power.Given as goal

abbrev pub invariant-loop-left : goal.invariant-loop-left
invariant-loop-left l =
    let a = l.fn.a in
    let (f, (e, (n, _))) = l.left in
    Dividing a.n (poly a.n a.coefs) a.degree (linear (residue a.n l.c)) 1 f e l.times × (n ≡ a.n)

abbrev pub decreases-loop-left : goal.decreases-loop-left
decreases-loop-left l = l.left.1.0
