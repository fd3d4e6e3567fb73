-- `modp_roots::divide_root`: the loop has divided x − c out `times` times, and k is a power of p.
use Rattle.std.proofs.Common.{◌≡◌}
use Rattle.algebra.specs.Residues.{residue}
use Rattle.algebra.specs.CoefficientLists.{poly}
use Rattle.frobenius.specs.Evaluation.{linear}
use Rattle.modp_roots.specs.BinomialDivision.{PowerOf}
use Rattle.modp_roots.specs.DividedOut.{Dividing}
use Rattle.modp_roots.proofs.divide_root.Given as goal

abbrev pub invariant-loop-k : goal.invariant-loop-k
invariant-loop-k l =
    let a = l.fn.a in
    Dividing a.n (poly a.n a.coefs) a.degree (linear (residue a.n l.c)) 1 l.left.coefs l.left.degree l.times × (l.left.n ≡ a.n) × PowerOf a.n l.k

abbrev pub decreases-loop-k : goal.decreases-loop-k
decreases-loop-k l = l.k
