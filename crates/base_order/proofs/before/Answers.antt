-- `base_order::before` meets its contract.
-- Assumes nothing.
use Rattle.std.specs.Ordering.{nat_cmp}
use Rattle.std.proofs.Common.{◌≡◌, refl, suc, length-take, rules, arith}
use Rattle.std.proofs.lemmas.Iterator.Adapters.{YieldsList-from_rev_slice}
use Rattle.std.proofs.lemmas.Iterator.Search.{cmp_from_yields_List}
use Rattle.arrays.specs.Listed.{listed}
use Rattle.base_order.proofs.ArrayOrder.{before_decided}
use Rattle.base_order.proofs.before.Goals as goal

pub returns : goal.returns
returns c =
    let coefs =
    cmp_from_yields_List (λ x y. y ≡ x) _ nat_cmp _ c.cmp-by_coefs.ensures.ran (YieldsList-from_rev_slice (listed c.args.d c.args.a) (search rules))
    (λ it e. YieldsList-from_rev_slice (listed c.args.e c.args.b) (search rules)) (λ x y. refl) in
    rw (c.is_lt.ensures, c.then.ensures, c.cmp-by_degree.ensures, coefs, c.terms-f.ensures, c.terms-g.ensures)
    (before_decided (listed c.args.d c.args.a) (listed c.args.e c.args.b) (omega (arith, length-take (suc c.args.d) c.args.a)) (omega (arith, length-take (suc c.args.e) c.args.b)))
