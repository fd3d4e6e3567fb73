-- `polynomial::mul` meets its contract: where the product passes, it has 33 terms at most.
-- Assumes nothing.
use Rattle.std.proofs.Common.{arith, sym, ◌∙◌}
use Rattle.specification.specs.Records.{product_of}
use Rattle.arrays.specs.Sizes.{below_size}
use Rattle.arrays.specs.Trimming.{length_trim}
use Rattle.polynomial.specs.Checked.{not_zero}
use Rattle.polynomial.proofs.Accepted.{product_accepted}
use Rattle.polynomial.proofs.Results.{result_refused, product_is}
use Rattle.polynomial.proofs.mul.Goals as goal

pub product-requires : goal.product-requires
product-requires c =
    let e = product_accepted _ _ (sym c.in-Ok.ensures) in
    let s = c.size-s.ensures in
    let t = c.size-t.ensures in
    rw c.square.ensures
    (e.0.first, e.0.second, s.limit, omega (arith, e.1, length_trim s, length_trim t), below_size _ s, below_size _ t)

pub returns-in-Ok : goal.returns-in-Ok
returns-in-Ok c = c.accept.ensures ∙ product_is _ _ (sym c.in-Ok.ensures) (rw c.square.ensures at c.product.ensures)

pub returns-in-Err : goal.returns-in-Err
unfolding product_of
returns-in-Err c = c.refuse.ensures ∙ rw (← c.in-Err.ensures) (result_refused _ (not_zero c.in-Err.why))
