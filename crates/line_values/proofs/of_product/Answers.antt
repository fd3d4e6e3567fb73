-- `line_values::of_product` meets its contract.
-- Assumes nothing.
use Rattle.std.proofs.Common.{arith}
use Rattle.arrays.specs.Sizes.{below_size}
use Rattle.line_values.specs.Worth.{OfProduct}
use Rattle.line_values.proofs.Judging.{passed_on}
use Rattle.line_values.proofs.Products.{product_without}
use Rattle.line_values.proofs.of_product.Goals as goal

pub returns-in_err-f : goal.returns-in_err-f
returns-in_err-f c =
    passed_on (OfProduct c.args.p.value c.args.a c.args.b) c.from_residual.result c.from_residual.ensures.1 (product_without c.in_err-f.ensures)

pub product-requires : goal.product-requires
product-requires c =
    let f = rw c.in_ok-f.ensures.0 at c.requires.0 in
    let g = rw c.in_ok-f.ensures.1 at c.requires.1 in
    rw c.square.ensures (f, g, c.size-s.ensures.limit, omega arith, below_size _ c.size-s.ensures, below_size _ c.size-t.ensures)
