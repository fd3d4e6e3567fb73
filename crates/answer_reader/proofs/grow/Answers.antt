-- `answer_reader::grow` meets its contract.
-- Assumes nothing.
use mathlib.Core.Path.{refl}
use native.Mathlib.Omega.{arith}
use Rattle.answer_reader.proofs.Growing.{below_monic, growing_none, growing_more, grown_done}
use Rattle.answer_reader.proofs.grow.Goals as goal

pub loop-init : goal.loop-init
loop-init c = growing_none _ _

pub product-more-requires : goal.product-more-requires
product-more-requires c =
    let array = c.loop.invariant.array in
    let factor = rw c.requires at c.args.factor.poly.monic in
    (array.reduced, factor.reduced, omega (arith, array.fits), omega arith, below_monic array, below_monic factor)

pub overflow_add-degree : goal.overflow_add-degree
overflow_add-degree c = omega (arith, c.loop.invariant.array.fits, c.args.factor.poly.monic.fits)

pub overflow_add-degree-in-loop : goal.overflow_add-degree-in-loop
overflow_add-degree-in-loop c = omega (arith, c.loop.invariant.array.fits, c.args.factor.poly.monic.fits)

pub invariant_of-result : goal.invariant_of-result
invariant_of-result c = record { monic = c.loop.invariant.array }

pub loop-preserved : goal.loop-preserved
loop-preserved c = growing_more _ _ c.loop.invariant c.requires (omega arith) c.product-more.ensures

pub returns : goal.returns
returns c = grown_done _ _ c.loop.invariant refl refl refl (omega arith) (omega arith)
