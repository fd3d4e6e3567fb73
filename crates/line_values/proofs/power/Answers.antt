-- `line_values::power` meets its contract.
-- Assumes nothing.
use Rattle.std.proofs.Common.{arith, add-one, ◌≡◌}
use Rattle.algebra.specs.TakenPrimes.{square_above_one}
use Rattle.line_values.proofs.Raising.{raised_none, raised_more, raised_below, raised_fits}
use Rattle.line_values.proofs.power.Goals as goal

pub loop-i-init : goal.loop-i-init
loop-i-init c = raised_none c.args.f (square_above_one _ c.args.p.taken) c.monomial-r.ensures

pub product-next-requires : goal.product-next-requires
product-next-requires c =
    let pre = c.requires in
    let inv = c.loop-i.invariant in
    rw c.square-n.ensures (
      pre.0,
      inv.reduced,
      omega (arith, pre.1),
      omega (arith, raised_fits c.loop-i.i c.args.d c.loop-i-test.true pre.3),
      rw (add-one c.args.d) pre.2,
      raised_below c.args.f c.loop-i.i inv pre.2,
    )

pub loop-i-preserved : goal.loop-i-preserved
loop-i-preserved c = raised_more c.args.f c.loop-i.i c.loop-i.invariant (rw c.square-n.ensures at c.product-next.ensures)

pub returns : goal.returns
returns c =
    let last : c.loop-i.i ≡ c.args.e = omega arith in
    let power = c.loop-i.invariant in rw (← last) power
