-- `modp_roots::divide_root` meets its contract.
-- Assumes nothing.
use Rattle.std.proofs.Common.{refl, ◌∙◌, rules}
use Rattle.modp_roots.specs.BinomialDivision.{power_less}
use Rattle.modp_roots.specs.DividedOut.{dividing_none, dividing_then, dividing_end}
use Rattle.modp_roots.proofs.divide_root.Goals as goal

pub loop-k-init : goal.loop-k-init
loop-k-init c = (dividing_none c.args.a.monic.reduced c.args.a.monic.monic, refl, c.largest_power-k.ensures.power)

pub loop-k-preserved : goal.loop-k-preserved
loop-k-preserved c =
    let (D, same, power) = c.loop-k.invariant in
    let E = c.divide_power-t.ensures in
    (dividing_then D (rw same at E.0), E.1 ∙ same, power_less c.requires.0 power (search rules))

pub returns : goal.returns
returns c =
    let (D, same, power) = c.loop-k.invariant in
    let E = c.divide_linear_out-t.ensures in
    (dividing_end D (rw same at E.0), E.1 ∙ same)
