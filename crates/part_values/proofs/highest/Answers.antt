-- `part_values::highest` meets its contract.
-- Assumes nothing.
use Rattle.std.proofs.Common.{◌≡◌, ℕ, ◌-◌, subst, arith}
use Rattle.arrays.specs.SameEntries.{zero_above}
use Rattle.part_values.specs.Given.{part_room}
use Rattle.part_values.proofs.Degrees.{rest_room}
use Rattle.part_values.proofs.Cofactors.{Cofactor, cofactor_none, cofactor_more, cofactor_stop, cofactor_below, cofactor_last}
use Rattle.part_values.proofs.CofactorIsW.{are_m1_and_w}
use Rattle.part_values.proofs.highest.Goals as goal

pub loop-k-init : goal.loop-k-init
loop-k-init c = cofactor_none _ _ _ c.requires.0.is.is.reduced

pub divide-v-requires : goal.divide-v-requires
divide-v-requires c =
    let H = c.requires.0 in (
      c.loop-k.invariant.reduced,
      omega (arith, rest_room _ c.loop-k.k _ (part_room H.given)),
      cofactor_below _ _ _ c.args.base.monic.monic H.is.below c.loop-k.invariant (omega arith),
    )

pub size_below-terms-requires : goal.size_below-terms-requires
size_below-terms-requires c =
    let divided = c.divide-v.ensures in
    let fits = c.args.base.monic.fits in
    (omega (arith, fits), omega (arith, fits, divided.remainder.len), zero_above divided.remainder divided.small)

pub returns-then-terms-ne0 : goal.returns-then-terms-ne0
returns-then-terms-ne0 c H =
    let pre = c.requires in
    are_m1_and_w H.given H.chosen H.is pre.1
    (cofactor_stop _ _ _ c.args.base.monic.monic c.loop-k.invariant c.divide-v.ensures c.size_below-terms.ensures (omega arith))

pub loop-k-preserved : goal.loop-k-preserved
loop-k-preserved c =
    cofactor_more _ _ _ c.args.base.monic.monic c.loop-k.invariant c.divide-v.ensures c.size_below-terms.ensures (omega arith)

pub returns : goal.returns
returns c H =
    let pre = c.requires in
    let last : c.loop-k.k ≡ c.args.m - 1 = omega (arith, c.loop-k-test.false) in
    are_m1_and_w H.given H.chosen H.is pre.1
    (cofactor_last _ _ _ c.args.base.monic.monic pre.0.is.below pre.1
    (subst (λ (k : ℕ). Cofactor c.args.base.n c.args.h c.args.base.coefs k c.loop-k.w) last c.loop-k.invariant) (omega arith) (omega arith))
