-- `modp_dependency::Held::reduce` meets its contract.
-- Assumes nothing.
use Rattle.std.proofs.Common.{◌<◌, arith}
use Rattle.modp_dependency.specs.Reduction.{row_reduced, row_monic, preimage_reduced, preimage_below, row_taken_off}
use Rattle.modp_dependency.proofs.Held.reduce.Goals as goal

pub take_off-requires : goal.take_off-requires
take_off-requires c =
    let h = c.requires in
    let left = c.loop-self.invariant h in
    let pos : 0 < c.loop-self.self.size = omega arith in (
      pos,
      h.low,
      left.image,
      left.preimage,
      row_reduced h pos left,
      row_monic h pos left (λ e. omega (arith, e)),
      preimage_reduced h pos left,
      preimage_below h pos left,
    )

pub loop-self-preserved : goal.loop-self-preserved
loop-self-preserved c h = let pos : 0 < c.loop-self.self.size = omega arith in row_taken_off h pos (c.loop-self.invariant h) c.take_off.ensures
