-- The parts of f, as the specification finds them.
-- Proves that each is split by its factors (`known`). Assumes nothing.
use Prim.Native.Nat.{ℕ, ◌<◌}
use Rattle.specification.specs.Polynomials as spec
use Rattle.specification.specs.Powers.{powers}
use Rattle.specification.specs.Limits.{◌²}
use Rattle.algebra.specs.Fields.{Prime}
use Rattle.lists.specs.Members.{All}
use Rattle.items.specs.MonicLists.{MonicList}
use Rattle.items.specs.Reductions.{digit_lift_lem}
use Rattle.items.proofs.Items1to3Hold.{powers_are, items}
use Rattle.items.specs.PartForm.{part_over_lem, base_monic}
use Rattle.items.proofs.Verdicts.{part_splits}
use Rattle.items.specs.AllParts.{Known}

module _ (p : ℕ) (prime : Prime p) {d : ℕ} {f : spec.Poly} (mf : MonicList (p ²) d f) where
  abbrev large : 1 < p
  large = prime.large

  pub known : All (Known p prime mf) (powers p f)
  known P i =
      let h = (items p prime mf).part_holds P i in
      let o = part_over_lem large ((powers_are p prime mf).irreducible P i) ((powers_are p prime mf).positive P i) h.monic h.bar in
      record { over = o; split = part_splits prime o (digit_lift_lem p large (base_monic large o)) }
