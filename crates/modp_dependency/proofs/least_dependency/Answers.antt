-- `modp_dependency::least_dependency` meets its contract.
-- Assumes nothing.
use Rattle.std.proofs.Common.{refl, ◌-◌, arith, ⊎_elim, length-take-le}
use Rattle.algebra.specs.Degree.{below_up}
use Rattle.arrays.specs.SameEntries.{zero_above}
use Rattle.modp_dependency.specs.Dependency.{searching_none, image_reducible, image_reduced, free_slot, searching_found, found_monic, searching_more}
use Rattle.modp_dependency.specs.Storing.{first_free, first_stored}
use Rattle.modp_dependency.proofs.least_dependency.Goals as goal

pub loop-i-init : goal.loop-i-init
loop-i-init c = searching_none c.requires.0 c.requires.1

pub size_below-size-requires : goal.size_below-size-requires
size_below-size-requires c =
    let h = c.requires in
    let reduced = h.4.reduced c.loop-i.i c.loop-i-test.true in
    (h.3, omega (arith, reduced.len), zero_above reduced (h.4.small c.loop-i.i c.loop-i-test.true))

pub reduce-requires : goal.reduce-requires
reduce-requires c =
    let h = c.requires in
    image_reducible h.0 h.4 h.2 c.loop-i-test.true c.loop-i.invariant c.monomial-preimage.ensures c.size_below-size.ensures

pub invariant_of-found : goal.invariant_of-found
invariant_of-found c =
    let h = c.requires in
    let left = image_reduced h.0 h.4 h.2 c.loop-i-test.true c.loop-i.invariant c.monomial-preimage.ensures c.size_below-size.ensures c.reduce.ensures in
    record { monic = found_monic h.0 c.loop-i-test.true c.loop-i.invariant left (omega arith) (omega (arith, h.2, c.loop-i-test.true)) }

pub returns-then-held-eq0 : goal.returns-then-held-eq0
returns-then-held-eq0 c =
    let h = c.requires in
    let left = image_reduced h.0 h.4 h.2 c.loop-i-test.true c.loop-i.invariant c.monomial-preimage.ensures c.size_below-size.ensures c.reduce.ensures in
    (searching_found h.0 c.loop-i-test.true c.loop-i.invariant left (omega arith), refl)

pub store-requires : goal.store-requires
store-requires c =
    let h = c.requires in
    let left = image_reduced h.0 h.4 h.2 c.loop-i-test.true c.loop-i.invariant c.monomial-preimage.ensures c.size_below-size.ensures c.reduce.ensures in
    let slot =
    free_slot h.0 (c.reduce.new.self.size - 1) c.loop-i.invariant (omega (arith, left.size.limit))
    (⊎_elim (λ e. absurd (omega (arith, e))) (λ free. free) c.reduce.ensures.stops) in (
      h.0,
      omega arith,
      omega (arith, left.reach, length-take-le c.args.d c.loop-i.rows (omega (arith, h.3, c.loop-i.invariant.slots))),
      omega (arith, h.2),
      first_free c.loop-i.rows (omega (arith, left.reach)) slot,
      left.image,
      left.preimage,
      below_up (omega arith) left.reducing.monic.below,
    )

pub loop-i-preserved : goal.loop-i-preserved
loop-i-preserved c =
    let h = c.requires in
    let left = image_reduced h.0 h.4 h.2 c.loop-i-test.true c.loop-i.invariant c.monomial-preimage.ensures c.size_below-size.ensures c.reduce.ensures in
    searching_more h.0 c.loop-i-test.true c.loop-i.invariant left (omega arith)
    (⊎_elim (λ e. absurd (omega (arith, e))) (λ free. free) c.reduce.ensures.stops)
    (first_stored c.loop-i.rows c.store.new.rows (omega (arith, h.3, c.loop-i.invariant.slots)) (omega (arith, left.reach)) c.store.ensures)
