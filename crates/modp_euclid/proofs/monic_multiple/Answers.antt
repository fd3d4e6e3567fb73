-- `modp_euclid::monic_multiple` meets its contract.
-- Assumes nothing.
use Rattle.std.proofs.Common.{refl, arith, rules}
use Rattle.arrays.specs.Sizes.{below_size}
use Rattle.modp_euclid.specs.MonicMultiples.{monic_by_inverse, monic_multiple}
use Rattle.modp_euclid.proofs.monic_multiple.Goals as goal

pub multiple-array-requires : goal.multiple-array-requires
multiple-array-requires c = let h = c.requires in (search rules, h.2.limit, h.1, below_size _ h.2)

pub invariant_of-multiple : goal.invariant_of-multiple
invariant_of-multiple c =
    let h = c.requires in
    let inverse = c.inverse-unit.ensures in
    let m = monic_multiple (monic_by_inverse h.0 h.2 inverse.1) inverse.0 c.multiple-array.ensures in
    record { monic = record { fits = omega (arith, h.2.limit); reduced = m.multiple.reduced; monic = m.monic } }

pub returns : goal.returns
returns c =
    let h = c.requires in
    let inverse = c.inverse-unit.ensures in
    (monic_multiple (monic_by_inverse h.0 h.2 inverse.1) inverse.0 c.multiple-array.ensures, refl, refl)
