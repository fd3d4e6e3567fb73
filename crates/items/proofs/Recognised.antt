-- Parts that were found, by whatever way, each with the power that is its bar (`Found`). Proves that a list of them is the definition's (`recognised`),
-- if each has as bar a power of an irreducible, the bases are in the order of item 3, and the parts multiply to f.
-- Assumes nothing.
use Rattle.std.specs.Prelude.{◌≡◌, ℕ}
use Rattle.std.proofs.Math.Path.{sym, ap}
use Rattle.std.proofs.Common.{◌∙◌}
use mathlib.Core.List.{List, map, map-map, Pairwise}
use Rattle.specification.specs.Polynomials as spec
use Rattle.specification.specs.Powers.{Power, powers}
use Rattle.specification.specs.Parts.{part_of, parts_of}
use Rattle.specification.specs.Items1to3 as items1to3
use Rattle.specification.specs.Limits.{◌²}
use Rattle.algebra.specs.Fields.{Prime}
use Rattle.lists.specs.Members.{All, map_equal}
use Rattle.items.specs.MonicLists.{MonicList}
use Rattle.items.specs.PowersSame.{DifferentBases}
use Rattle.items.specs.PowersOnly.{in_order_different}
use Rattle.items.specs.PartsFound.{powers_found}
use Rattle.items.specs.Recognised.{Found, FoundOver, split_found}
use Rattle.items.proofs.PartsFound.{parts_found}
use Rattle.items.proofs.Items1to3Hold.{items}

module _ (p : ℕ) (prime : Prime p) {d : ℕ} {f : spec.Poly} (mf : MonicList (p ²) d f) (Fs : List Found) (over : All (FoundOver p) Fs)
    (in_order : items1to3.InOrder (map (λ F. F.power) Fs)) (multiplies : spec.product (p ²) (map (λ F. F.part) Fs) ≡ f) where
  abbrev found : List Power
  found = map (λ F. F.power) Fs

  different : Pairwise DifferentBases found
  different = in_order_different found in_order

  -- items 1 and 3
  powers_are_found : found ≡ powers p f
  powers_are_found =
      let h = powers_found p prime mf (λ F. F.power) (λ F. F.part) Fs over different multiplies in
      (items p prime mf).powers_only found
      (record { irreducible = h.irreducible; positive = h.positive; in_order = in_order; multiplies = h.multiplies })

  -- items 1 to 9
  pub recognised : map (split_found p) Fs ≡ parts_of p f
  unfolding parts_of
  recognised =
      map_equal (split_found p) (λ F. part_of p f F.power) Fs
      (λ F i. ap (λ q. split_found p (record { power = F.power; part = q }))
      (parts_found p prime mf (λ F. F.power) (λ F. F.part) Fs over different multiplies F i))
      ∙ sym (map-map (part_of p f) (λ F. F.power) Fs) ∙ ap (map (part_of p f)) powers_are_found
