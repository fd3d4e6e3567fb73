-- Item 2, "in one way": f as a product of primary pairwise coprime polynomials modulo p², in any order.
-- Proves that every such list is that of the primary parts over the powers of item 1, in some order (`parts_same`). Assumes nothing.
use Rattle.std.specs.Prelude.{◌≡◌}
use Rattle.std.proofs.Common.{sym, ◌∙◌, ap, subst}
use mathlib.Core.List.Perm
use mathlib.Core.List.{List, map, map-map, Pairwise, Perm}
use Prim.Native.Nat.{ℕ}
use Rattle.specification.specs.Polynomials as spec
use Rattle.specification.specs.Powers.{Power, primary}
use Rattle.specification.specs.Items1to3 as items1to3
use Rattle.specification.specs.Limits.{◌²}
use Rattle.algebra.specs.Fields.{Prime}
use Rattle.lists.specs.Members.{All, map_equal}
use Rattle.items.specs.MonicLists.{MonicList}
use Rattle.items.specs.PowersSame.{DifferentBases, powers_same_lem}
use Rattle.items.specs.PartForm.{PartOver, part_over_lem}
use Rattle.items.specs.PartsFound.{powers_found}
use Rattle.items.proofs.PartsFound.{parts_found}
use Rattle.items.specs.PartsSame.{parts_hold}
use Rattle.items.proofs.PartsSame.{WithPower, part, power, with_powers, bases_differ}

module _ (p : ℕ) where
  module _ (prime : Prime p) {d : ℕ} {f : spec.Poly} (mf : MonicList (p ²) d f) {Ps : List Power}
      (items : items1to3.PowersInAnyOrder p (spec.reduce p f) Ps) where
    -- any other such list
    module _ (L : List spec.Poly) (h : items1to3.PrimaryFactors p f L) where
      abbrev xs : List (WithPower p)
      xs = (with_powers p L h.primary).0

      parts_xs : map (part p) xs ≡ L
      parts_xs = (with_powers p L h.primary).1

      over : All (λ x. PartOver p (power p x).base (power p x).exponent (part p x)) xs
      over x i = part_over_lem prime.large x.1.irreducible x.1.positive x.1.monic x.1.bar

      different : Pairwise DifferentBases (map (power p) xs)
      different = bases_differ p xs (subst (Pairwise (items1to3.Coprime p)) (sym parts_xs) h.coprime)

      multiplies : spec.product (p ²) (map (part p) xs) ≡ f
      multiplies = ap (spec.product (p ²)) parts_xs ∙ h.multiplies

      listed : map (primary p f) (map (power p) xs) ≡ L
      listed =
          map-map (primary p f) (power p) xs
          ∙ sym (map_equal (part p) (λ x. primary p f (power p x)) xs (parts_found p prime mf (power p) (part p) xs over different multiplies)) ∙ parts_xs

      parts_only : Perm L (map (primary p f) Ps)
      parts_only =
          subst (λ M. Perm M (map (primary p f) Ps)) listed
          (Perm.map (primary p f) (powers_same_lem p prime (powers_found p prime mf (power p) (part p) xs over different multiplies) items))

    pub parts_same : items1to3.InOneWay (items1to3.PrimaryFactors p f) (map (primary p f) Ps)
    parts_same = record { holds = parts_hold p prime mf items; only = parts_only }
