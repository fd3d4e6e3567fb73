-- The powers in the bar of f: `PowersFound p f d r`, r holds them, in the order of item 3.
-- Proves that they are those of the definition, in its order. Assumes nothing.
use Rattle.std.specs.Prelude.{◌≡◌, List, [], ◌∷◌, map, ℕ, ◌≤◌, ◌<◌, length}
use Rattle.std.proofs.Common.{sym, ◌∙◌, ap, arith}
use Rattle.std.proofs.lemmas.Simd.{map-map}
use Rattle.specification.specs.Polynomials as spec
use Rattle.specification.specs.Powers as powers
use Rattle.specification.specs.Items1to3 as items1to3
use Rattle.specification.specs.Limits.{◌²}
use Rattle.lists.specs.Members.{all_map, map_equal}
use Rattle.lists.specs.InOrder.{InOrder}
use Rattle.algebra.specs.Divisibility.{product}
use Rattle.algebra.specs.Fields.{Prime}
use Rattle.algebra.specs.TakenPrimes.{is_prime_lem}
use Rattle.algebra.specs.CoefficientLists.{poly, poly_product, poly_reduce, 𝓩[x]/}
use Rattle.arrays.specs.Listed.{listed}
use Rattle.items.specs.MonicLists.{MonicList}
use Rattle.items.specs.MonicDivision.{monic_list_pow, monic_list_product}
use Rattle.items.specs.Factorisations.{monic_equal}
use Rattle.items.specs.Reductions.{monic_reduce}
use Rattle.items.specs.ArrayLists.{square_list, bar_listed}
use Rattle.items.proofs.Items1to3Hold.{items}
use Rattle.modp_factors.specs.declared.Power.{Power}
use Rattle.modp_factors.specs.Factors.{Powers, held_powers, power_poly, PowerBefore}
use Rattle.part_values.specs.Given.{listed_irreducible}
use Rattle.parts.specs.PowerParts.{power_base, as_power, base_list, power_listed}
use Rattle.parts.specs.PowersLeft.{Left}

-- all of f is left, and its bar is the product of the powers in r
pub record PowersFound (p : ℕ) (f : List ℕ) (d : ℕ) (r : Powers) : Type 0 where
  pub few : length (held_powers r) ≤ 32
  pub left : Left p f d (held_powers r)

in_order : (L : List Power) → InOrder PowerBefore L → items1to3.InOrder (map as_power L)
in_order [] o = tt
in_order (x ∷ L) (h, o) = (all_map (λ P. items1to3.Before (power_base x) P.base) as_power L h, in_order L o)

module _ {p : ℕ} {f : List ℕ} {d : ℕ} {L : List Power} (w : Left p f d L) where
  pub prime : Prime p
  prime = is_prime_lem w.monic.prime

  large : 1 < p
  large = prime.large

  pub whole : MonicList (p ²) d (listed d f)
  whole = square_list w.monic

  abbrev power_list : Power → spec.Poly
  power_list x = items1to3.power_of p (as_power x)

  multiplied : spec.product p (map (items1to3.power_of p) (map as_power L)) ≡ spec.reduce p (listed d f)
  multiplied =
      ap (spec.product p) (map-map (items1to3.power_of p) as_power L)
      ∙ monic_equal large (monic_list_product large (map power_list L)
      (all_map (λ q. (e : ℕ) × MonicList p e q) power_list L (λ x i. (_, monic_list_pow large (base_list prime (w.held x i)) x.exponent)))).1
      (monic_reduce large whole)
      (poly_product p (omega (arith, large)) (map power_list L)
      ∙ ap (product (𝓩[x]/ p)) (map-map (poly p) power_list L ∙ map_equal (λ x. poly p (power_list x)) (power_poly p) L (λ x i. power_listed prime (w.held x i)))
      ∙ w.multiplies ∙ sym (poly_reduce p (omega (arith, large)) (listed d f) ∙ bar_listed large w.monic.array))

  pub left_powers : map as_power L ≡ powers.powers p (listed d f)
  left_powers = (items p prime whole).powers_only (map as_power L) (record {
    irreducible = all_map _ as_power L (λ x i. listed_irreducible large (w.held x i).array (w.held x i).irreducible);
    positive = all_map _ as_power L (λ x i. (w.held x i).positive);
    in_order = in_order L w.in_order;
    multiplies = multiplied;
  })
