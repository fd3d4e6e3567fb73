-- Parts that were found, by whatever way: their bars are powers of different irreducibles, and they multiply to f.
-- Proves that the powers are those of item 1, in some order. Each part is the primary one of item 2: proofs/PartsFound. Assumes nothing.
use Rattle.std.specs.Prelude.{◌≡◌, ℕ, ◌≤◌}
use Rattle.std.proofs.Common.{sym, ◌∙◌, ap, arith}
use Rattle.std.proofs.Math.Path.{◌≡⟨◌⟩◌, ◌∎}
use mathlib.Core.List.{List, map, map-map, Pairwise}
use Rattle.specification.specs.Polynomials as spec
use Rattle.specification.specs.Powers.{Power}
use Rattle.specification.specs.Longest as claimed
use Rattle.specification.specs.Items1to3 as items1to3
use Rattle.specification.specs.Limits.{◌²}
use Rattle.algebra.specs.Numbers.{square_large}
use Rattle.algebra.specs.Divisibility.{product}
use Rattle.algebra.specs.Homomorphisms.{map_homomorphism, keeps_product}
use Rattle.algebra.specs.Fields.{Prime, prime_pos}
use Rattle.algebra.specs.CoefficientLists.{ℤ[x]/, poly, poly_product, 𝓩[x]/}
use Rattle.lists.specs.Members.{All, all_map, map_equal}
use Rattle.items.specs.MonicLists.{MonicList, from_claimed}
use Rattle.items.specs.MonicDivision.{monic_list_pow, monic_list_product}
use Rattle.items.specs.Factorisations.{monic_equal}
use Rattle.items.specs.Reductions.{coefficients, barred, bar_reduce, monic_reduce}
use Rattle.items.specs.PowersSame.{DifferentBases}
use Rattle.items.specs.PartForm.{PartOver}

module _ (p : ℕ) (prime : Prime p) {d : ℕ} {f : spec.Poly} (mf : MonicList (p ²) d f) {A : Type 0} (power : A → Power) (part : A → spec.Poly)
    (xs : List A) (over : All (λ x. PartOver p (power x).base (power x).exponent (part x)) xs)
    (different : Pairwise DifferentBases (map power xs)) (multiplies : spec.product (p ²) (map part xs) ≡ f) where
  abbrev n : ℕ
  n = p ²

  pub multiplied : product (𝓩[x]/ n) (map (poly n) (map part xs)) ≡ poly n f
  multiplied = sym (poly_product n (omega (arith, square_large p prime.large)) (map part xs)) ∙ ap (poly n) multiplies

  irreducible : All (λ P. claimed.Irreducible p P.base) (map power xs)
  irreducible = all_map (λ P. claimed.Irreducible p P.base) power xs (λ x i. (over x i).irreducible)

  abbrev powers : List spec.Poly
  powers = map (items1to3.power_of p) (map power xs)

  product_monic : (e : ℕ) × MonicList p e (spec.product p powers)
  product_monic =
      monic_list_product prime.large powers
      (all_map (λ q. (e : ℕ) × MonicList p e q) (items1to3.power_of p) (map power xs)
      (λ P i. (_, monic_list_pow prime.large (from_claimed (prime_pos prime) (irreducible P i).monic) P.exponent)))

  -- the bar of the product is the product of the powers
  bar_product : poly p (spec.product p powers) ≡ poly p (spec.reduce p f)
  bar_product =
      poly p (spec.product p powers) ≡⟨ poly_product p (prime_pos prime) powers ⟩
      product (𝓩[x]/ p) (map (poly p) powers) ≡⟨ ap (product (𝓩[x]/ p)) bars ⟩
      product (𝓩[x]/ p) (map bar (map (poly n) (map part xs))) ≡⟨ sym (keeps_product (map_homomorphism (coefficients p prime.large).hom) _) ⟩
      bar (product (𝓩[x]/ n) (map (poly n) (map part xs))) ≡⟨ ap bar multiplied ⟩
      bar (poly n f) ≡⟨ bar_reduce p prime.large f ⟩
      poly p (spec.reduce p f) ∎
    where
      bar : ℤ[x]/ n → ℤ[x]/ p
      bar = barred p prime.large

      one : All (λ x. poly p (items1to3.power_of p (power x)) ≡ bar (poly n (part x))) xs
      one x i = ap (poly p) (sym (over x i).bar) ∙ sym (bar_reduce p prime.large (part x))

      bars : map (poly p) powers ≡ map bar (map (poly n) (map part xs))
      bars = simp map-map (map_equal (λ x. poly p (items1to3.power_of p (power x))) (λ x. bar (poly n (part x))) xs one)

  -- item 1
  pub powers_found : items1to3.PowersInAnyOrder p (spec.reduce p f) (map power xs)
  powers_found = record {
    irreducible = irreducible;
    positive = all_map (λ P. 1 ≤ P.exponent) power xs (λ x i. (over x i).positive);
    different = different;
    multiplies = monic_equal prime.large product_monic.1 (monic_reduce prime.large mf) bar_product;
  }
