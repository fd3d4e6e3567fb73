-- Item 1, "in one way": lists of powers of different irreducibles, in any order, as factorisations over ℤ/p.
-- Proves that two such lists with one product are the same up to order. Assumes nothing.
use Rattle.std.specs.Prelude.{◌≡◌, ◌≢◌, ℕ, ◌≤◌, ◌<◌}
use Rattle.std.proofs.Math.Path.{sym, ap₂}
use Rattle.std.proofs.Common.{◌∙◌, ap}
use mathlib.Core.List.Memᴰ
use mathlib.Core.List.Pairwise
use mathlib.Core.List.{List, [], ◌∷◌, map, Nodup, Perm, perm_ext_iff_of_Nodup}
use Rattle.std.proofs.Math.Logic.{∥∥₁_map}
use Rattle.specification.specs.Polynomials as spec
use Rattle.specification.specs.Powers.{Power}
use Rattle.specification.specs.Longest as claimed
use Rattle.specification.specs.Items1to3 as items1to3
use Rattle.algebra.specs.Divisibility.{product_nil, product_cons}
use Rattle.algebra.specs.PolynomialRing.{◌·◌}
use Rattle.algebra.specs.Fields.{Prime, prime_pos, residue_field}
use Rattle.algebra.specs.CoefficientLists.{ℤ[x]/, poly, poly_mul, poly_pow, poly_one, 𝓩[x]/}
use Rattle.lists.specs.Members.{◌∈◌, All, all_map}
use Rattle.lists.specs.InOrder.{to_in_order, in_order_by, in_order_map}
use Rattle.factorisation.specs.Irreducible.{Irreducible}
use Rattle.factorisation.specs.UniqueFactorisation.{powers, PowersOf}
use Rattle.factorisation.proofs.UniqueFactorisation.{same_members}
use Rattle.items.specs.MonicLists.{from_claimed}
use Rattle.items.specs.Factorisations.{monic_equal}
use Rattle.items.specs.Irreducibles.{irreducible_poly}

abbrev pub DifferentBases : Power → Power → Type 0
DifferentBases P Q = P.base ≢ Q.base

module _ (p : ℕ) (prime : Prime p) where
  large : 1 < p
  large = prime.large

  -- a power as base and exponent over ℤ/p
  abbrev pub pair : Power → ℤ[x]/ p × ℕ
  pair P = (poly p P.base, P.exponent)

  pub same_base : {G H : spec.Poly} → claimed.Monic p G → claimed.Monic p H → poly p G ≡ poly p H → G ≡ H
  same_base m n e = monic_equal large (from_claimed (prime_pos prime) m) (from_claimed (prime_pos prime) n) e

  poly_powers : (Ps : List Power) → poly p (spec.product p (map (items1to3.power_of p) Ps)) ≡ powers (map pair Ps)
  unfolding spec.product
  poly_powers [] = poly_one p ∙ sym (product_nil (𝓩[x]/ p))
  poly_powers (P ∷ Ps) =
      poly_mul p (prime_pos prime) (items1to3.power_of p P) (spec.product p (map (items1to3.power_of p) Ps))
      ∙ ap₂ ◌·◌ (poly_pow p (prime_pos prime) P.base P.exponent) (poly_powers Ps)
      ∙ sym (product_cons (𝓩[x]/ p) _ _)

  pub as_powers_of : {f : spec.Poly} {Ps : List Power} → items1to3.PowersInAnyOrder p f Ps → PowersOf (poly p f) (map pair Ps)
  as_powers_of {f} {Ps} h = record {
    irreducible = all_map (λ Q. Irreducible Q.0) pair Ps (λ P i. irreducible_poly large (h.irreducible P i));
    positive = all_map (λ Q. 1 ≤ Q.1) pair Ps h.positive;
    different = in_order_map (λ P Q. poly p P.base ≢ poly p Q.base) (λ P Q. P.0 ≢ Q.0) pair Ps (λ P Q n. n)
        (in_order_by DifferentBases (λ P Q. poly p P.base ≢ poly p Q.base) Ps
        (λ P Q i j n e. n (same_base (h.irreducible P i).monic (h.irreducible Q j).monic e))
        (to_in_order DifferentBases Ps h.different));
    multiplies = sym (poly_powers Ps) ∙ ap (poly p) h.multiplies;
  }

  pub same_powers : {f : spec.Poly} {Ps Qs : List Power} → items1to3.PowersInAnyOrder p f Ps → items1to3.PowersInAnyOrder p f Qs → All (λ P. P ∈ Qs) Ps
  same_powers {Qs = Qs} h k P i =
      let (Q, j, e) = Memᴰ.of_map pair Qs (same_members (residue_field p prime) (as_powers_of h) (as_powers_of k) (pair P) (Memᴰ.map pair i)) in
      let b : P.base ≡ Q.base = same_base (h.irreducible P i).monic (k.irreducible Q j).monic (sym (ap (λ t. t.0) e)) in
      let c : P.exponent ≡ Q.exponent = sym (ap (λ t. t.1) e) in
      Memᴰ.cast (λ t. record { base = b t; exponent = c t }) j

  no_power_twice : {f : spec.Poly} {Ps : List Power} → items1to3.PowersInAnyOrder p f Ps → Nodup Ps
  no_power_twice h = Pairwise.imp (λ P Q n e. n (ap (λ (R : Power). R.base) e)) h.different

  pub powers_same_lem : {f : spec.Poly} {Ps Qs : List Power} → items1to3.PowersInAnyOrder p f Ps → items1to3.PowersInAnyOrder p f Qs → Perm Ps Qs
  powers_same_lem h k =
      (perm_ext_iff_of_Nodup (no_power_twice h) (no_power_twice k)).1
      (λ P. ((λ m. ∥∥₁_map m (same_powers h k P)), (λ m. ∥∥₁_map m (same_powers k h P))))
