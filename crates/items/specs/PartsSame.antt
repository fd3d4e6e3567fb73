-- Item 2, "in one way": f as a product of primary pairwise coprime polynomials modulo p², in any order.
-- Proves that the primary parts over the powers of item 1 are such a list; every such list is this one in some order: proofs/PartsInOneWay.
-- Assumes nothing.
use Rattle.std.specs.Prelude.{◌≡◌, refl}
use Rattle.std.proofs.Common.{sym, ◌∙◌, ap, arith}
use mathlib.Core.HLevel.{⊥_prop}
use mathlib.Core.List.{List, map}
use Prim.Native.Nat.{ℕ, zero, suc, ◌≤◌}
use Rattle.specification.specs.Polynomials as spec
use Rattle.specification.specs.Powers.{Power, primary}
use Rattle.specification.specs.Items1to3 as items1to3
use Rattle.specification.specs.Limits.{◌²}
use Rattle.algebra.specs.Ring.{CommRing}
use Rattle.algebra.specs.Divisibility.{◌∣◌, Coprime, pow, coprime_sym, coprime_pow, coprime_common}
use Rattle.algebra.specs.Degree.{monic_one_lem}
use Rattle.algebra.specs.Fields.{Prime, prime_pos, residue_field, residue_nontrivial}
use Rattle.algebra.specs.CoefficientLists.{ℤ[x]/, poly, poly_mul, poly_pow, 𝓩[x]/}
use Rattle.lists.specs.Members.{◌∈◌, all_map}
use Rattle.lists.specs.InOrder.{in_order_by, in_order_map, to_in_order, from_in_order}
use Rattle.factorisation.proofs.Irreducible.{different_coprime}
use Rattle.factorisation.specs.MonicDivisors.{divisor_degree}
use Rattle.items.specs.MonicLists.{MonicList, monic_poly, from_claimed, to_claimed}
use Rattle.items.specs.Irreducibles.{irreducible_poly}
use Rattle.items.specs.PowersSame.{DifferentBases, same_base}
use Rattle.items.specs.PrimaryHolds.{primary_is, positive, parts_multiply_lem}

module _ (p : ℕ) where
  -- G divides G to the m
  pub first_factor : (G : spec.Poly) (m : ℕ) → 1 ≤ m → (x : spec.Poly) × (spec.mul p G x ≡ spec.pow p G m)
  unfolding spec.pow
  first_factor G zero l = absurd (omega arith)
  first_factor G (suc m) l = (spec.pow p G m, refl)

  coprime_prop : (a b : spec.Poly) → IsProp (items1to3.Coprime p a b)
  coprime_prop a b s t = λ i c x y m e g. ⊥_prop (s c x y m e g) (t c x y m e g) i

  -- ---- the parts of f

  module _ (prime : Prime p) {d : ℕ} {f : spec.Poly} (mf : MonicList (p ²) d f) {Ps : List Power}
      (items : items1to3.PowersInAnyOrder p (spec.reduce p f) Ps) where
    abbrev 𝓑 : CommRing (ℤ[x]/ p)
    𝓑 = 𝓩[x]/ p

    -- bases that differ have coprime powers, and what divides coprime polynomials divides 1
    pub parts_coprime_lem : (P Q : Power) → P ∈ Ps → Q ∈ Ps → DifferentBases P Q → items1to3.Coprime p (primary p f P) (primary p f Q)
    parts_coprime_lem P Q i j differ c x y monic e g =
        omega (
          arith,
          monic.positive,
          divisor_degree (residue_nontrivial prime.large) (monic_poly (from_claimed (prime_pos prime) monic)) monic_one_lem
              (coprime_common 𝓑 powers_coprime (divides P i x e) (divides Q j y g)),
        )
      where
        powers_coprime : Coprime 𝓑 (pow 𝓑 (poly p P.base) P.exponent) (pow 𝓑 (poly p Q.base) Q.exponent)
        powers_coprime =
            coprime_pow 𝓑 Q.exponent (coprime_sym 𝓑 (coprime_pow 𝓑 P.exponent (coprime_sym 𝓑
            (different_coprime (residue_field p prime) (irreducible_poly prime.large (items.irreducible P i))
            (irreducible_poly prime.large (items.irreducible Q j))
            (λ e. differ (same_base p prime (items.irreducible P i).monic (items.irreducible Q j).monic e))))))

        divides : (P : Power) → P ∈ Ps → (x : spec.Poly) → spec.mul p c x ≡ spec.reduce p (primary p f P)
            → ◌∣◌ 𝓑 (poly p c) (pow 𝓑 (poly p P.base) P.exponent)
        divides P i x e = (
          poly p x,
          𝓑.*_comm (poly p x) (poly p c) ∙ sym (poly_mul p (prime_pos prime) c x)
              ∙ ap (poly p) (e ∙ (primary_is p prime mf items P i).bar) ∙ poly_pow p (prime_pos prime) P.base P.exponent,
        )

    pub parts_hold : items1to3.PrimaryFactors p f (map (primary p f) Ps)
    parts_hold = record {
      primary = all_map (items1to3.Primary p) (primary p f) Ps (λ P i.
          let h = primary_is p prime mf items P i in
          record {
            monic = to_claimed (positive p prime mf items P i) h.monic;
            power = P;
            irreducible = items.irreducible P i;
            positive = items.positive P i;
            bar = h.bar;
          });
      coprime = from_in_order (items1to3.Coprime p) coprime_prop (map (primary p f) Ps)
          (in_order_map (λ P Q. items1to3.Coprime p (primary p f P) (primary p f Q)) (items1to3.Coprime p) (primary p f) Ps (λ P Q c. c)
          (in_order_by DifferentBases (λ P Q. items1to3.Coprime p (primary p f P) (primary p f Q)) Ps parts_coprime_lem
          (to_in_order DifferentBases Ps items.different)));
      multiplies = parts_multiply_lem p prime mf items;
    }
