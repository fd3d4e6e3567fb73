-- Item 7: what dividing h bar by G gives is the specification's m1 and w.
-- Proves that the exponent is m1, that the cofactor is the polynomial w, and its degree. Assumes nothing.
use mathlib.Core.Path.{◌≡◌, sym, ◌∙◌, ap, subst}
use mathlib.Core.List.{List}
use mathlib.Core.Logic.{◌≢◌, ⊎_elim}
use Prim.Native.Nat.{ℕ, suc, ◌-◌, ◌*◌}
use native.Mathlib.Nat.{le_antisymm}
use native.Mathlib.Omega.{arith}
use Rattle.specification.specs.Polynomials as spec
use Rattle.specification.specs.Parts as parts
use Rattle.algebra.specs.Numbers.{lt_or_le}
use Rattle.algebra.specs.TakenPrimes.{is_prime_lem}
use Rattle.algebra.specs.Divisibility.{◌∣◌, pow}
use Rattle.algebra.specs.PolynomialRing.{◌·◌, 𝟎}
use Rattle.algebra.specs.Degree.{Below, Monic, monic_cancel, monic_pow}
use Rattle.algebra.specs.CoefficientLists.{poly, 𝓩[x]/}
use Rattle.arrays.specs.Listed.{listed}
use Rattle.arrays.specs.Held.{poly_held}
use Rattle.factorisation.specs.Multiplicity.{Multiplicity, power_divides, power_bound}
use Rattle.factorisation.specs.MonicDivisors.{monic_cancel_eq}
use Rattle.items.specs.MonicLists.{monic_poly}
use Rattle.items.specs.PartForm.{HighestPower, is_zero_h_false, w_law, highest_power}
use Rattle.items.specs.PartValues.{values}
use Rattle.part_values.specs.Given.{Given, Chosen, large, base_degree, base_list}
use Rattle.part_values.specs.ArrayValues.{IsHBar, AreM1AndW}
use Rattle.part_values.proofs.Cofactors.{HighestIn}

module _ {p : ℕ} {base g : List ℕ} {d m : ℕ} {part : List ℕ} (given : Given p base d m part) (chosen : Chosen p base d g) where
  -- the lists of the arrays: of G, of g and of the part
  abbrev G : List ℕ
  G = listed d base

  abbrev γ : List ℕ
  γ = listed d g

  abbrev Q : List ℕ
  Q = listed (m * d) part

  monic : Monic d (poly p G)
  monic = monic_poly (base_list given)

  module _ {h : List ℕ} (H : IsHBar p g d m part h) (nonzero : poly p h ≢ 𝟎) {k : ℕ} {w : List ℕ} (top : HighestIn p h base k w) where
    highest : HighestPower (large given) given.over chosen.lift
    highest = highest_power (large given) given.over chosen.lift (λ e. nonzero (H.is.is ∙ e))

    abbrev M : Multiplicity (𝓩[x]/ p) (poly p G) (poly p (parts.h_bar p γ m Q))
    M = record {
      k = k;
      w = poly p w;
      law = ap (λ a. poly p w · pow (𝓩[x]/ p) a k) (poly_held given.base_held) ∙ top.cofactor.law ∙ H.is.is;
      stop = subst (λ a. ¬ ◌∣◌ (𝓩[x]/ p) a (poly p w)) (sym (poly_held given.base_held)) top.stop;
    }

    same : k ≡ parts.m1 p G γ m Q
    same =
        le_antisymm
        (⊎_elim (λ l. absurd (highest.exact (power_divides M l))) (λ l. l) (lt_or_le (parts.m1 p G γ m Q) k))
        (power_bound (monic_cancel monic) M (poly p (parts.w p G γ m Q), w_law (large given) given.over chosen.lift))

    cofactor : poly p w ≡ poly p (parts.w p G γ m Q)
    cofactor =
        monic_cancel_eq (monic_pow monic k)
        (M.law ∙ sym (w_law (large given) given.over chosen.lift)
        ∙ ap (λ (j : ℕ). poly p (parts.w p G γ m Q) · pow (𝓩[x]/ p) (poly p G) j) (sym same))

    below : Below ((m - k) * d) (poly p w)
    below = rw (cofactor, same) (subst (λ (e : ℕ). Below ((m - parts.m1 p G γ m Q) * e) (poly p (parts.w p G γ m Q))) (base_degree given) highest.below)

    pub are_m1_and_w : AreM1AndW p base g d m part k w
    are_m1_and_w =
        let said = values (is_prime_lem given.prime) given.over chosen.lift in
        record {
          m1_is = same;
          is = record { reduced = top.cofactor.reduced; is = cofactor };
          holds = subst (λ (j : ℕ). spec.mul p (spec.pow p G j) (parts.w p G γ m Q) ≡ parts.h_bar p γ m Q) (sym same) said.w_holds;
          highest = subst (λ (j : ℕ). (a : spec.Poly) → spec.mul p (spec.pow p G (suc j)) a ≡ parts.h_bar p γ m Q → ⊥) (sym same)
              (said.m1_highest (is_zero_h_false (large given) given.over chosen.lift (λ e. nonzero (H.is.is ∙ e))));
          less = omega (arith, same, highest.less);
          below = below;
        }
