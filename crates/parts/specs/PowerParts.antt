-- One power G^m of an irreducible G modulo p, in an array, and what has it as bar: G^m with G read modulo p², and a part over it.
-- Proves that these are monic, that such a part is given as `part_values` asks for it, and that no other power is found of it.
-- Assumes nothing.
use Rattle.std.specs.Prelude.{◌≡◌, true, List, ℕ, ◌<◌, ◌*◌, ◌/◌, length}
use Rattle.std.proofs.Common.{sym, ◌∙◌, ap, ap₂, subst, mul-pos, mul-div_cancel, arith}
use Rattle.specification.specs.Polynomials as spec
use Rattle.specification.specs.Powers as specification
use Rattle.specification.specs.Limits.{taken, ◌²}
use Rattle.algebra.specs.Divisibility.{pow}
use Rattle.algebra.specs.Degree.{Monic, monic_pow}
use Rattle.algebra.specs.Fields.{Prime, residue_field, residue_nontrivial}
use Rattle.algebra.specs.CoefficientLists.{poly, poly_pow, poly_reduce, 𝓩[x]/}
use Rattle.arrays.specs.Represents.{Represents}
use Rattle.arrays.specs.Listed.{listed, length_listed, degree_listed}
use Rattle.arrays.specs.Held.{MonicArray, inside, held_monic, poly_monic}
use Rattle.factorisation.specs.MonicDivisors.{monic_degree}
use Rattle.factorisation.specs.ExtensionLaws.{bar_pow}
use Rattle.factorisation.proofs.UniqueFactorisation.{same_base}
use Rattle.items.specs.MonicLists.{MonicList, from_claimed}
use Rattle.items.specs.Factorisations.{monic_equal}
use Rattle.items.specs.Irreducibles.{irreducible_poly}
use Rattle.items.specs.Reductions.{barred, bar_poly, extension}
use Rattle.items.specs.ArrayLists.{listed_monic, bar_listed, digits_array}
use Rattle.items.specs.Recognised.{Found}
use Rattle.modp_factors.specs.declared.Power.{Power}
use Rattle.modp_factors.specs.Factors.{power_poly, PowerHeld}
use Rattle.part_values.specs.Given.{Given, given_of}
use Rattle.part_verdict.specs.declared.Part.{Part}
use Rattle.part_verdict.specs.PartFound.{PartFound}

-- the degree of a power
abbrev pub power_degree : Power → ℕ
power_degree x = x.exponent * x.degree

-- its base, as a list
abbrev pub power_base : Power → spec.Poly
power_base x = listed x.degree x.base

-- the power, as the specification has it
abbrev pub as_power : Power → specification.Power
as_power x = record { base = power_base x; exponent = x.exponent }

module _ {p : ℕ} (prime : Prime p) {x : Power} (h : PowerHeld p x) where
  large : 1 < p
  large = prime.large

  degree_positive : 0 < x.degree
  degree_positive = omega (arith, monic_degree (residue_nontrivial large) h.array.monic h.irreducible.monic, h.irreducible.positive)

  pub power_positive : 0 < power_degree x
  power_positive = mul-pos h.positive degree_positive

  pub power_monic : Monic (power_degree x) (power_poly p x)
  power_monic = monic_pow h.array.monic x.exponent

  base_degree : spec.degree (power_base x) ≡ x.degree
  base_degree = degree_listed x.degree x.base (inside (held_monic h.array).shaped)

  pub base_list : MonicList p x.degree (power_base x)
  base_list = listed_monic large h.array

  -- G^m, as a list
  pub power_listed : poly p (spec.pow p (power_base x) x.exponent) ≡ power_poly p x
  power_listed = poly_pow p (omega (arith, large)) (power_base x) x.exponent ∙ ap (λ a. pow (𝓩[x]/ p) a x.exponent) (poly_monic h.array)

  -- ---- in b, G^m with G read modulo p²

  module _ {b : List ℕ} (r : Represents (p ²) b (pow (𝓩[x]/ (p ²)) (poly (p ²) x.base) x.exponent)) where
    pub power_lifted : power_degree x < 33 → MonicArray (p ²) (power_degree x) b
    power_lifted l = record {
      fits = l;
      reduced = r.reduced;
      monic = subst (Monic (power_degree x)) (sym r.is) (monic_pow (digits_array large h.array).monic x.exponent);
    }

    pub power_bar : poly p b ≡ power_poly p x
    power_bar =
        sym (bar_poly p large b) ∙ ap (barred p large) r.is ∙ bar_pow (extension p large) (poly (p ²) x.base) x.exponent
        ∙ ap (λ a. pow (𝓩[x]/ p) a x.exponent) (bar_poly p large x.base)

  -- ---- in a, a part over G^m

  module _ {a : List ℕ} (part : MonicArray (p ²) (power_degree x) a) (bar : poly p a ≡ power_poly p x) where
    pub part_given : taken p ≡ true → Given p x.base x.degree x.exponent a
    part_given t = given_of (record { prime = t; positive = power_positive; array = part }) h.array h.irreducible h.positive bar

    found_base : {r : Part} → (t : PartFound p a (power_degree x) r) → t.found.power.base ≡ power_base x
    found_base t =
        monic_equal large (from_claimed (omega (arith, large)) t.over.irreducible.monic) base_list
        (same_base (residue_field p prime) (irreducible_poly large t.over.irreducible) h.irreducible t.over.positive h.positive
        (sym (poly_pow p (omega (arith, large)) F.power.base F.power.exponent) ∙ ap (poly p) (sym t.over.bar)
        ∙ poly_reduce p (omega (arith, large)) F.part ∙ ap (poly p) t.part_is ∙ bar_listed large part ∙ bar)
        ∙ sym (poly_monic h.array))
      where
        F : Found
        F = t.found

    found_exponent : {r : Part} → (t : PartFound p a (power_degree x) r) → t.found.power.exponent ≡ x.exponent
    found_exponent t =
        sym (mul-div_cancel F.power.exponent degree_positive) ∙ ap (λ (k : ℕ). k / x.degree) degrees ∙ mul-div_cancel x.exponent degree_positive
      where
        F : Found
        F = t.found

        degrees : F.power.exponent * x.degree ≡ power_degree x
        degrees =
            omega (
              arith,
              ap (λ (k : ℕ). F.power.exponent * k) (ap spec.degree (found_base t) ∙ base_degree),
              t.over.monic.reduced.len,
              ap length t.part_is,
              length_listed (power_degree x) a (inside (held_monic part).shaped),
            )

    pub found_power : {r : Part} → (t : PartFound p a (power_degree x) r) → t.found.power ≡ as_power x
    found_power t = ap₂ (λ (b : spec.Poly) (m : ℕ). record { base = b; exponent = m }) (found_base t) (found_exponent t)
