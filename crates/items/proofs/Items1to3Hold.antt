-- Items 1 to 3 of document 01, over every monic f and every prime.
-- Proves that they hold of the definitions, and of nothing else (`items`). Assumes nothing.
use Rattle.std.proofs.Common.{sym, ◌∙◌, ap, arith}
use Rattle.std.specs.Prelude.{ℕ}
use Rattle.specification.specs.Polynomials as spec
use Rattle.specification.specs.Powers.{Power, powers, primary}
use Rattle.specification.specs.Items1to3 as items1to3
use Rattle.specification.specs.Limits.{◌²}
use Rattle.algebra.specs.Numbers.{square_large}
use Rattle.algebra.specs.Fields.{Prime}
use Rattle.algebra.specs.CoefficientLists.{poly, poly_mul, 𝓩[x]/}
use Rattle.lists.specs.Members.{◌∈◌}
use Rattle.items.specs.Reductions.{monic_reduce}
use Rattle.items.specs.MonicLists.{MonicList, to_claimed}
use Rattle.items.specs.MonicDivision.{exact_multiplies}
use Rattle.items.specs.PowersHold.{powers_hold_lem}
use Rattle.items.specs.PowersSame.{powers_same_lem}
use Rattle.items.specs.PowersOnly.{any_order, powers_only_lem}
use Rattle.items.specs.PrimaryHolds.{IsPart, primary_is, part_only_lem, parts_multiply_lem, positive}
use Rattle.items.specs.PartForm.{part_over_lem}
use Rattle.items.specs.PartsSame.{parts_coprime_lem}
use Rattle.items.proofs.PartsInOneWay.{parts_same}

module _ (p : ℕ) (prime : Prime p) {d : ℕ} {f : spec.Poly} (mf : MonicList (p ²) d f) where
  pub powers_are : items1to3.PowersOf p (spec.reduce p f) (powers p f)
  powers_are = powers_hold_lem p prime.large f (monic_reduce prime.large mf)

  powers_any : items1to3.PowersInAnyOrder p (spec.reduce p f) (powers p f)
  powers_any = any_order powers_are

  pub items : items1to3.Items p f
  items = record {
    powers_hold = powers_are;
    powers_only = λ Ps h. powers_only_lem p prime Ps (powers p f) h powers_are;
    powers_same = record { holds = powers_any; only = λ Ps h. powers_same_lem p prime h powers_any };
    part_holds = λ P i.
        let h = primary_is p prime mf powers_any P i in
        record {
          monic = to_claimed (positive p prime mf powers_any P i) h.monic;
          bar = h.bar;
          cofactor = spec.quotient (p ²) (primary p f P) f;
          multiplies = exact_multiplies (square_large p prime.large) h.monic mf h.divides;
        };
    part_only = λ P i q h. part_only_lem p prime mf powers_any P i q (is_part P i q h);
    parts_multiply = parts_multiply_lem p prime mf powers_any;
    parts_coprime = parts_coprime_lem p prime mf powers_any;
    parts_same = parts_same p prime mf powers_any;
  }
    where
      is_part : (P : Power) (i : P ∈ powers p f) (q : spec.Poly) → items1to3.PrimaryPart p f P q → IsPart p prime mf powers_any P i q
      is_part P i q h = record {
        monic = (part_over_lem prime.large (powers_any.irreducible P i) (powers_any.positive P i) h.monic h.bar).monic;
        bar = h.bar;
        divides = (
          poly (p ²) h.cofactor,
          (𝓩[x]/ (p ²)).*_comm _ _
              ∙ sym (poly_mul (p ²) (omega (arith, square_large p prime.large)) q h.cofactor) ∙ ap (poly (p ²)) h.multiplies,
        );
      }
