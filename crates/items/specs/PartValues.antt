-- Items 5 to 8 on lists: what the specification's h bar, m1, w and u of a part over G to the m are, for any monic g modulo p² with bar G.
-- Proves the claims' `Values`. Assumes nothing.
use Rattle.std.specs.Prelude.{◌≡◌, refl, false, ◌≢◌, ℕ, suc, ◌<◌, ◌-◌, ◌%◌, ◌+◌, ◌*◌, get_or}
use Rattle.std.proofs.Common.{sym, ◌∙◌, ap, arith}
use Rattle.specification.specs.Polynomials as spec
use Rattle.specification.specs.Parts.{h_bar, m1, w, u}
use Rattle.specification.specs.Items4to9 as items4to9
use Rattle.specification.specs.Limits.{◌²}
use Rattle.algebra.specs.Numbers.{square_large, rest_multiple}
use Rattle.algebra.specs.Ring.{CommRing}
use Rattle.algebra.specs.PolynomialRing.{◌+ᴿ◌, ◌·◌}
use Rattle.algebra.specs.Fields.{Prime, prime_pos}
use Rattle.algebra.specs.CoefficientLists.{ℤ[x]/, poly, poly_mul, poly_pow, poly_scale, same_list, 𝓩[x]/}
use Rattle.algebra.specs.ListShapes.{length_mul, length_scale, low_reduce}
use Rattle.factorisation.specs.ExtensionLaws.{number}
use Rattle.items.specs.MonicLists.{MonicList, monic_same}
use Rattle.items.specs.MonicDivision.{monic_list_pow}
use Rattle.items.specs.Reductions.{LiftOf, bar_poly, extension, lift_is, lift_list_monic}
use Rattle.items.specs.Units.{number_constant, number_divided}
use Rattle.items.specs.PartForm.{
  PartOver,
  base_monic,
  power_monic,
  shape_by,
  below_h,
  length_h,
  low_h,
  nonzero_h,
  highest,
  length_w,
  length_u,
  low_w,
  w_law,
  highest_power,
}

module _ {p : ℕ} (prime : Prime p) {G g : spec.Poly} {m : ℕ} {part : spec.Poly} (over : PartOver p G m part) (lift : LiftOf p G g) where
  abbrev 𝓑 : CommRing (ℤ[x]/ p)
  𝓑 = 𝓩[x]/ p

  abbrev large : 1 < p
  large = prime.large

  abbrev d : ℕ
  d = spec.degree G

  abbrev h : spec.Poly
  h = h_bar p g m part

  abbrev k : ℕ
  k = m1 p G g m part

  -- item 5
  h_holds_lem : spec.lift p (spec.pow (p ²) g m) h ≡ part
  h_holds_lem =
      monic_same refl (lift_list_monic p large (power_monic large over lift m) h (omega (arith, length_h large over lift)) (below_h large over lift))
      over.monic
      (lift_is p large (spec.pow (p ²) g m) h
      ∙ ap (λ a. a +ᴿ (extension p large).π · poly (p ²) h) (poly_pow (p ²) (omega (arith, square_large p large)) g m)
      ∙ shape_by large over lift (poly (p ²) h) (bar_poly p large h))

  -- ---- items 7 to 9

  w_holds_lem : spec.mul p (spec.pow p G k) (w p G g m part) ≡ h
  w_holds_lem =
      same_list
      (record { len = length_mul p (spec.pow p G k) (w p G g m part) power.reduced.len (length_w large over lift) ∙ omega (arith, degrees); low = low })
      (record { len = length_h large over lift; low = low_h large over lift })
      (poly_mul p (prime_pos prime) (spec.pow p G k) (w p G g m part) ∙ 𝓑.*_comm _ _
      ∙ ap (λ a. poly p (w p G g m part) · a) (poly_pow p (prime_pos prime) G k) ∙ w_law large over lift)
    where
      low : (j : ℕ) → get_or (spec.mul p (spec.pow p G k) (w p G g m part)) j 0 < p
      low = unfold spec.mul in low_reduce p (prime_pos prime) _

      power : MonicList p (k * d) (spec.pow p G k)
      power = monic_list_pow large (base_monic large over) k

      degrees : (m - k) * d + k * d ≡ m * d
      degrees = rest_multiple d (highest large over lift).bound

  m1_highest_lem : spec.is_zero h ≡ false → (v : spec.Poly) → spec.mul p (spec.pow p G (suc k)) v ≡ h → ⊥
  m1_highest_lem nonzero v e =
      (highest_power large over lift (nonzero_h large over lift nonzero)).exact (
        poly p v,
        𝓑.*_comm _ _ ∙ ap (λ a. a · poly p v) (sym (poly_pow p (prime_pos prime) G (suc k)))
            ∙ sym (poly_mul p (prime_pos prime) (spec.pow p G (suc k)) v) ∙ ap (poly p) e,
      )

  -- item 8
  u_holds_lem : m % p ≢ 0 → spec.scale p m (u p G g m part) ≡ w p G g m part
  u_holds_lem unit =
      same_list
      (record { len = length_scale p m (u p G g m part) ∙ length_u large over lift; low = low })
      (record { len = refl; low = low_w large over lift })
      (poly_scale p (prime_pos prime) m (u p G g m part) ∙ ap (λ a. a · poly p (u p G g m part)) (sym (number_constant p m))
      ∙ divided)
    where
      low : (j : ℕ) → get_or (spec.scale p m (u p G g m part)) j 0 < p
      low = unfold spec.scale in low_reduce p (prime_pos prime) _

      divided : number 𝓑 m · poly p (u p G g m part) ≡ poly p (w p G g m part)
      divided = unfold u in number_divided p prime m unit (w p G g m part)

  pub values : items4to9.Values p G g m part
  values = record { h_holds = h_holds_lem; w_holds = w_holds_lem; m1_highest = m1_highest_lem; u_holds = u_holds_lem }
