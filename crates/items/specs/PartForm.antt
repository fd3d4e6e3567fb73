-- Items 5 to 8 of a part over G to the m, for any monic g modulo p² with bar G: the h of part = g^m + p·h, the power m1 and the w of
-- h bar = G^m1 · w, as polynomials. Proves both equations, when h bar is zero, the degrees of h and w, the length of u, and that m1 is the highest power,
-- below m where h bar is not zero. Assumes nothing.
use Rattle.std.specs.Prelude.{◌≡◌, true, false, map, ◌≢◌, ℕ, suc, ◌≤◌, ◌<◌, ◌-◌, ◌/◌, ◌+◌, ◌*◌, length, get_or}
use Rattle.std.proofs.Common.{sym, ◌∙◌, subst, ⊎_elim, eq-or-lt_of_le, arith}
use Rattle.std.proofs.Math.Path.{ap, ◌≡⟨◌⟩◌, ◌∎}
use Rattle.std.proofs.Math.ListN.{length-map}
use Rattle.specification.specs.Polynomials as spec
use Rattle.specification.specs.Powers.{Power}
use Rattle.specification.specs.Parts.{h_bar, m1, w, u}
use Rattle.specification.specs.Inverses.{inverse}
use Rattle.specification.specs.Longest as claimed
use Rattle.specification.specs.Items1to3 as items1to3
use Rattle.specification.specs.Limits.{◌²}
use Rattle.lists.specs.Tests.{passes, fails, contrary}
use Rattle.algebra.specs.Numbers.{square_large, rest_multiple}
use Rattle.algebra.specs.Ring.{CommRing, linear1, zero_mul}
use Rattle.algebra.specs.Identities.{con, ◌⊕◌, ◌⊖◌, ◌⊗◌, ◌≈◌, solve}
use Rattle.algebra.specs.Divisibility.{◌∣◌, pow}
use Rattle.algebra.specs.PolynomialRing.{◌+ᴿ◌, ◌·◌, -ᴿ◌, 𝟎, 𝟏}
use Rattle.algebra.specs.Degree.{Below, below_factor, small_multiple, monic_pow}
use Rattle.algebra.specs.Homomorphisms.{below_map}
use Rattle.algebra.specs.CoefficientLists.{ℤ[x]/, poly, poly_sub, poly_pow, 𝓩[x]/}
use Rattle.algebra.specs.ListShapes.{length_sub, length_scale, length_reduce, low_reduce}
use Rattle.algebra.specs.ListDivision.{divides_exact, length_quotient, low_quotient, poly_is_zero, is_zero_poly}
use Rattle.factorisation.specs.MonicDivisors.{monic_difference}
use Rattle.factorisation.specs.ExtensionLaws.{bar_pow, π_equal}
use Rattle.factorisation.specs.Kernel.{kernel_sub}
use Rattle.factorisation.specs.PolynomialExtension.{below_part}
use Rattle.items.specs.MonicLists.{MonicList, monic_poly, from_claimed}
use Rattle.items.specs.MonicDivision.{Divides, Highest, highest_is, monic_list_pow}
use Rattle.items.specs.Reductions.{LiftOf, coefficients, barred, bar_reduce, lift_over, extension}
use Rattle.items.specs.ListExtension.{part_list}

-- items 1 and 2: a monic part modulo p² whose bar is the m-th power of an irreducible G
pub record PartOver (p : ℕ) (G : spec.Poly) (m : ℕ) (part : spec.Poly) : Type 0 where
  pub irreducible : claimed.Irreducible p G
  pub positive : 1 ≤ m
  pub monic : MonicList (p ²) (m * spec.degree G) part
  pub bar : spec.reduce p part ≡ spec.pow p G m

pub at_least_two : {p : ℕ} {G : spec.Poly} {m : ℕ} {part : spec.Poly} → PartOver p G m part → m ≢ 1 → 2 ≤ m
at_least_two over repeated = ⊎_elim (λ e. absurd (repeated (sym e))) (λ l. l) (eq-or-lt_of_le over.positive)

-- a monic polynomial with such a bar is one
pub part_over_lem : {p : ℕ} → 1 < p → {P : Power} {q : spec.Poly} → claimed.Irreducible p P.base → 1 ≤ P.exponent
    → claimed.Monic (p ²) q → spec.reduce p q ≡ items1to3.power_of p P → PartOver p P.base P.exponent q
part_over_lem {p} large {P} {q} irreducible positive monic bar = record {
  irreducible = irreducible;
  positive = positive;
  monic = subst (λ (d : ℕ). MonicList (p ²) d q) degree (from_claimed (omega (arith, square_large p large)) monic);
  bar = bar;
}
  where
    degree : spec.degree q ≡ P.exponent * spec.degree P.base
    degree =
        omega (
          arith,
          length_reduce p q,
          ap length bar,
          (monic_list_pow large (from_claimed (omega arith) irreducible.monic) P.exponent).reduced.len,
        )

module _ {p : ℕ} (large : 1 < p) {G : spec.Poly} {m : ℕ} {part : spec.Poly} (over : PartOver p G m part) where
  abbrev 𝓐 : CommRing (ℤ[x]/ (p ²))
  𝓐 = 𝓩[x]/ (p ²)

  abbrev 𝓑 : CommRing (ℤ[x]/ p)
  𝓑 = 𝓩[x]/ p

  pub base_monic : MonicList p (spec.degree G) G
  base_monic = from_claimed (omega arith) over.irreducible.monic

  module _ {g : spec.Poly} (lift : LiftOf p G g) where
    -- ---- item 5

    -- part − g^m
    abbrev difference : spec.Poly
    difference = spec.sub (p ²) part (spec.pow (p ²) g m)

    -- "let part − g^m = p·h"
    abbrev pub h : ℤ[x]/ (p ²)
    h = poly (p ²) (map (λ (a : ℕ). a / p) difference)

    pub power_monic : (k : ℕ) → MonicList (p ²) (k * spec.degree G) (spec.pow (p ²) g k)
    power_monic = monic_list_pow (square_large p large) lift.monic

    poly_difference : poly (p ²) difference ≡ poly (p ²) part +ᴿ -ᴿ poly (p ²) (spec.pow (p ²) g m)
    poly_difference = poly_sub (p ²) (omega (arith, square_large p large)) part (spec.pow (p ²) g m)

    poly_power : poly (p ²) (spec.pow (p ²) g m) ≡ pow 𝓐 (poly (p ²) g) m
    poly_power = poly_pow (p ²) (omega (arith, square_large p large)) g m

    part_difference : (extension p large).part (poly (p ²) difference) ≡ h
    part_difference = part_list p large difference (unfold spec.sub spec.add in low_reduce (p ²) (omega (arith, square_large p large)) _)

    same_bar : barred p large (poly (p ²) part) ≡ barred p large (poly (p ²) (spec.pow (p ²) g m))
    same_bar =
        barred p large (poly (p ²) part) ≡⟨ bar_reduce p large part ⟩
        poly p (spec.reduce p part) ≡⟨ ap (poly p) over.bar ⟩
        poly p (spec.pow p G m) ≡⟨ poly_pow p (omega arith) G m ⟩
        pow 𝓑 (poly p G) m ≡⟨ ap (λ a. pow 𝓑 a m) (sym (lift_over p large lift)) ⟩
        pow 𝓑 (barred p large (poly (p ²) g)) m ≡⟨ sym (bar_pow (extension p large) (poly (p ²) g) m) ⟩
        barred p large (pow 𝓐 (poly (p ²) g) m) ≡⟨ ap (barred p large) (sym poly_power) ⟩
        barred p large (poly (p ²) (spec.pow (p ²) g m)) ∎

    pub shape : poly (p ²) part ≡ pow 𝓐 (poly (p ²) g) m +ᴿ (extension p large).π · h
    shape =
        linear1 𝓐 𝟏
        (sym poly_difference
        ∙ (extension p large).kernel (poly (p ²) difference) (ap (barred p large) poly_difference ∙ kernel_sub (extension p large) same_bar)
        ∙ ap (λ a. (extension p large).π · a) part_difference)
        (solve 𝓐 4 (λ P x π h. P ⊖ (x ⊕ π ⊗ h) ≈ con 1 ⊗ (P ⊖ x ⊖ π ⊗ h)) tt
        (poly (p ²) part) (poly (p ²) (spec.pow (p ²) g m)) (extension p large).π h)
        ∙ ap (λ a. a +ᴿ (extension p large).π · h) poly_power

    pub bar_h : barred p large h ≡ poly p (h_bar p g m part)
    unfolding h_bar
    bar_h = bar_reduce p large _

    -- p·h depends on h bar alone
    pub shape_by : (a : ℤ[x]/ (p ²)) → barred p large a ≡ poly p (h_bar p g m part)
        → pow 𝓐 (poly (p ²) g) m +ᴿ (extension p large).π · a ≡ poly (p ²) part
    shape_by a e = ap (λ b. pow 𝓐 (poly (p ²) g) m +ᴿ b) (π_equal (extension p large) (e ∙ sym bar_h)) ∙ sym shape

    -- both leading coefficients are 1
    below_difference : Below (m * spec.degree G) (poly (p ²) difference)
    below_difference = rw poly_difference (monic_difference (monic_poly over.monic) (monic_poly (power_monic m)))

    pub below_h : Below (m * spec.degree G) (poly p (h_bar p g m part))
    below_h =
        subst (Below (m * spec.degree G)) bar_h
        (below_map (coefficients p large).hom
        (subst (Below (m * spec.degree G)) part_difference (below_part (coefficients p large) below_difference)))

    -- its top coefficient, 0, is written
    pub length_h : length (h_bar p g m part) ≡ suc (m * spec.degree G)
    unfolding h_bar
    length_h =
        length_reduce p _ ∙ length-map difference (λ (a : ℕ). a / p)
        ∙ length_sub (p ²) part (spec.pow (p ²) g m) (omega (arith, (power_monic m).reduced.len, over.monic.reduced.len))
        ∙ over.monic.reduced.len

    pub low_h : (j : ℕ) → get_or (h_bar p g m part) j 0 < p
    unfolding h_bar
    low_h = low_reduce p (omega arith) _

    -- ---- item 6: "h bar is zero", as a test

    pub is_zero_h : poly p (h_bar p g m part) ≡ 𝟎 → spec.is_zero (h_bar p g m part) ≡ true
    is_zero_h e = passes _ (is_zero_poly p (omega arith) (h_bar p g m part) low_h e)

    pub nonzero_h : spec.is_zero (h_bar p g m part) ≡ false → poly p (h_bar p g m part) ≢ 𝟎
    nonzero_h f e = contrary f (is_zero_h e)

    pub is_zero_h_false : poly p (h_bar p g m part) ≢ 𝟎 → spec.is_zero (h_bar p g m part) ≡ false
    is_zero_h_false nonzero = fails _ (λ t. nonzero (poly_is_zero p (h_bar p g m part) t))

    -- ---- item 7: "m1 is the highest power of G that divides h bar", "h bar = G^m1 · w"

    -- G^k divides h bar
    abbrev pub PowerDivides : ℕ → Type 0
    PowerDivides k = ◌∣◌ 𝓑 (pow 𝓑 (poly p G) k) (poly p (h_bar p g m part))

    abbrev d : ℕ
    d = spec.degree G

    abbrev k : ℕ
    k = m1 p G g m part

    pub highest : Highest large G (h_bar p g m part) m (m1 p G g m part)
    highest = unfold m1 in highest_is large base_monic (h_bar p g m part) m

    power : MonicList p (k * d) (spec.pow p G k)
    power = monic_list_pow large base_monic k

    degrees : (m - k) * d + k * d ≡ m * d
    degrees = rest_multiple d highest.bound

    pub length_w : length (w p G g m part) ≡ suc ((m - m1 p G g m part) * spec.degree G)
    unfolding w
    length_w =
        length_quotient p (omega arith) (k * d) (spec.pow p G k) power.reduced.len (monic_poly power) (h_bar p g m part)
        ∙ omega (arith, length_h, degrees)

    pub low_w : (j : ℕ) → get_or (w p G g m part) j 0 < p
    unfolding w
    low_w = low_quotient p (omega arith) (k * d) (spec.pow p G k) power.reduced.len (monic_poly power) (h_bar p g m part) low_h

    pub w_law : poly p (w p G g m part) · pow 𝓑 (poly p G) (m1 p G g m part) ≡ poly p (h_bar p g m part)
    unfolding w
    w_law =
        ap (λ a. poly p (w p G g m part) · a) (sym (poly_pow p (omega arith) G k))
        ∙ divides_exact p (omega arith) (k * d) (spec.pow p G k) power.reduced.len (monic_poly power) (h_bar p g m part) highest.divides

    -- where h bar is not zero
    pub record HighestPower : Type 0 where
      pub less : m1 p G g m part < m
      pub exact : ¬ PowerDivides (suc (m1 p G g m part))
      pub below : Below ((m - m1 p G g m part) * spec.degree G) (poly p (w p G g m part))

    pub highest_power : poly p (h_bar p g m part) ≢ 𝟎 → HighestPower
    highest_power nonzero = record {
      less = less;
      exact = λ v. highest.top (suc k) (omega arith) less (rw (poly_pow p (omega arith) G (suc k)) v);
      below = below_factor (monic_pow (monic_poly base_monic) k) ((m - k) * d) (poly p (w p G g m part)) (rw (w_law, degrees) below_h);
    }
      where
        -- a multiple of G^m that is of lower degree is zero
        not_all : k ≢ m
        not_all e =
            let (q, s) = subst (λ (j : ℕ). Divides p (spec.pow p G j) (h_bar p g m part)) e highest.divides in
            nonzero (sym s
            ∙ ap (λ a. a · poly p (spec.pow p G m))
            (small_multiple (monic_poly (monic_list_pow large base_monic m)) q (rw s below_h))
            ∙ zero_mul 𝓑 (poly p (spec.pow p G m)))

        less : k < m
        less = ⊎_elim (λ e. absurd (not_all e)) (λ l. l) (eq-or-lt_of_le highest.bound)

    -- ---- item 8: "u = w/m modulo p"

    pub length_u : length (u p G g m part) ≡ length (w p G g m part)
    unfolding u
    length_u = length_scale p (inverse p m) (w p G g m part)
