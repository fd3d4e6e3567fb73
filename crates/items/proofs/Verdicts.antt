-- Items 4 to 9: the specification's splitting of a part over G to the m, for any monic g modulo p² with bar G.
-- Proves that the factors of each verdict split the part; the cases stand in the document's order. Assumes nothing.
use Rattle.std.specs.Prelude.{◌≡◌, not, ◌&&◌, [], ◌∷◌, ◌⊎◌, ◌≢◌, T, ℕ, suc, ◌≤◌, ◌<◌, ◌-◌, ◌%◌, ◌+◌, ◌*◌}
use Rattle.std.proofs.Common.{sym, ◌∙◌, ap, ap₂, subst, inl, inr, mul-pos, one-mul, pos_of_ne-zero, arith}
use Rattle.std.proofs.Math.Path.{◌≡⟨◌⟩◌, ◌∎}
use Rattle.std.proofs.Math.Dec.{eqb, eqb→eq, eqb_refl, T_not, not_T}
use Rattle.std.proofs.Math.Decide.{ℕ_discrete}
use Rattle.specification.specs.Polynomials as spec
use Rattle.specification.specs.Inverses.{inverse}
use Rattle.specification.specs.Parts.{Splitting, factor, h_bar, m1, w, u, splitting}
use Rattle.specification.specs.Limits.{◌²}
use Rattle.algebra.specs.Numbers.{square_large}
use Rattle.algebra.specs.Ring.{CommRing, mul_zero, add_zero}
use Rattle.algebra.specs.Identities.{◌⊕◌, ◌⊗◌, ◌≈◌, solve}
use Rattle.algebra.specs.Divisibility.{pow, pow_zero, pow_one, pow_add, one_divides, divides_zero}
use Rattle.algebra.specs.Residues.{residue}
use Rattle.algebra.specs.PolynomialRing.{◌+ᴿ◌, ◌·◌, 𝟎, constant}
use Rattle.algebra.specs.Degree.{Below, below_constant_mul}
use Rattle.algebra.specs.Homomorphisms.{keeps_zero}
use Rattle.algebra.specs.Fields.{Prime, prime_pos}
use Rattle.algebra.specs.CoefficientLists.{ℤ[x]/, poly, poly_pow, poly_scale, 𝓩[x]/}
use Rattle.lists.specs.Tests.{picked, both, left, right}
use Rattle.algebra.specs.ListDivision.{poly_is_zero}
use Rattle.factorisation.specs.ExtensionLaws.{number, bars, bar_mul_pow, binomial}
use Rattle.items.specs.MonicLists.{to_claimed}
use Rattle.items.specs.Reductions.{LiftOf, barred, bar_poly, lift_over, extension, lift_is, lift_list_monic}
use Rattle.items.specs.Units.{number_multiple, number_divided}
use Rattle.items.specs.PartForm.{PartOver, PowerDivides, HighestPower, power_monic, shape_by, is_zero_h, length_w, length_u, w_law, highest_power}
use Rattle.items.specs.SplitPart.{SplitPart, one_factor_lem, two_factors_lem}

eqb_equal : {a b : ℕ} → a ≡ b → T (eqb a b)
eqb_equal {a} e = subst (λ (c : ℕ). T (eqb a c)) e (eqb_refl a)

module _ {p : ℕ} (prime : Prime p) {G g : spec.Poly} {m : ℕ} {part : spec.Poly} (over : PartOver p G m part) (lift : LiftOf p G g) where
  abbrev 𝓐 : CommRing (ℤ[x]/ (p ²))
  𝓐 = 𝓩[x]/ (p ²)

  abbrev 𝓑 : CommRing (ℤ[x]/ p)
  𝓑 = 𝓩[x]/ p

  abbrev large : 1 < p
  large = prime.large

  -- g as a polynomial
  abbrev γ : ℤ[x]/ (p ²)
  γ = poly (p ²) g

  -- m1
  abbrev k : ℕ
  k = m1 p G g m part

  -- G^0 divides h bar
  any_power : PowerDivides large over lift 0
  any_power = rw (pow_zero 𝓑 (poly p G)) (one_divides 𝓑 (poly p (h_bar p g m part)))

  -- items 4 and 7: "The factor is the part itself"
  part_itself : (m ≤ 1) ⊎ ¬ PowerDivides large over lift 1 → SplitPart p large G m part (factor part 1 ∷ [])
  part_itself longest =
      one_factor_lem prime over lift part 1 (to_claimed (mul-pos over.positive over.irreducible.monic.positive) over.monic) (omega arith)
      over.positive any_power longest (pow_one 𝓐 (poly (p ²) part))

  -- item 6: "The factor is g, m times"
  g_repeated : poly p (h_bar p g m part) ≡ 𝟎 → SplitPart p large G m part (factor g m ∷ [])
  g_repeated e =
      one_factor_lem prime over lift g m (to_claimed over.irreducible.monic.positive lift.monic) over.positive
      (omega arith) (rw e (divides_zero 𝓑 (pow 𝓑 (poly p G) (m - 1)))) (inl (omega arith))
      (sym (ap (λ a. pow 𝓐 γ m +ᴿ a) (mul_zero 𝓐 (extension p large).π) ∙ add_zero 𝓐 (pow 𝓐 γ m))
      ∙ shape_by large over lift 𝟎 (keeps_zero (extension p large).hom ∙ sym e))

  module _ (H : HighestPower large over lift) where
    below_top : PowerDivides large over lift k
    below_top = (poly p (w p G g m part), w_law large over lift)

    -- item 8: "the factor is g + p·u, m times"
    lift_repeated : m % p ≢ 0 → suc k ≡ m → SplitPart p large G m part (factor (spec.lift p g (u p G g m part)) m ∷ [])
    lift_repeated unit last =
        one_factor_lem prime over lift (spec.lift p g v) m
        (to_claimed over.irreducible.monic.positive
        (lift_list_monic p large lift.monic v (omega (arith, length_u large over lift, length_w large over lift, rest)) below_v))
        over.positive (omega arith) (subst (PowerDivides large over lift) (omega arith) below_top) (inl (omega arith))
        (ap₂ (pow 𝓐) (lift_is p large g v) (sym last) ∙ binomial (extension p large) k γ (poly (p ²) v)
        ∙ ap (λ (j : ℕ). pow 𝓐 γ j +ᴿ (extension p large).π · (number 𝓐 j · (pow 𝓐 γ k · poly (p ²) v))) last
        ∙ shape_by large over lift (number 𝓐 m · (pow 𝓐 γ k · poly (p ²) v)) same_bar)
      where
        v : spec.Poly
        v = u p G g m part

        rest : (m - k) * spec.degree G ≡ spec.degree G
        rest = ap (λ (j : ℕ). j * spec.degree G) (let s : m - k ≡ 1 = omega arith in s) ∙ one-mul (spec.degree G)

        poly_v : poly p v ≡ constant (residue p (inverse p m)) · poly p (w p G g m part)
        poly_v = unfold u in poly_scale p (prime_pos prime) (inverse p m) (w p G g m part)

        below_v : Below (spec.degree G) (poly p v)
        below_v =
            rw poly_v (below_constant_mul (residue p (inverse p m)) (subst (λ (j : ℕ). Below j (poly p (w p G g m part))) rest H.below))

        divided : number 𝓑 m · poly p v ≡ poly p (w p G g m part)
        divided = unfold u in number_divided p prime m unit (w p G g m part)

        same_bar : barred p large (number 𝓐 m · (pow 𝓐 γ k · poly (p ²) v)) ≡ poly p (h_bar p g m part)
        same_bar =
            barred p large (number 𝓐 m · (pow 𝓐 γ k · poly (p ²) v)) ≡⟨ (simp (bars, extension p large, lift_over p large lift, bar_poly p large)) ⟩
            number 𝓑 m · (pow 𝓑 (poly p G) k · poly p v) ≡⟨ solve 𝓑 3 (λ n x v. n ⊗ (x ⊗ v) ≈ n ⊗ v ⊗ x) tt (number 𝓑 m) (pow 𝓑 (poly p G) k) (poly p v) ⟩
            number 𝓑 m · poly p v · pow 𝓑 (poly p G) k ≡⟨ ap (λ a. a · pow 𝓑 (poly p G) k) divided ⟩
            poly p (w p G g m part) · pow 𝓑 (poly p G) k ≡⟨ w_law large over lift ⟩
            poly p (h_bar p g m part) ∎

    -- item 9: "The factors are g, m1 times, then g^(m − m1) + p·w once"
    g_and_last : 1 ≤ k → (suc k ≡ m → m % p ≡ 0)
        → SplitPart p large G m part (factor g k ∷ factor (spec.lift p (spec.pow (p ²) g (m - k)) (w p G g m part)) 1 ∷ [])
    g_and_last positive null =
        two_factors_lem prime over lift g (spec.lift p q v) k
        (to_claimed over.irreducible.monic.positive lift.monic)
        (to_claimed (mul-pos (let l : 0 < m - k = omega (arith, H.less) in l) over.irreducible.monic.positive)
        (lift_list_monic p large (power_monic large over lift (m - k)) v (omega (arith, length_w large over lift)) H.below))
        positive (omega (arith, lift.monic.reduced.len)) H.less below_top
        H.exact (λ e. number_multiple p (prime_pos prime) m (null e))
        (ap (λ a. pow 𝓐 γ k · a)
        (lift_is p large q v ∙ ap (λ a. a +ᴿ (extension p large).π · poly (p ²) v) (poly_pow (p ²) (omega (arith, square_large p large)) g (m - k)))
        ∙ solve 𝓐 4 (λ x y π v. x ⊗ (y ⊕ π ⊗ v) ≈ x ⊗ y ⊕ π ⊗ (v ⊗ x)) tt (pow 𝓐 γ k) (pow 𝓐 γ (m - k)) (extension p large).π (poly (p ²) v)
        ∙ ap (λ a. a +ᴿ (extension p large).π · (poly (p ²) v · pow 𝓐 γ k))
        (sym (pow_add 𝓐 γ k (m - k)) ∙ ap (pow 𝓐 γ) (let s : k + (m - k) ≡ m = omega (arith, H.less) in s))
        ∙ shape_by large over lift (poly (p ²) v · pow 𝓐 γ k) same_bar)
      where
        q : spec.Poly
        q = spec.pow (p ²) g (m - k)

        v : spec.Poly
        v = w p G g m part

        same_bar : barred p large (poly (p ²) v · pow 𝓐 γ k) ≡ poly p (h_bar p g m part)
        same_bar =
            bar_mul_pow (extension p large) (poly (p ²) v) γ k
            ∙ ap₂ (λ a b. a · pow 𝓑 b k) (bar_poly p large v) (lift_over p large lift) ∙ w_law large over lift

  -- the tests in order
  pub part_splits : SplitPart p prime.large G m part (splitting p G g m part).factors
  unfolding splitting
  part_splits =
      -- item 4
      picked Splits (eqb m 1) (λ t. part_itself (inl (omega (arith, eqb→eq m 1 t))))
      -- item 6
      (λ not4. picked Splits (spec.is_zero (h_bar p g m part)) (λ t. g_repeated (poly_is_zero p (h_bar p g m part) t))
      (λ not6. let H : HighestPower large over lift = highest_power large over lift (λ e. T_not (spec.is_zero (h_bar p g m part)) not6 (is_zero_lem e)) in
      -- item 7
      picked Splits (eqb k 0) (λ t. part_itself (inr (solid H (eqb→eq k 0 t))))
      -- item 8
      (λ not7. picked Splits (not (eqb (m % p) 0) && eqb k (m - 1))
      (λ t. let (unit, last) = read t in lift_repeated H unit (omega (arith, last, H.less)))
      -- item 9
      (λ not8. g_and_last H (pos_of_ne-zero (λ e. T_not (eqb k 0) not7 (eqb_equal e))) (λ e. multiple not8 (omega arith))))))
    where
      Splits : Splitting → Type 0
      Splits S = SplitPart p large G m part S.factors

      is_zero_lem : poly p (h_bar p g m part) ≡ 𝟎 → T (spec.is_zero (h_bar p g m part))
      is_zero_lem e = subst T (sym (is_zero_h large over lift e)) tt

      read : T (not (eqb (m % p) 0) && eqb k (m - 1)) → (m % p ≢ 0) × (k ≡ m - 1)
      read t = (
        λ e. T_not (eqb (m % p) 0) (left (not (eqb (m % p) 0)) (eqb k (m - 1)) t) (eqb_equal e),
        eqb→eq k (m - 1) (right (not (eqb (m % p) 0)) (eqb k (m - 1)) t),
      )

      multiple : T (not (not (eqb (m % p) 0) && eqb k (m - 1))) → k ≡ m - 1 → m % p ≡ 0
      multiple not8 e = go (ℕ_discrete (m % p) 0)
        where
          go : Dec (m % p ≡ 0) → m % p ≡ 0
          go (yes z) = z
          go (no n) =
              absurd (T_not (not (eqb (m % p) 0) && eqb k (m - 1)) not8
              (both (not (eqb (m % p) 0)) (eqb k (m - 1)) (not_T (eqb (m % p) 0) (λ t. n (eqb→eq (m % p) 0 t))) (eqb_equal e)))

      solid : HighestPower large over lift → k ≡ 0 → ¬ PowerDivides large over lift 1
      solid H e = subst (λ (j : ℕ). ¬ PowerDivides large over lift (suc j)) e H.exact
