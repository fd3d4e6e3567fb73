-- Rows that images are reduced by, when what is left of one becomes a row. Proves that they are as `Stage` says with one image more, over any field.
-- Assumes nothing.
use Rattle.std.specs.Prelude.{◌≡◌, ◌≢◌, ℕ, suc, ◌<◌, ◌≤◌}
use Rattle.std.proofs.Common.{sym, ◌∙◌, ap, subst, inr, ⊎_elim, le_refl, eq-or-lt_of_le, arith}
use Rattle.std.proofs.Math.Decide.{ℕ_discrete}
use Rattle.algebra.specs.Ring.{CommRing, ring, mul_zero, add_neg, linear1}
use Rattle.algebra.specs.Identities.{con, ◌⊕◌, ◌⊖◌, ◌⊗◌, ⊝◌, ◌≈◌, solve}
use Rattle.algebra.specs.PolynomialRing.{
  Poly,
  PolyRing,
  ◌+ᴿ◌,
  ◌·◌,
  -ᴿ◌,
  𝟎,
  constant,
  coef_zero,
  coef_constant_mul,
  constant_one,
  constant_neg,
  constant_unit,
}
use Rattle.algebra.specs.Monomials.{x^, coef_power_low}
use Rattle.algebra.specs.Degree.{Below, below_up, below_down, below_constant_mul, monic_pow_x}
use Rattle.algebra.specs.Division.{below_top}
use Rattle.algebra.specs.Fields.{Field}
use Rattle.frobenius.specs.LinearMaps.{apply, apply_multiple, apply_sub_multiple, apply_monomial}
use Rattle.frobenius.specs.Span.{less, coef_less, Span, Slot, Clear, span_𝟎, span_add, span_multiple, span_row, span_insert}
use Rattle.frobenius.specs.RowReduction.{Between, Stage, Reducing}
use Rattle.frobenius.proofs.Span.{span_clear}

-- m images, n slots
module _ {R : Type 0} {𝓡 : CommRing R} (t : ℕ → Poly 𝓡) (m n o : ℕ) where
  -- the image of x^i is reduced to u by the slots from κ on, and w goes to u
  module _ {r s : ℕ → Poly 𝓡} {i κ : ℕ} {u w : Poly 𝓡} (S : Stage t m n o r s i) (D : Reducing t m n o r i κ u w) where
    reduced : Span r n (t i +ᴿ -ᴿ u)
    reduced = D.back u (rw (add_neg (PolyRing 𝓡) u) (span_𝟎 r κ))

    module _ (field : Field 𝓡) (first : o ≤ i) (last : i < m) where
      -- the image of v, less that of its top term
      rest_spans : (v : Poly 𝓡) → Between o (suc i) v → Span r n (less (apply t m v) (v.coef i) (t i))
      rest_spans v h = rw image at (S.spans (less v (v.coef i) (x^ i)) between)
        where
          image : apply t m (less v (v.coef i) (x^ i)) ≡ less (apply t m v) (v.coef i) (t i)
          image = apply_sub_multiple t m v (v.coef i) (x^ i) ∙ ap (less (apply t m v) (v.coef i)) (apply_monomial t m last)

          between : Between o i (less v (v.coef i) (x^ i))
          between = record {
            below = below_top (monic_pow_x i) v h.below;
            base = λ j l. coef_less v (v.coef i) (x^ i) j ∙ rw (h.base j l, coef_power_low 𝓡 i j (omega arith)) (simp ring);
          }

      -- if a v of degree i goes to 𝟎, the rows span what the reduction leaves
      rows_span : (v : Poly 𝓡) → Between o (suc i) v → apply t m v ≡ 𝟎 → (d : R) → 𝓡.mul (v.coef i) d ≡ 𝓡.𝟙 → Span r n u
      rows_span v h e d unit =
          rw whole at (span_add r n _ _ (span_multiple r n (𝓡.neg d) _ (rw e at (rest_spans v h))) (span_multiple r n (𝓡.neg 𝓡.𝟙) _ reduced))
        where
          whole : constant (𝓡.neg d) · less 𝟎 (v.coef i) (t i) +ᴿ constant (𝓡.neg 𝓡.𝟙) · (t i +ᴿ -ᴿ u) ≡ u
          whole =
              rw (constant_neg d, constant_neg 𝓡.𝟙, constant_one 𝓡)
              (linear1 (PolyRing 𝓡) (t i) (constant_unit 𝓡 unit)
              (solve (PolyRing 𝓡) 4 (λ d v t u. ⊝ d ⊗ (con 0 ⊖ v ⊗ t) ⊕ ⊝ con 1 ⊗ (t ⊖ u) ⊖ u ≈ t ⊗ (v ⊗ d ⊖ con 1)) tt
              (constant d) (constant (v.coef i)) (t i) u))

      injective_more : ¬ Span r n u → (v : Poly 𝓡) → Between o (suc i) v → apply t m v ≡ 𝟎 → v ≡ 𝟎
      injective_more ne v h e = go (field.decide (v.coef i) 𝓡.𝟘)
        where
          go : Dec (v.coef i ≡ 𝓡.𝟘) → v ≡ 𝟎
          go (yes z) = S.injective v (record { below = below_down h.below z; base = h.base }) e
          go (no z) = let (d, unit) = field.inverse (v.coef i) z in absurd (ne (rows_span v h e d unit))

      -- u, of degree k, is made monic and put into slot k, which is free, and w with it
      module _ {r' s' : ℕ → Poly 𝓡} (k : ℕ) (fits : k < n) (level : κ ≤ suc k) (free : r k ≡ 𝟎) (c : R)
          (unit : 𝓡.mul c (u.coef k) ≡ 𝓡.𝟙) (small : Below (suc k) u)
          (row : r' k ≡ constant c · u) (pre : s' k ≡ constant c · w)
          (rows : (j : ℕ) → j ≢ k → r' j ≡ r j) (pres : (j : ℕ) → j ≢ k → s' j ≡ s j) where
        nonzero : u.coef k ≢ 𝓡.𝟘
        nonzero e = field.one_ne_zero (sym unit ∙ ap (𝓡.mul c) e ∙ mul_zero 𝓡 c)

        -- no row has the degree of u
        clear : (j : ℕ) → k ≤ j → j < n → Clear r u j
        clear j l g m =
            ⊎_elim (λ e. absurd (field.one_ne_zero (sym m.leading ∙ ap (λ a. a.coef j) (ap r (sym e) ∙ free) ∙ coef_zero 𝓡 j)))
            (λ h. D.clear j (omega arith) g m) (eq-or-lt_of_le l)

        not_spanned : ¬ Span r n u
        not_spanned h = nonzero ((span_clear r S.slots k n u (omega arith) h clear).high k (le_refl k))

        by_slot : (Q : ℕ → Type 0) → Q k → ((j : ℕ) → j ≢ k → Q j) → (j : ℕ) → Q j
        by_slot Q own other j = go (ℕ_discrete k j)
          where
            go : Dec (k ≡ j) → Q j
            go (yes e) = subst Q e own
            go (no ne) = other j (λ e. ne (sym e))

        new_spans : Span r' n (t i)
        new_spans =
            rw whole at (span_add r' n (t i +ᴿ -ᴿ u) (constant (u.coef k) · r' k) (span_insert r r' k free rows n (t i +ᴿ -ᴿ u) reduced)
            (span_multiple r' n (u.coef k) (r' k) (span_row r' n k fits)))
          where
            whole : t i +ᴿ -ᴿ u +ᴿ constant (u.coef k) · r' k ≡ t i
            whole =
                rw row
                (linear1 (PolyRing 𝓡) u (constant_unit 𝓡 unit)
                (solve (PolyRing 𝓡) 4 (λ t u c a. t ⊖ u ⊕ a ⊗ (c ⊗ u) ⊖ t ≈ u ⊗ (c ⊗ a ⊖ con 1)) tt (t i) u (constant c) (constant (u.coef k))))

        spans_more : (v : Poly 𝓡) → Between o (suc i) v → Span r' n (apply t m v)
        spans_more v h =
            rw (solve (PolyRing 𝓡) 2 (λ a b. a ⊖ b ⊕ b ≈ a) tt (apply t m v) (constant (v.coef i) · t i)) at
            (span_add r' n (less (apply t m v) (v.coef i) (t i)) (constant (v.coef i) · t i)
            (span_insert r r' k free rows n (less (apply t m v) (v.coef i) (t i)) (rest_spans v h)) (span_multiple r' n (v.coef i) (t i) new_spans))

        pub stage_more : Stage t m n o r' s' (suc i)
        stage_more = record {
          slots = by_slot (Slot r') (inr (rw row (record { leading = coef_constant_mul c u k ∙ unit; below = below_constant_mul c small })))
              (λ j ne. rw (rows j ne) (S.slots j));
          image = by_slot (λ j. apply t m (s' j) ≡ r' j)
              (ap (apply t m) pre ∙ apply_multiple t m c w ∙ ap (λ a. constant c · a) D.image ∙ sym row)
              (λ j ne. ap (apply t m) (pres j ne) ∙ S.image j ∙ sym (rows j ne));
          preimage = by_slot (λ j. Between o (suc i) (s' j))
              (rw pre (record {
                below = below_constant_mul c D.monic.below;
                base = λ j l. coef_constant_mul c w j ∙ ap (𝓡.mul c) (D.base j l) ∙ mul_zero 𝓡 c;
              }))
              (λ j ne. rw (pres j ne) (record { below = below_up (omega arith) (S.preimage j).below; base = (S.preimage j).base }));
          spans = spans_more;
          injective = injective_more not_spanned;
        }
