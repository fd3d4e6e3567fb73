-- Powers of x modulo a polynomial: `One n q k`, x^k is congruent to 1 modulo q, over ℤ/n.
-- Proves what x^i and x^j say of it, that x is coprime to f modulo p² where p does not divide the constant coefficient, and that it is the
-- specification's "f divides x^k − 1". Assumes nothing.
use Rattle.std.specs.Prelude.{◌≡◌, refl, not, [], ◌∷◌, ◌≢◌, ◌↔◌, ℕ, ◌≤◌, ◌<◌, ◌+◌, get_or, eqb}
use Rattle.std.proofs.Common.{sym, ◌∙◌, ap, ap₂, arith}
use Rattle.std.proofs.Math.Path.{subst}
use Rattle.std.proofs.Math.Dec.{T}
use Rattle.specification.specs.Limits.{◌²}
use Rattle.specification.specs.Polynomials as spec
use Rattle.specification.specs.RunLength.{power_less_one, has_run}
use Rattle.specification.specs.RunClaims.{DividesPower}
use Rattle.algebra.specs.Ring.{CommRing, one_mul}
use Rattle.algebra.specs.Identities.{con, ◌⊖◌, ◌⊗◌, ◌≈◌, solve}
use Rattle.algebra.specs.Divisibility.{Coprime, pow_add, coprime_pow, gauss}
use Rattle.algebra.specs.Residues.{Residues, zero_remainder}
use Rattle.algebra.specs.Fields.{Prime, prime_pos, residue_field}
use Rattle.algebra.specs.PolynomialRing.{◌+ᴿ◌, ◌·◌, -ᴿ◌, 𝟏, x}
use Rattle.algebra.specs.Monomials.{x^, coprime_x}
use Rattle.algebra.specs.Degree.{Monic, below_up, below_neg, monic_one_lem, monic_add, monic_pow_x}
use Rattle.algebra.specs.Congruence.{Congruent, congruent_equal, congruent_trans, congruent_mul}
use Rattle.algebra.specs.CoefficientLists.{ℤ[x]/, 𝓩[x]/, poly, coef_poly, poly_one, poly_x, poly_monomial, poly_sub, poly_mul}
use Rattle.algebra.specs.ListShapes.{degree_monomial, length_sub, low_reduce}
use Rattle.algebra.specs.ListDivision.{divides_sound, divides_complete}
use Rattle.factorisation.specs.ExtensionLaws.{coprime_lift}
use Rattle.items.specs.MonicLists.{MonicList, monic_poly, monic_reduced}
use Rattle.items.specs.MonicDivision.{exact_multiplies}
use Rattle.items.specs.Reductions.{barred, bar_poly, extension}

-- x^k is congruent to 1 modulo q
abbrev pub One : (n : ℕ) → ℤ[x]/ n → ℕ → Type 0
One n q k = Congruent (𝓩[x]/ n) q (x^ k) 𝟏

-- ---- two powers

module _ {n : ℕ} (q : ℤ[x]/ n) (i j k : ℕ) (sum : j ≡ k + i) where
  abbrev 𝓐 : CommRing (ℤ[x]/ n)
  𝓐 = 𝓩[x]/ n

  power_sum : x^ {𝓡 = Residues n} j ≡ x^ k · x^ i
  power_sum = ap (λ (m : ℕ). x^ m) sum ∙ pow_add 𝓐 x k i

  -- they are congruent where x^(j − i) is congruent to 1
  pub one_shifts : One n q k → Congruent 𝓐 q (x^ j) (x^ i)
  one_shifts h =
      congruent_trans 𝓐 (congruent_equal 𝓐 power_sum)
      (congruent_trans 𝓐 (congruent_mul 𝓐 h (congruent_equal 𝓐 refl)) (congruent_equal 𝓐 (one_mul 𝓐 (x^ i))))

  -- and only there, where x is coprime to q
  pub powers_apart : Coprime 𝓐 q x → Congruent 𝓐 q (x^ j) (x^ i) → One n q k
  powers_apart c h = gauss 𝓐 (coprime_pow 𝓐 i c) (rw (← difference) h)
    where
      difference : x^ {𝓡 = Residues n} j +ᴿ -ᴿ x^ i ≡ (x^ k +ᴿ -ᴿ 𝟏) · x^ i
      difference =
          ap (λ a. a +ᴿ -ᴿ x^ i) power_sum ∙ solve 𝓐 2 (λ a b. a ⊗ b ⊖ b ≈ (a ⊖ con 1) ⊗ b) tt (x^ k) (x^ i)

-- ---- x is coprime to f

module _ {p : ℕ} (prime : Prime p) (f : spec.Poly) (begins : T (has_run p f)) where
  bar_x : barred p prime.large x ≡ x
  bar_x = ap (barred p prime.large) (sym (poly_x (p ²))) ∙ bar_poly p prime.large (0 ∷ 1 ∷ []) ∙ poly_x p

  -- p does not divide the constant coefficient
  nonzero : (poly p f).coef 0 ≢ (Residues p).𝟘
  unfolding has_run
  nonzero e = subst (λ (c : ℕ). T (not (eqb c 0))) (zero_remainder p (prime_pos prime) (get_or f 0 0) (sym (coef_poly p f 0) ∙ e)) begins

  -- modulo p² as modulo p
  pub x_coprime : Coprime (𝓩[x]/ (p ²)) (poly (p ²) f) x
  x_coprime =
      let (b, e) = (residue_field p prime).inverse ((poly p f).coef 0) nonzero in
      coprime_lift (extension p prime.large) (rw (bar_poly p prime.large f, bar_x) (coprime_x (poly p f) b e))

-- ---- "f divides x^k − 1"

pub poly_power : (n : ℕ) → 0 < n → (k : ℕ) → poly n (power_less_one n k) ≡ x^ k +ᴿ -ᴿ 𝟏
unfolding power_less_one
poly_power n pos k = poly_sub n pos (spec.monomial k) (1 ∷ []) ∙ ap₂ (λ a b. a +ᴿ -ᴿ b) (poly_monomial n k) (poly_one n)

module _ {n : ℕ} (large : 1 < n) where
  pos : 0 < n
  pos = omega arith

  power_list_lem : (k : ℕ) → 1 ≤ k → MonicList n k (power_less_one n k)
  unfolding power_less_one
  power_list_lem k l =
      monic_reduced large
      (record {
        len = length_sub n (spec.monomial k) (1 ∷ []) (omega (arith, degree_monomial k)) ∙ omega (arith, degree_monomial k);
        low = unfold spec.sub spec.add in low_reduce n pos _;
      })
      (subst (Monic k) (sym (poly_power n pos k)) (monic_add (monic_pow_x k) (below_neg (below_up l monic_one_lem.below))))

  module _ {d : ℕ} {f : spec.Poly} (m : MonicList n d f) where
    -- the specification's test
    pub test_one : (k : ℕ) → T (spec.divides n f (power_less_one n k)) ↔ One n (poly n f) k
    test_one k = (
      λ t. rw (← poly_power n pos k) (divides_sound n pos d f m.reduced.len (monic_poly m) (power_less_one n k) t),
      λ h. divides_complete n pos d f m.reduced.len (monic_poly m) (power_less_one n k) (rw (poly_power n pos k) h),
    )

    -- and its claim
    pub one_claim : (k : ℕ) → 1 ≤ k → One n (poly n f) k ↔ DividesPower n f k
    one_claim k l = (
      λ h. (spec.quotient n f (power_less_one n k), exact_multiplies large m (power_list_lem k l) (rw (poly_power n pos k) h)),
      λ (q, e). (poly n q, (𝓩[x]/ n).*_comm (poly n q) (poly n f) ∙ sym (poly_mul n pos f q) ∙ ap (poly n) e ∙ poly_power n pos k),
    )
