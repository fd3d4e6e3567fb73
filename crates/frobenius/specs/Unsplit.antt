-- Polynomials Q over ℤ/p, p a prime, that have no splitting element: Q divides v^p − v for no v of lower degree with constant term 𝟘, but 𝟎.
-- Proves that such a Q is not a product A·B of coprime factors of degree 1 or more: the v that is 𝟏 modulo A and 𝟎 modulo B, less its constant
-- term, would be a splitting element. Assumes nothing.
use Rattle.std.specs.Prelude.{◌≡◌, refl, ◌≢◌, ℕ, zero, suc, ◌≤◌, ◌-◌}
use Rattle.std.proofs.Common.{sym, ◌∙◌, ap, arith}
use Rattle.algebra.specs.Ring.{CommRing, zero_mul, add_neg, eq_of_sub, linear1}
use Rattle.algebra.specs.Identities.{con, ◌⊕◌, ◌⊖◌, ◌⊗◌, ⊝◌, ◌≈◌, solve}
use Rattle.algebra.specs.Divisibility.{◌∣◌, Coprime, pow, pow_suc, pow_one, divides_trans}
use Rattle.algebra.specs.Residues.{Residues}
use Rattle.algebra.specs.PolynomialRing.{◌+ᴿ◌, ◌·◌, -ᴿ◌, 𝟎, 𝟏, constant, coefficients}
use Rattle.algebra.specs.Degree.{Below, Monic, below_up, below_add, below_neg, below_constant, monic_one_lem, small_multiple}
use Rattle.algebra.specs.Division.{Divided}
use Rattle.algebra.specs.Leading.{divide}
use Rattle.algebra.specs.Fields.{Prime, prime_suc, residue_field, residue_discrete}
use Rattle.algebra.specs.Congruence.{
  Congruent,
  congruent_equal,
  congruent_sym,
  congruent_trans,
  congruent_mul,
  congruent_pow,
  divides_congruent,
  congruent_remainder,
}
use Rattle.factorisation.specs.MonicDivisors.{divisor_degree}
use Rattle.frobenius.specs.FrobeniusPowers.{◌^ᴿ◌}
use Rattle.frobenius.specs.FixedElements.{Fixed, fixed_less}
use Rattle.frobenius.specs.SplittingElements.{CoprimeFactors}
use Rattle.algebra.specs.CoefficientLists.{ℤ[x]/, 𝓩[x]/}

-- among the v of lower degree with constant term 𝟘 only 𝟎 is v^p modulo Q
abbrev pub Unsplit : (p d : ℕ) → ℤ[x]/ p → Type 0
Unsplit p d Q =
    (v : ℤ[x]/ p) → Below d v → v.coef 0 ≡ (Residues p).𝟘 → ◌∣◌ (𝓩[x]/ p) Q (v ^ᴿ p +ᴿ -ᴿ v) → v ≡ 𝟎

-- e = v·b, where u·a + v·b = 𝟙, is 𝟙 modulo a and 𝟘 modulo b, so that its powers are e modulo a·b
module _ {R : Type 0} (𝓡 : CommRing R) {a b : R} (c : Coprime 𝓡 a b) where
  infixl 70 ◌*ᴿ◌
  open 𝓡 use {mul as ◌*ᴿ◌, neg, 𝟙}

  abbrev idempotent : R
  idempotent = c.v *ᴿ b

  one_modulo : Congruent 𝓡 a idempotent 𝟙
  one_modulo = (
    neg c.u,
    linear1 𝓡 (neg 𝟙) c.law
        (solve 𝓡 4 (λ u a v b. ⊝ u ⊗ a ⊖ (v ⊗ b ⊖ con 1) ≈ ⊝ con 1 ⊗ (u ⊗ a ⊕ v ⊗ b ⊖ con 1)) tt c.u a c.v b),
  )

  square : Congruent 𝓡 (a *ᴿ b) (idempotent *ᴿ idempotent) idempotent
  square = (
    neg (c.v *ᴿ c.u),
    linear1 𝓡 (neg (c.v *ᴿ b)) c.law
        (solve 𝓡 4 (λ u a v b. ⊝ (v ⊗ u) ⊗ (a ⊗ b) ⊖ (v ⊗ b ⊗ (v ⊗ b) ⊖ v ⊗ b) ≈ ⊝ (v ⊗ b) ⊗ (u ⊗ a ⊕ v ⊗ b ⊖ con 1)) tt c.u a c.v b),
  )

  idempotent_power : (n : ℕ) → Congruent 𝓡 (a *ᴿ b) (pow 𝓡 idempotent (suc n)) idempotent
  idempotent_power zero = congruent_equal 𝓡 (pow_one 𝓡 idempotent)
  idempotent_power (suc n) =
      rw (pow_suc 𝓡 idempotent (suc n))
      (congruent_trans 𝓡 (congruent_mul 𝓡 (congruent_equal 𝓡 refl) (idempotent_power n)) square)

module _ {p : ℕ} (P : Prime p) where
  module _ {A B : ℤ[x]/ p} (c : Coprime (𝓩[x]/ p) A B) (r : ℤ[x]/ p)
      (remainder : Congruent (𝓩[x]/ p) (A · B) (idempotent (𝓩[x]/ p) c) r) where
    -- a constant that B divides is 𝟎, and 𝟎 is not 𝟏 modulo A
    not_constant : {i j : ℕ} → Monic i A → Monic j B → 1 ≤ i → 1 ≤ j → r ≢ constant (r.coef 0)
    not_constant mA mB pA pB h = omega (arith, divisor_degree (residue_field p P).one_ne_zero mA monic_one_lem unit)
      where
        divided : ◌∣◌ (𝓩[x]/ p) B r
        divided =
            divides_congruent (𝓩[x]/ p)
            (congruent_sym (𝓩[x]/ p) (divides_trans (𝓩[x]/ p) (A, refl) remainder)) (c.v, refl)

        gone : r ≡ 𝟎
        gone =
            let (q, g) = divided in
            sym g ∙ ap (λ a. a · B) (small_multiple mB q (rw (g ∙ h) (below_up pB (below_constant (r.coef 0))))) ∙ zero_mul (𝓩[x]/ p) B

        unit : ◌∣◌ (𝓩[x]/ p) A 𝟏
        unit =
            divides_congruent (𝓩[x]/ p) (congruent_sym (𝓩[x]/ p) (one_modulo (𝓩[x]/ p) c))
            (divides_congruent (𝓩[x]/ p) (divides_trans (𝓩[x]/ p) (B, (𝓩[x]/ p).*_comm B A) remainder)
            (rw gone (𝟎, zero_mul (𝓩[x]/ p) A)))

    power_r : Congruent (𝓩[x]/ p) (A · B) (r ^ᴿ p) r
    power_r =
        congruent_trans (𝓩[x]/ p) (congruent_pow (𝓩[x]/ p) p (congruent_sym (𝓩[x]/ p) remainder))
        (congruent_trans (𝓩[x]/ p) (rw (prime_suc P) at (idempotent_power (𝓩[x]/ p) c (p - 1))) remainder)

    -- r without its constant term is a splitting element
    fixed : Fixed (A · B) (r +ᴿ -ᴿ constant (r.coef 0))
    fixed = fixed_less (A · B) r P (r.coef 0) power_r

  unsplit_product : {d i j : ℕ} {A B : ℤ[x]/ p} → 1 ≤ d → Monic d (A · B) → Monic i A → Monic j B → 1 ≤ i → 1 ≤ j
      → Coprime (𝓩[x]/ p) A B → Unsplit p d (A · B) → ⊥
  unsplit_product {d} {i} {j} {A} {B} l m mA mB pA pB c unsplit =
      not_constant c D.remainder (congruent_remainder D) mA mB pA pB
      (eq_of_sub (𝓩[x]/ p) (unsplit v small first (fixed c D.remainder (congruent_remainder D))))
    where
      D : Divided d (A · B) (idempotent (𝓩[x]/ p) c)
      D = divide (residue_discrete p) m (idempotent (𝓩[x]/ p) c)

      v : ℤ[x]/ p
      v = D.remainder +ᴿ -ᴿ constant (D.remainder.coef 0)

      small : Below d v
      small = below_add D.small (below_neg (below_up l (below_constant (D.remainder.coef 0))))

      first : v.coef 0 ≡ (Residues p).𝟘
      first = simp coefficients (add_neg (Residues p) (D.remainder.coef 0))

  -- Q is no product of coprime factors of degree 1 or more
  pub unsplit_indivisible : {d : ℕ} {Q A B : ℤ[x]/ p} → 1 ≤ d → Monic d Q → Unsplit p d Q → ¬ CoprimeFactors Q A B
  unsplit_indivisible {d} {Q} {A} {B} l m unsplit F =
      unsplit_product l (rw F.multiplies m) F.monic_a F.monic_b F.positive_a F.positive_b F.coprime (rw F.multiplies unsplit)
