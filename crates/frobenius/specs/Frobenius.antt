-- Powers in characteristic p. Proves that (a + b)^p = a^p + b^p in every ring A with a homomorphism from ℤ/p, p a prime, as the binomial
-- theorem does: the coefficients of (x + b)^p in A[x] between the first and the last are 𝟘, since k·coefₖ (x + b)ⁿ = n·coefₖ₋₁ (x + b)ⁿ⁻¹
-- and k has an inverse; then x is a. Assumes nothing.
use Rattle.std.specs.Prelude.{◌≡◌, ◌⊎◌, ◌≢◌, ℕ, zero, suc, ◌<◌, ◌-◌}
use Rattle.std.proofs.Common.{sym, ◌∙◌, ap, ap₂, inl, inr, ⊎_elim, eq-or-lt_of_le, mod-eq_of_lt, mul-one as mul-oneℕ, arith}
use Rattle.algebra.specs.Numbers.{lt_or_le}
use Rattle.algebra.specs.Ring.{CommRing, ring, add_mul, add_zero, linear3}
use Rattle.algebra.specs.Identities.{con, ◌⊕◌, ◌⊖◌, ◌⊗◌, ⊝◌, ◌≈◌, solve}
use Rattle.algebra.specs.Divisibility.{pow, pow_zero, pow_suc}
use Rattle.algebra.specs.Residues.{ℤ/, residue, Residues, residue_one, residue_suc, residue_self, zero_remainder}
use Rattle.algebra.specs.PolynomialRing.{
  Poly,
  PolyRing,
  ◌+ᴿ◌,
  ◌·◌,
  x,
  constant,
  poly_ext,
  coef_add,
  coef_constant_mul,
  coef_constant_zero,
  coef_constant_suc,
  coef_x_mul_zero,
  coef_x_mul_suc,
  constant_one,
}
use Rattle.algebra.specs.Monomials.{x^, coef_power_low}
use Rattle.algebra.specs.Degree.{Monic, monic_x, monic_add, below_constant, monic_pow, monic_pow_x}
use Rattle.algebra.specs.Fields.{Prime, prime_pos, prime_suc, residue_field}
use Rattle.algebra.specs.Homomorphisms.{Homomorphism, keeps_zero, keeps_pow}
use Rattle.frobenius.specs.Evaluation.{evaluate, evaluation, evaluate_x, evaluate_constant}

module _ {A : Type 0} (𝓐 : CommRing A) (b : A) where
  infixl 60 ◌∔◌
  infixl 70 ◌*ᴿ◌
  open 𝓐 use {add as ◌∔◌, mul as ◌*ᴿ◌, neg, 𝟘, 𝟙}

  -- the coefficient of x^k in (x + b)^n
  abbrev coefficient : ℕ → ℕ → A
  coefficient n k = (pow (PolyRing 𝓐) (x +ᴿ constant b) n).coef k

  next : (n : ℕ) → pow (PolyRing 𝓐) (x +ᴿ constant b) (suc n)
      ≡ x · pow (PolyRing 𝓐) (x +ᴿ constant b) n +ᴿ constant b · pow (PolyRing 𝓐) (x +ᴿ constant b) n
  next n = pow_suc (PolyRing 𝓐) (x +ᴿ constant b) n ∙ add_mul (PolyRing 𝓐) x (constant b) (pow (PolyRing 𝓐) (x +ᴿ constant b) n)

  coefficient_first : (n : ℕ) → coefficient (suc n) 0 ≡ b *ᴿ coefficient n 0
  coefficient_first n =
      ap (λ a. a.coef 0) (next n)
      ∙ simp (coef_add, coef_x_mul_zero, coef_constant_mul) (𝓐.+_zero (b *ᴿ coefficient n 0))

  coefficient_next : (n k : ℕ) → coefficient (suc n) (suc k) ≡ coefficient n k ∔ b *ᴿ coefficient n (suc k)
  coefficient_next n k = ap (λ a. a.coef (suc k)) (next n) ∙ simp (coef_add, coef_x_mul_suc, coef_constant_mul)

  coefficient_none : (k : ℕ) → coefficient 0 (suc k) ≡ 𝟘
  coefficient_none k =
      ap (λ a. a.coef (suc k)) (pow_zero (PolyRing 𝓐) (x +ᴿ constant b) ∙ sym (constant_one 𝓐)) ∙ coef_constant_suc 𝓐 𝟙 k

  coefficient_constant : (n : ℕ) → coefficient n 0 ≡ pow 𝓐 b n
  coefficient_constant zero =
      ap (λ a. a.coef 0) (pow_zero (PolyRing 𝓐) (x +ᴿ constant b) ∙ sym (constant_one 𝓐)) ∙ coef_constant_zero 𝓐 𝟙 ∙ sym (pow_zero 𝓐 b)
  coefficient_constant (suc n) = coefficient_first n ∙ ap (λ c. b *ᴿ c) (coefficient_constant n) ∙ sym (pow_suc 𝓐 b n)

  -- the numbers n·1, of which only the step from one to the next is used
  module _ (number : ℕ → A) (number_one : number 1 ≡ 𝟙) (number_suc : (n : ℕ) → number (suc n) ≡ 𝟙 ∔ number n) where
    absorb : (n k : ℕ) → number (suc k) *ᴿ coefficient (suc n) (suc k) ≡ number (suc n) *ᴿ coefficient n k
    absorb zero zero = rw (coefficient_next 0 0, coefficient_none 0) (simp ring)
    absorb zero (suc k) = rw (coefficient_next 0 (suc k), coefficient_none k, coefficient_none (suc k)) (simp ring)
    absorb (suc n) zero =
        rw (coefficient_next (suc n) 0, number_suc (suc n))
        (linear3 𝓐 b (neg (number (suc n))) (coefficient (suc n) 0) (absorb n 0) (coefficient_first n) number_one
        (solve 𝓐 6
        (λ K N b f s c. K ⊗ (f ⊕ b ⊗ s) ⊖ (con 1 ⊕ N) ⊗ f ≈ b ⊗ (K ⊗ s ⊖ N ⊗ c) ⊕ ⊝ N ⊗ (f ⊖ b ⊗ c) ⊕ f ⊗ (K ⊖ con 1)) tt
        (number 1) (number (suc n)) b (coefficient (suc n) 0) (coefficient (suc n) 1) (coefficient n 0)))
    absorb (suc n) (suc k) =
        rw (coefficient_next (suc n) (suc k), number_suc (suc n), number_suc (suc k))
        (linear3 𝓐 𝟙 b (neg (number (suc n))) (absorb n k) (rw (number_suc (suc k)) at (absorb n (suc k))) (coefficient_next n k)
        (solve 𝓐 7
        (λ K N b B C c d.
        (con 1 ⊕ K) ⊗ (B ⊕ b ⊗ C) ⊖ (con 1 ⊕ N) ⊗ B
        ≈ con 1 ⊗ (K ⊗ B ⊖ N ⊗ c) ⊕ b ⊗ ((con 1 ⊕ K) ⊗ C ⊖ N ⊗ d) ⊕ ⊝ N ⊗ (B ⊖ (c ⊕ b ⊗ d))) tt
        (number (suc k)) (number (suc n)) b (coefficient (suc n) (suc k)) (coefficient (suc n) (suc (suc k))) (coefficient n k)
        (coefficient n (suc k))))

    -- where n + 1 is 𝟘, and k + 1 has an inverse
    coefficient_gone : (n k : ℕ) → number (suc n) ≡ 𝟘 → (u : A) → u *ᴿ number (suc k) ≡ 𝟙 → coefficient (suc n) (suc k) ≡ 𝟘
    coefficient_gone n k gone u unit =
        linear3 𝓐 u (neg (coefficient (suc n) (suc k))) (u *ᴿ coefficient n k) (absorb n k) unit gone
        (solve 𝓐 5 (λ B u K N c. B ⊖ con 0 ≈ u ⊗ (K ⊗ B ⊖ N ⊗ c) ⊕ ⊝ B ⊗ (u ⊗ K ⊖ con 1) ⊕ u ⊗ c ⊗ (N ⊖ con 0)) tt
        (coefficient (suc n) (suc k)) u (number (suc k)) (number (suc n)) (coefficient n k))

  monic_power : (n : ℕ) → Monic n (pow (PolyRing 𝓐) (x +ᴿ constant b) n)
  monic_power n = rw (mul-oneℕ n) at (monic_pow {𝓡 = 𝓐} (monic_add monic_x (below_constant b)) n)

  -- only the first and the last coefficient are left
  linear_power : (n : ℕ) → ((k : ℕ) → k < n → coefficient (suc n) (suc k) ≡ 𝟘)
      → pow (PolyRing 𝓐) (x +ᴿ constant b) (suc n) ≡ x^ (suc n) +ᴿ constant (pow 𝓐 b (suc n))
  linear_power n gone = poly_ext at
    where
      ends : Poly 𝓐
      ends = x^ (suc n) +ᴿ constant (pow 𝓐 b (suc n))

      ends_first : ends.coef 0 ≡ pow 𝓐 b (suc n)
      ends_first =
          coef_add (x^ (suc n)) (constant (pow 𝓐 b (suc n))) 0
          ∙ ap₂ ◌∔◌ (coef_power_low 𝓐 (suc n) 0 (omega arith)) (coef_constant_zero 𝓐 (pow 𝓐 b (suc n))) ∙ 𝓐.+_zero (pow 𝓐 b (suc n))

      ends_later : (k : ℕ) {c : A} → (x^ {𝓡 = 𝓐} (suc n)).coef (suc k) ≡ c → ends.coef (suc k) ≡ c
      ends_later k {c} e =
          coef_add (x^ (suc n)) (constant (pow 𝓐 b (suc n))) (suc k)
          ∙ ap₂ ◌∔◌ e (coef_constant_suc 𝓐 (pow 𝓐 b (suc n)) k) ∙ add_zero 𝓐 c

      above : (k : ℕ) → (n ≡ k) ⊎ (n < k) → coefficient (suc n) (suc k) ≡ ends.coef (suc k)
      above k (inl e) = rw (← e) ((monic_power (suc n)).leading ∙ sym (ends_later n (monic_pow_x (suc n)).leading))
      above k (inr l) =
          (monic_power (suc n)).below.high (suc k) (omega arith)
          ∙ sym (ends_later k ((monic_pow_x (suc n)).below.high (suc k) (omega arith)))

      at : (k : ℕ) → coefficient (suc n) k ≡ ends.coef k
      at zero = coefficient_constant (suc n) ∙ sym ends_first
      at (suc k) =
          ⊎_elim (λ l. gone k l ∙ sym (ends_later k (coef_power_low 𝓐 (suc n) (suc k) (omega arith)))) (λ l. above k (eq-or-lt_of_le l))
          (lt_or_le k n)

-- ---- a ring with a homomorphism from ℤ/p

module _ {p : ℕ} (P : Prime p) {A : Type 0} {𝓐 : CommRing A} {ι : ℤ/ p → A} (h : Homomorphism (Residues p) 𝓐 ι) where
  infixl 60 ◌∔◌
  infixl 70 ◌*ᴿ◌
  open 𝓐 use {add as ◌∔◌, mul as ◌*ᴿ◌, 𝟘, 𝟙}

  abbrev number : ℕ → A
  number k = ι (residue p k)

  number_one : number 1 ≡ 𝟙
  number_one = ap ι (residue_one p) ∙ h.keeps_one

  number_suc : (k : ℕ) → number (suc k) ≡ 𝟙 ∔ number k
  number_suc k = ap ι (residue_suc p k) ∙ h.keeps_add _ _ ∙ ap (λ c. c ∔ number k) h.keeps_one

  number_p : number p ≡ 𝟘
  number_p = ap ι (residue_self p (prime_pos P)) ∙ keeps_zero h

  number_inverse : (k : ℕ) → 0 < k → k < p → (u : A) × (u *ᴿ number k ≡ 𝟙)
  number_inverse k l s =
      let (u, e) = (residue_field p P).inverse (residue p k) nonzero in
      (ι u, 𝓐.*_comm (ι u) (number k) ∙ sym (h.keeps_mul (residue p k) u) ∙ ap ι e ∙ h.keeps_one)
    where
      nonzero : residue p k ≢ (Residues p).𝟘
      nonzero e = omega (arith, zero_remainder p (prime_pos P) k e, mod-eq_of_lt s)

  frobenius_suc : Discrete A → (n : ℕ) → suc n ≡ p → (a b : A) → pow 𝓐 (a ∔ b) (suc n) ≡ pow 𝓐 a (suc n) ∔ pow 𝓐 b (suc n)
  frobenius_suc decide n e a b = sym left ∙ ap at (linear_power 𝓐 b n gone) ∙ right
    where
      gone : (k : ℕ) → k < n → (pow (PolyRing 𝓐) (x +ᴿ constant b) (suc n)).coef (suc k) ≡ 𝟘
      gone k l =
          let (u, unit) = number_inverse (suc k) (omega arith) (omega arith) in
          coefficient_gone 𝓐 b number number_one number_suc n k (ap number e ∙ number_p) u unit

      at : Poly 𝓐 → A
      at = evaluate 𝓐 decide a

      left : at (pow (PolyRing 𝓐) (x +ᴿ constant b) (suc n)) ≡ pow 𝓐 (a ∔ b) (suc n)
      left =
          keeps_pow (evaluation 𝓐 decide a) (x +ᴿ constant b) (suc n)
          ∙ ap (λ c. pow 𝓐 c (suc n))
          ((evaluation 𝓐 decide a).keeps_add x (constant b) ∙ ap₂ ◌∔◌ (evaluate_x 𝓐 decide a) (evaluate_constant 𝓐 decide a b))

      right : at (x^ (suc n) +ᴿ constant (pow 𝓐 b (suc n))) ≡ pow 𝓐 a (suc n) ∔ pow 𝓐 b (suc n)
      right =
          (evaluation 𝓐 decide a).keeps_add (x^ (suc n)) (constant (pow 𝓐 b (suc n)))
          ∙ ap₂ ◌∔◌ (keeps_pow (evaluation 𝓐 decide a) x (suc n) ∙ ap (λ c. pow 𝓐 c (suc n)) (evaluate_x 𝓐 decide a))
          (evaluate_constant 𝓐 decide a (pow 𝓐 b (suc n)))

  pub frobenius : Discrete A → (a b : A) → pow 𝓐 (a ∔ b) p ≡ pow 𝓐 a p ∔ pow 𝓐 b p
  frobenius decide a b = rw (prime_suc P) at (frobenius_suc decide (p - 1) (prime_suc P) a b)
