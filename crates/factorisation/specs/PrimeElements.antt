-- Prime elements G of a commutative ring: each element is a multiple of G or coprime to it; G cancels; G is no unit.
-- `exponent`: how often G divides an element. Proves that powers of G cancel, that G^t divides G^m only if t ≤ m,
-- and that the divisors of G^m are the powers of G, up to units. Assumes nothing.
use Rattle.std.specs.Prelude.{◌≡◌, ◌⊎◌}
use Rattle.std.proofs.Math.Path.{sym, ap}
use Rattle.std.proofs.Common.{◌∙◌, le_antisymm}
use Rattle.std.proofs.Math.Logic.{inl, inr}
use Prim.Native.Nat.{ℕ, zero, suc, ◌≤◌, zero-le, suc-le-suc}
use Rattle.algebra.specs.Ring.{CommRing, linear1, eq_of_sub, mul_one}
use Rattle.algebra.specs.Identities.{con, ◌⊖◌, ◌⊗◌, ◌≈◌, solve}
use Rattle.algebra.specs.Divisibility.{
  ◌∣◌ as Divides,
  Coprime,
  pow,
  pow_zero,
  pow_suc,
  divides_refl,
  divides_mul_both,
  one_divides,
  coprime_sym,
  coprime_pow,
  gauss,
}

module _ {R : Type 0} (𝓡 : CommRing R) where
  infixl 60 ◌+ᴿ◌
  infixl 70 ◌*ᴿ◌
  infix 50 ◌∣◌
  open 𝓡 use {add as ◌+ᴿ◌, mul as ◌*ᴿ◌, neg, 𝟘, 𝟙}

  abbrev ◌∣◌ : R → R → Type 0
  ◌∣◌ = Divides 𝓡

  -- equal up to a unit
  abbrev pub Associated : R → R → Type 0
  Associated a b = (a ∣ b) × (b ∣ a)

  pub record PrimeElement (G : R) : Type 0 where
    pub test : (a : R) → (G ∣ a) ⊎ Coprime 𝓡 G a
    pub cancel : (a : R) → a *ᴿ G ≡ 𝟘 → a ≡ 𝟘
    pub nonunit : ¬ (G ∣ 𝟙)

  module _ {G : R} where
    -- where only 𝟘 has the multiple 𝟘, G cancels in equations
    pub cancel_equal : ((q : R) → q *ᴿ G ≡ 𝟘 → q ≡ 𝟘) → {a b : R} → a *ᴿ G ≡ b *ᴿ G → a ≡ b
    cancel_equal cancel {a} {b} e =
        eq_of_sub 𝓡 (cancel (a +ᴿ neg b) (linear1 𝓡 𝟙 e (solve 𝓡 3 (λ a b G. (a ⊖ b) ⊗ G ⊖ con 0 ≈ con 1 ⊗ (a ⊗ G ⊖ b ⊗ G)) tt a b G)))

    pow_top : (n : ℕ) → pow 𝓡 G n *ᴿ G ≡ pow 𝓡 G (suc n)
    pow_top n = 𝓡.*_comm (pow 𝓡 G n) G ∙ sym (pow_suc 𝓡 G n)

    pub mul_pow_top : (a : R) (n : ℕ) → a *ᴿ pow 𝓡 G n *ᴿ G ≡ a *ᴿ pow 𝓡 G (suc n)
    mul_pow_top a n = 𝓡.*_assoc a (pow 𝓡 G n) G ∙ ap (λ b. a *ᴿ b) (pow_top n)

  module _ {G : R} (prime : PrimeElement G) where
    pub cancel_pow : (n : ℕ) {a b : R} → a *ᴿ pow 𝓡 G n ≡ b *ᴿ pow 𝓡 G n → a ≡ b
    cancel_pow zero {a} {b} e = sym (mul_one 𝓡 a) ∙ (rw (pow_zero 𝓡 G) at e) ∙ mul_one 𝓡 b
    cancel_pow (suc n) {a} {b} e = cancel_pow n (cancel_equal prime.cancel (mul_pow_top a n ∙ e ∙ sym (mul_pow_top b n)))

    pub pow_le : (t m : ℕ) → pow 𝓡 G t ∣ pow 𝓡 G m → t ≤ m
    pow_le zero m d = zero-le
    pow_le (suc t) zero (q, e) = absurd (prime.nonunit (q *ᴿ pow 𝓡 G t, mul_pow_top q t ∙ e ∙ pow_zero 𝓡 G))
    pow_le (suc t) (suc m) (q, e) = suc-le-suc (pow_le t m (q, cancel_equal prime.cancel (mul_pow_top q t ∙ e ∙ sym (pow_top m))))

    pub pow_injective : (t m : ℕ) → pow 𝓡 G t ≡ pow 𝓡 G m → t ≡ m
    pow_injective t m e = le_antisymm (pow_le t m (𝟙, 𝓡.*_one (pow 𝓡 G t) ∙ e)) (pow_le m t (𝟙, 𝓡.*_one (pow 𝓡 G m) ∙ sym e))

    -- how often G divides a, looked at up to n times
    unfoldable pub exponent : ℕ → R → ℕ
    exponent zero a = 0
    exponent (suc n) a = elim (prime.test a) [ inl d ↦ suc (exponent n d.0) | inr _ ↦ 0 ]

    pub divisor_of_power : (n : ℕ) (a : R) → a ∣ pow 𝓡 G n → Associated a (pow 𝓡 G (exponent n a))
    unfolding exponent
    divisor_of_power zero a d = (d, rw (pow_zero 𝓡 G) (one_divides 𝓡 a))
    divisor_of_power (suc n) a (q, h) = go (prime.test a) (divisor_of_power n)
      where
        go : (t : (G ∣ a) ⊎ Coprime 𝓡 G a) → ((b : R) → b ∣ pow 𝓡 G n → Associated b (pow 𝓡 G (exponent n b)))
            → Associated a (pow 𝓡 G (elim t as (λ _. ℕ) [ inl d ↦ suc (exponent n d.0) | inr _ ↦ 0 ]))
        go (inl (b, e)) f =
            let (d, u) = f b (q, cancel_equal prime.cancel (𝓡.*_assoc q b G ∙ ap (λ c. q *ᴿ c) e ∙ h ∙ sym (pow_top n))) in
            rw (← pow_top (exponent n b), ← e) (divides_mul_both 𝓡 d (divides_refl 𝓡 G), divides_mul_both 𝓡 u (divides_refl 𝓡 G))
        go (inr c) f =
            rw (pow_zero 𝓡 G) (gauss 𝓡 (coprime_pow 𝓡 (suc n) (coprime_sym 𝓡 c)) (q, h ∙ sym (𝓡.*_one (pow 𝓡 G (suc n)))), one_divides 𝓡 a)
