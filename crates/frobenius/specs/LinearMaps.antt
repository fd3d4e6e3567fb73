-- The linear map on polynomials that takes x^i to tᵢ, for i below n: `apply t n v` is v₀·t₀ + .. + vₙ₋₁·tₙ₋₁.
-- Proves that it is linear, that it takes x^i to tᵢ, that it is the identity for tᵢ = x^i, and what it is modulo f where the images are
-- known modulo f. Assumes nothing.
use Rattle.std.specs.Prelude.{◌≡◌, ◌⊎◌, ℕ, zero, suc, ◌<◌}
use Rattle.std.proofs.Math.Path.{refl}
use Rattle.std.proofs.Common.{sym, ◌∙◌, ap, ap₂, inl, inr, eq-or-lt_of_le, arith}
use Rattle.algebra.specs.Ring.{CommRing, ring, zero_mul, mul_zero, add_zero, add_neg, neg_unique}
use Rattle.algebra.specs.Identities.{◌⊕◌, ◌⊖◌, ◌⊗◌, ◌≈◌, solve}
use Rattle.algebra.specs.Divisibility.{◌∣◌}
use Rattle.algebra.specs.PolynomialRing.{
  Poly,
  PolyRing,
  ◌+ᴿ◌,
  ◌·◌,
  -ᴿ◌,
  𝟎,
  constant,
  coef_zero,
  coef_add,
  coef_constant_mul,
  constant_zero,
  constant_one,
  constant_add,
  constant_mul,
}
use Rattle.algebra.specs.Monomials.{x^, coef_power_low}
use Rattle.algebra.specs.Degree.{Below, Monic, below_add, below_𝟎, below_zero, below_constant_mul, monic_pow_x}
use Rattle.algebra.specs.Division.{below_top}
use Rattle.algebra.specs.Congruence.{
  Congruent,
  congruent_equal,
  congruent_sym,
  congruent_trans,
  congruent_zero,
  congruent_add,
  congruent_mul,
  congruent_unique,
  divides_congruent,
}

module _ {R : Type 0} {𝓡 : CommRing R} where
  unfoldable pub apply : (ℕ → Poly 𝓡) → ℕ → Poly 𝓡 → Poly 𝓡
  apply t zero v = 𝟎
  apply t (suc n) v = apply t n v +ᴿ constant (v.coef n) · t n

  -- ---- linear

  module _ (t : ℕ → Poly 𝓡) where
    pub apply_zero : (v : Poly 𝓡) → apply t 0 v ≡ 𝟎
    unfolding apply
    apply_zero v = refl

    pub apply_suc : (n : ℕ) (v : Poly 𝓡) → apply t (suc n) v ≡ apply t n v +ᴿ constant (v.coef n) · t n
    unfolding apply
    apply_suc n v = refl

    -- the steps of the recursions stand apart, so that their clauses stay cheap to check
    add_step : (n : ℕ) (v w : Poly 𝓡) → apply t n (v +ᴿ w) ≡ apply t n v +ᴿ apply t n w → apply t (suc n) (v +ᴿ w) ≡ apply t (suc n) v +ᴿ apply t (suc n) w
    add_step n v w e =
        rw (apply_suc n (v +ᴿ w), apply_suc n v, apply_suc n w, e, coef_add v w n, constant_add (v.coef n) (w.coef n))
        (solve (PolyRing 𝓡) 5 (λ a b c d t. a ⊕ b ⊕ (c ⊕ d) ⊗ t ≈ a ⊕ c ⊗ t ⊕ (b ⊕ d ⊗ t)) tt
        (apply t n v) (apply t n w) (constant (v.coef n)) (constant (w.coef n)) (t n))

    apply_add : (n : ℕ) (v w : Poly 𝓡) → apply t n (v +ᴿ w) ≡ apply t n v +ᴿ apply t n w
    apply_add zero v w = rw (apply_zero (v +ᴿ w), apply_zero v, apply_zero w) (sym (add_zero (PolyRing 𝓡) 𝟎))
    apply_add (suc n) v w = add_step n v w (apply_add n v w)

    multiple_step : (n : ℕ) (c : R) (v : Poly 𝓡) → apply t n (constant c · v) ≡ constant c · apply t n v
        → apply t (suc n) (constant c · v) ≡ constant c · apply t (suc n) v
    multiple_step n c v e =
        rw (apply_suc n (constant c · v), apply_suc n v, e, coef_constant_mul c v n, constant_mul c (v.coef n))
        (solve (PolyRing 𝓡) 4 (λ a c d t. c ⊗ a ⊕ c ⊗ d ⊗ t ≈ c ⊗ (a ⊕ d ⊗ t)) tt (apply t n v) (constant c) (constant (v.coef n)) (t n))

    pub apply_multiple : (n : ℕ) (c : R) (v : Poly 𝓡) → apply t n (constant c · v) ≡ constant c · apply t n v
    apply_multiple zero c v = rw (apply_zero (constant c · v), apply_zero v) (sym (mul_zero (PolyRing 𝓡) (constant c)))
    apply_multiple (suc n) c v = multiple_step n c v (apply_multiple n c v)

    null_step : (n : ℕ) (v : Poly 𝓡) → v.coef n ≡ 𝓡.𝟘 → apply t n v ≡ 𝟎 → apply t (suc n) v ≡ 𝟎
    null_step n v h e = rw (apply_suc n v, e, h, constant_zero 𝓡) (simp ring)

    -- no term, no image
    pub apply_null : (n : ℕ) (v : Poly 𝓡) → ((j : ℕ) → j < n → v.coef j ≡ 𝓡.𝟘) → apply t n v ≡ 𝟎
    apply_null zero v h = apply_zero v
    apply_null (suc n) v h = null_step n v (h n (omega arith)) (apply_null n v (λ j l. h j (omega arith)))

    pub apply_sub_multiple : (n : ℕ) (v : Poly 𝓡) (c : R) (w : Poly 𝓡) → apply t n (v +ᴿ -ᴿ (constant c · w)) ≡ apply t n v +ᴿ -ᴿ (constant c · apply t n w)
    apply_sub_multiple n v c w =
        apply_add n v (-ᴿ (constant c · w)) ∙ ap (λ a. apply t n v +ᴿ a) (negative ∙ ap -ᴿ◌ (apply_multiple n c w))
      where
        negative : apply t n (-ᴿ (constant c · w)) ≡ -ᴿ apply t n (constant c · w)
        negative =
            neg_unique (PolyRing 𝓡)
            (sym (apply_add n (constant c · w) (-ᴿ (constant c · w))) ∙ ap (apply t n) (add_neg (PolyRing 𝓡) (constant c · w))
            ∙ apply_null n 𝟎 (λ j l. coef_zero 𝓡 j))

    pub apply_monomial : (n : ℕ) {i : ℕ} → i < n → apply t n (x^ i) ≡ t i
    apply_monomial zero l = absurd (omega arith)
    apply_monomial (suc n) {i} l =
        rw (apply_suc n (x^ i)) (go (eq-or-lt_of_le l) (λ k. apply_monomial n k))
      where
        go : (suc i ≡ suc n) ⊎ (suc i < suc n) → (i < n → apply t n (x^ i) ≡ t i)
            → apply t n (x^ i) +ᴿ constant ((x^ {𝓡 = 𝓡} i).coef n) · t n ≡ t i
        go (inl e) f = let s : i ≡ n = omega arith in
            rw (s, apply_null n (x^ n) (λ j k. coef_power_low 𝓡 n j k), (monic_pow_x n).leading, constant_one 𝓡) (simp ring)
        go (inr k) f =
            rw (f (omega arith), (monic_pow_x i).below.high n (omega arith), constant_zero 𝓡) (simp ring)

  -- ---- the images x^i

  -- v without its top term
  monomials_step : (n : ℕ) (v low : Poly 𝓡) → low +ᴿ constant (v.coef n) · x^ n ≡ v → Below n low → apply x^ n low ≡ low
      → apply x^ (suc n) v ≡ v
  monomials_step n v low whole small same =
      ap (apply x^ (suc n)) (sym whole) ∙ apply_add x^ (suc n) low (constant (v.coef n) · x^ n) ∙ ap₂ ◌+ᴿ◌ lower upper ∙ whole
    where
      lower : apply x^ (suc n) low ≡ low
      lower =
          apply_suc x^ n low ∙ ap₂ (λ a c. a +ᴿ constant c · x^ n) same (small.high n (omega arith))
          ∙ rw (constant_zero 𝓡) (simp ring)

      upper : apply x^ (suc n) (constant (v.coef n) · x^ n) ≡ constant (v.coef n) · x^ n
      upper =
          apply_multiple x^ (suc n) (v.coef n) (x^ n)
          ∙ ap (λ a. constant (v.coef n) · a) (apply_monomial x^ (suc n) (omega arith))

  pub apply_monomials : (n : ℕ) (v : Poly 𝓡) → Below n v → apply x^ n v ≡ v
  apply_monomials zero v h = apply_zero x^ v ∙ sym (below_zero h)
  apply_monomials (suc n) v h =
      let low : Poly 𝓡 = v +ᴿ -ᴿ (constant (v.coef n) · x^ n) in
      let small : Below n low = below_top (monic_pow_x n) v h in
      monomials_step n v low (solve (PolyRing 𝓡) 2 (λ v t. v ⊖ t ⊕ t ≈ v) tt v (constant (v.coef n) · x^ n)) small
      (apply_monomials n low small)

  -- ---- images modulo f

  pub apply_sub : (t s : ℕ → Poly 𝓡) (n : ℕ) (v : Poly 𝓡) → apply (λ i. t i +ᴿ -ᴿ s i) n v ≡ apply t n v +ᴿ -ᴿ apply s n v
  apply_sub t s zero v = rw (apply_zero (λ i. t i +ᴿ -ᴿ s i) v, apply_zero t v, apply_zero s v) (simp ring)
  apply_sub t s (suc n) v =
      rw (apply_suc (λ i. t i +ᴿ -ᴿ s i) n v, apply_suc t n v, apply_suc s n v, apply_sub t s n v)
      (solve (PolyRing 𝓡) 5 (λ a b c t s. a ⊖ b ⊕ c ⊗ (t ⊖ s) ≈ a ⊕ c ⊗ t ⊖ (b ⊕ c ⊗ s)) tt
      (apply t n v) (apply s n v) (constant (v.coef n)) (t n) (s n))

  congruent_step : (f : Poly 𝓡) (t s : ℕ → Poly 𝓡) (n : ℕ) (v : Poly 𝓡) → Congruent (PolyRing 𝓡) f (apply t n v) (apply s n v)
      → Congruent (PolyRing 𝓡) f (t n) (s n) → Congruent (PolyRing 𝓡) f (apply t (suc n) v) (apply s (suc n) v)
  congruent_step f t s n v h k =
      rw (apply_suc t n v, apply_suc s n v)
      (congruent_add (PolyRing 𝓡) h (congruent_mul (PolyRing 𝓡) (congruent_equal (PolyRing 𝓡) refl) k))

  apply_congruent : (f : Poly 𝓡) (t s : ℕ → Poly 𝓡) (n : ℕ) → ((i : ℕ) → i < n → Congruent (PolyRing 𝓡) f (t i) (s i))
      → (v : Poly 𝓡) → Congruent (PolyRing 𝓡) f (apply t n v) (apply s n v)
  apply_congruent f t s zero h v = congruent_equal (PolyRing 𝓡) (apply_zero t v ∙ sym (apply_zero s v))
  apply_congruent f t s (suc n) h v = congruent_step f t s n v (apply_congruent f t s n (λ i l. h i (omega arith)) v) (h n (omega arith))

  apply_below : {d : ℕ} (t : ℕ → Poly 𝓡) (n : ℕ) → ((i : ℕ) → i < n → Below d (t i)) → (v : Poly 𝓡) → Below d (apply t n v)
  apply_below {d} t zero h v = rw (apply_zero t v) (below_𝟎 d)
  apply_below t (suc n) h v =
      rw (apply_suc t n v) (below_add (apply_below t n (λ i l. h i (omega arith)) v) (below_constant_mul (v.coef n) (h n (omega arith))))

  -- the images t are remainders of s
  pub record Remainders (d : ℕ) (f : Poly 𝓡) (n : ℕ) (t s : ℕ → Poly 𝓡) : Type 0 where
    pub small : (i : ℕ) → i < n → Below d (t i)
    pub same : (i : ℕ) → i < n → Congruent (PolyRing 𝓡) f (t i) (s i)

  -- v goes to 𝟎 exactly where f divides what s makes of it
  module _ {d : ℕ} {f : Poly 𝓡} {n : ℕ} {t s : ℕ → Poly 𝓡} (m : Monic d f) (H : Remainders d f n t s) (v : Poly 𝓡) where
    pub kernel_divides : apply t n v ≡ 𝟎 → ◌∣◌ (PolyRing 𝓡) f (apply s n v)
    kernel_divides e =
        divides_congruent (PolyRing 𝓡) (congruent_sym (PolyRing 𝓡) (apply_congruent f t s n H.same v)) (rw e (𝟎, zero_mul (PolyRing 𝓡) f))

    pub divides_kernel : ◌∣◌ (PolyRing 𝓡) f (apply s n v) → apply t n v ≡ 𝟎
    divides_kernel h =
        congruent_unique m (apply_below t n H.small v) (below_𝟎 d)
        (congruent_trans (PolyRing 𝓡) (apply_congruent f t s n H.same v) (congruent_zero (PolyRing 𝓡) h))
