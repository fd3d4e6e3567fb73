-- Rows in slots: slot k is free (𝟎) or holds a monic polynomial of degree k. `Span r n y`: y is a combination of the rows below slot n.
-- Proves that spans are closed under sums and multiples, and that what a free slot takes in does not make the span smaller. Assumes nothing.
use Rattle.std.specs.Prelude.{◌≡◌, ◌⊎◌, ◌≢◌}
use Rattle.std.proofs.Math.Path.{refl, ap, ap₂}
use Rattle.std.proofs.Common.{◌∙◌, inl, inr, ⊎_elim, eq-or-lt_of_le}
use Prim.Native.Nat.{ℕ, zero, suc, ◌≤◌, ◌<◌}
use Rattle.std.proofs.Math.Decide.{ℕ_discrete}
use native.Mathlib.Omega.{arith}
use Rattle.algebra.specs.Ring.{CommRing, mul_zero}
use Rattle.algebra.specs.Identities.{con, ◌⊕◌, ◌⊖◌, ◌⊗◌, ◌≈◌, solve}
use Rattle.algebra.specs.PolynomialRing.{
  Poly,
  PolyRing,
  ◌+ᴿ◌,
  ◌·◌,
  -ᴿ◌,
  𝟎,
  constant,
  coef_add,
  coef_neg,
  coef_constant_mul,
  constant_zero,
  constant_one,
  constant_add,
  constant_mul,
}
use Rattle.algebra.specs.Degree.{Below, Monic, below_𝟎}

module _ {R : Type 0} {𝓡 : CommRing R} where
  infixl 60 ◌∔◌
  infixl 70 ◌*ᴿ◌
  open 𝓡 use {add as ◌∔◌, mul as ◌*ᴿ◌, neg, 𝟘, 𝟙}

  -- y − c·a
  abbrev pub less : Poly 𝓡 → R → Poly 𝓡 → Poly 𝓡
  less y c a = y +ᴿ -ᴿ (constant c · a)

  pub coef_less : (y : Poly 𝓡) (c : R) (a : Poly 𝓡) (k : ℕ) → (less y c a).coef k ≡ y.coef k ∔ neg (c *ᴿ a.coef k)
  coef_less y c a k = simp (coef_add, coef_neg, coef_constant_mul)

  pub less_𝟎 : (y : Poly 𝓡) (c : R) → less y c 𝟎 ≡ y
  less_𝟎 y c = solve (PolyRing 𝓡) 2 (λ y c. y ⊖ c ⊗ con 0 ≈ y) tt y (constant c)

  pub less_𝟘 : (y a : Poly 𝓡) → less y 𝟘 a ≡ y
  less_𝟘 y a = rw (constant_zero 𝓡) (solve (PolyRing 𝓡) 2 (λ y a. y ⊖ con 0 ⊗ a ≈ y) tt y a)

  unfoldable pub Span : (ℕ → Poly 𝓡) → ℕ → Poly 𝓡 → Type 0
  Span r zero y = y ≡ 𝟎
  Span r (suc n) y = (c : R) × Span r n (less y c (r n))

  abbrev pub Slot : (ℕ → Poly 𝓡) → ℕ → Type 0
  Slot r k = (r k ≡ 𝟎) ⊎ Monic k (r k)

  -- no term at the degree of a row
  abbrev pub Clear : (ℕ → Poly 𝓡) → Poly 𝓡 → ℕ → Type 0
  Clear r y k = Monic k (r k) → y.coef k ≡ 𝟘

  module _ (r : ℕ → Poly 𝓡) where
    pub span_𝟎 : (n : ℕ) → Span r n 𝟎
    unfolding Span
    span_𝟎 zero = refl
    span_𝟎 (suc n) = (𝟘, rw (less_𝟘 𝟎 (r n)) (span_𝟎 n))

    -- more rows span no less
    pub span_up : (n k : ℕ) (y : Poly 𝓡) → k ≤ n → Span r k y → Span r n y
    unfolding Span
    span_up zero k y l h = rw (let e : k ≡ 0 = omega arith in e) at h
    span_up (suc n) k y l h = go (eq-or-lt_of_le l) (λ m. span_up n k y m h)
      where
        go : (k ≡ suc n) ⊎ (k < suc n) → (k ≤ n → Span r n y) → (c : R) × Span r n (less y c (r n))
        go (inl e) f = rw e at h
        go (inr m) f = (𝟘, rw (less_𝟘 y (r n)) (f (omega arith)))

    pub span_add : (n : ℕ) (y z : Poly 𝓡) → Span r n y → Span r n z → Span r n (y +ᴿ z)
    unfolding Span
    span_add zero y z e f = ap₂ ◌+ᴿ◌ e f ∙ (PolyRing 𝓡).+_zero 𝟎
    span_add (suc n) y z (c, h) (d, k) = (c ∔ d, rw step (span_add n (less y c (r n)) (less z d (r n)) h k))
      where
        step : less (y +ᴿ z) (c ∔ d) (r n) ≡ less y c (r n) +ᴿ less z d (r n)
        step =
            rw (constant_add c d)
            (solve (PolyRing 𝓡) 5 (λ y z c d r. y ⊕ z ⊖ (c ⊕ d) ⊗ r ≈ y ⊖ c ⊗ r ⊕ (z ⊖ d ⊗ r)) tt y z (constant c) (constant d) (r n))

    pub span_multiple : (n : ℕ) (s : R) (y : Poly 𝓡) → Span r n y → Span r n (constant s · y)
    unfolding Span
    span_multiple zero s y e = ap (λ a. constant s · a) e ∙ mul_zero (PolyRing 𝓡) (constant s)
    span_multiple (suc n) s y (c, h) = (s *ᴿ c, rw step (span_multiple n s (less y c (r n)) h))
      where
        step : less (constant s · y) (s *ᴿ c) (r n) ≡ constant s · less y c (r n)
        step =
            rw (constant_mul s c)
            (solve (PolyRing 𝓡) 4 (λ s y c r. s ⊗ y ⊖ s ⊗ c ⊗ r ≈ s ⊗ (y ⊖ c ⊗ r)) tt (constant s) y (constant c) (r n))

    pub span_row : (n k : ℕ) → k < n → Span r n (r k)
    unfolding Span
    span_row zero k l = absurd (omega arith)
    span_row (suc n) k l = go (eq-or-lt_of_le l) (span_row n k)
      where
        go : (suc k ≡ suc n) ⊎ (suc k < suc n) → (k < n → Span r n (r k)) → (c : R) × Span r n (less (r k) c (r n))
        go (inl e) f = let s : k ≡ n = omega arith in (𝟙, rw (s, own (r n)) (span_𝟎 n))
          where
            own : (a : Poly 𝓡) → less a 𝟙 a ≡ 𝟎
            own a = rw (constant_one 𝓡) (solve (PolyRing 𝓡) 1 (λ a. a ⊖ con 1 ⊗ a ≈ con 0) tt a)
        go (inr h) f = (𝟘, rw (less_𝟘 (r k) (r n)) (f (omega arith)))

    module _ (slots : (k : ℕ) → Slot r k) where
      pub row_below : (k : ℕ) → Below (suc k) (r k)
      row_below k = ⊎_elim (λ e. rw e (below_𝟎 (suc k))) (λ m. m.below) (slots k)

  -- a free slot takes in a row
  pub span_insert : (r r' : ℕ → Poly 𝓡) (k : ℕ) → r k ≡ 𝟎 → ((j : ℕ) → j ≢ k → r' j ≡ r j) → (n : ℕ) (y : Poly 𝓡) → Span r n y → Span r' n y
  unfolding Span
  span_insert r r' k free other zero y e = e
  span_insert r r' k free other (suc n) y (c, h) = go (ℕ_discrete n k) (span_insert r r' k free other n (less y c (r n)) h)
    where
      go : Dec (n ≡ k) → Span r' n (less y c (r n)) → (d : R) × Span r' n (less y d (r' n))
      go (yes e) s = (𝟘, rw (less_𝟘 y (r' n)) (rw (ap (less y c) (ap r e ∙ free) ∙ less_𝟎 y c) at s))
      go (no ne) s = (c, rw (other n ne) s)
