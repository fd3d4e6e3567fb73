-- Proves that a y in the span of rows in slots that is 𝟘 at the degree of every row from k on has terms below k only. Assumes nothing.
use Rattle.std.specs.Prelude.{◌≡◌, ◌⊎◌}
use Rattle.std.proofs.Math.Path.{ap}
use Rattle.std.proofs.Common.{sym, ◌∙◌, inl, inr, eq-or-lt_of_le}
use Prim.Native.Nat.{ℕ, zero, suc, ◌≤◌, ◌<◌}
use native.Mathlib.Omega.{arith}
use Rattle.algebra.specs.Ring.{CommRing, ring, neg_zero, neg_neg}
use Rattle.algebra.specs.Identities.{◌⊕◌, ◌⊖◌, ◌≈◌, solve}
use Rattle.algebra.specs.PolynomialRing.{Poly, PolyRing, ◌·◌, constant}
use Rattle.algebra.specs.Degree.{Below, below_𝟎, below_up, below_add, below_constant_mul}
use Rattle.frobenius.specs.Span.{less, coef_less, less_𝟎, less_𝟘, Span, Slot, Clear, row_below}

module _ {R : Type 0} {𝓡 : CommRing R} where
  infixl 60 ◌∔◌
  infixl 70 ◌*ᴿ◌
  open 𝓡 use {add as ◌∔◌, mul as ◌*ᴿ◌, neg, 𝟘, 𝟙}

  module _ (r : ℕ → Poly 𝓡) where
    module _ (slots : (k : ℕ) → Slot r k) where
      span_below : (n : ℕ) (y : Poly 𝓡) → Span r n y → Below n y
      unfolding Span
      span_below zero y e = rw e (below_𝟎 0)
      span_below (suc n) y (c, h) =
          rw (solve (PolyRing 𝓡) 2 (λ y a. y ≈ y ⊖ a ⊕ a) tt y (constant c · r n))
          (below_add (below_up (omega arith) (span_below n (less y c (r n)) h)) (below_constant_mul c (row_below r slots n)))

      -- in the span, and 𝟘 at the degree of every row from k on
      pub span_clear : (k n : ℕ) (y : Poly 𝓡) → k ≤ n → Span r n y → ((j : ℕ) → k ≤ j → j < n → Clear r y j) → Below k y
      unfolding Span
      span_clear k zero y l e h = rw e (below_𝟎 k)
      span_clear k (suc n) y l (c, s) h = go (eq-or-lt_of_le l) (λ m. span_clear k n y m (rw (same m (slots n)) at s) (λ j g f. h j g (omega arith)))
        where
          go : (k ≡ suc n) ⊎ (k < suc n) → (k ≤ n → Below k y) → Below k y
          go (inl e) f = rw e (span_below (suc n) y (c, s))
          go (inr m) f = f (omega arith)

          same : k ≤ n → Slot r n → less y c (r n) ≡ y
          same f (inl e) = ap (less y c) e ∙ less_𝟎 y c
          same f (inr m) = ap (λ d. less y d (r n)) none ∙ less_𝟘 y (r n)
            where
              top : (less y c (r n)).coef n ≡ neg c
              top = coef_less y c (r n) n ∙ rw (h n f (omega arith) m, m.leading) (simp ring)

              none : c ≡ 𝟘
              none =
                  sym (neg_neg 𝓡 c) ∙ ap neg (sym top ∙ (span_below n (less y c (r n)) s).high n (omega arith)) ∙ neg_zero 𝓡
