-- Reduction by rows that are images of a linear map: the invariant `Stage` of the rows, and `Reducing` of the reduction of the image of x^i by them,
-- which goes from the highest slot down and does to a preimage what it does to the image.
-- Proves that both hold at the start, and that the latter stays where a slot is done, or slots with no term are left out. Assumes nothing.
use Rattle.std.specs.Prelude.{◌≡◌, ◌⊎◌, ℕ, suc, ◌<◌, ◌≤◌}
use Rattle.std.proofs.Common.{sym, ◌∙◌, ap, inl, inr, ⊎_elim, eq-or-lt_of_le, arith}
use Rattle.std.proofs.Math.Path.{ap₂}
use Rattle.algebra.specs.Numbers.{lt_or_le}
use Rattle.algebra.specs.Ring.{CommRing, ring}
use Rattle.algebra.specs.Identities.{◌⊖◌, ◌≈◌, solve}
use Rattle.algebra.specs.PolynomialRing.{Poly, PolyRing, ◌+ᴿ◌, ◌·◌, -ᴿ◌, 𝟎, constant, poly_ext, coef_zero}
use Rattle.algebra.specs.Monomials.{x^, coef_power_low}
use Rattle.algebra.specs.Degree.{Below, Monic, below_𝟎, below_neg, below_constant_mul, monic_add, monic_pow_x}
use Rattle.frobenius.specs.LinearMaps.{apply, apply_null, apply_sub_multiple, apply_monomial}
use Rattle.frobenius.specs.Span.{less, coef_less, less_𝟎, Span, Slot, Clear, span_𝟎, span_up}

module _ {R : Type 0} {𝓡 : CommRing R} where
  -- terms of degree o to i − 1 only
  pub record Between (o i : ℕ) (v : Poly 𝓡) : Type 0 where
    pub below : Below i v
    pub base : (j : ℕ) → j < o → v.coef j ≡ 𝓡.𝟘

  -- m images, n slots
  module _ (t : ℕ → Poly 𝓡) (m n o : ℕ) where
    -- the images of x^o, .., x^(i − 1) are in the span of the rows r, and the row in each slot is the image of s there
    pub record Stage (r s : ℕ → Poly 𝓡) (i : ℕ) : Type 0 where
      pub slots : (k : ℕ) → Slot r k
      pub image : (k : ℕ) → apply t m (s k) ≡ r k
      pub preimage : (k : ℕ) → Between o i (s k)
      pub spans : (v : Poly 𝓡) → Between o i v → Span r n (apply t m v)
      pub injective : (v : Poly 𝓡) → Between o i v → apply t m v ≡ 𝟎 → v ≡ 𝟎

    -- u and w are what the image of x^i and x^i have become, reduced by the slots from k on
    pub record Reducing (r : ℕ → Poly 𝓡) (i k : ℕ) (u w : Poly 𝓡) : Type 0 where
      pub back : (y : Poly 𝓡) → Span r k (u +ᴿ -ᴿ y) → Span r n (t i +ᴿ -ᴿ y)
      pub clear : (j : ℕ) → k ≤ j → j < n → Clear r u j
      pub image : apply t m w ≡ u
      pub monic : Monic i w
      pub base : (j : ℕ) → j < o → w.coef j ≡ 𝓡.𝟘

    -- ---- no image yet

    nothing_between : (v : Poly 𝓡) → Between o o v → v ≡ 𝟎
    nothing_between v h =
        poly_ext (λ k. ⊎_elim (λ l. h.base k l) (λ l. h.below.high k l) (lt_or_le k o) ∙ sym (coef_zero 𝓡 k))

    apply_𝟎 : apply t m 𝟎 ≡ 𝟎
    apply_𝟎 = apply_null t m 𝟎 (λ j l. coef_zero 𝓡 j)

    pub stage_none : (r s : ℕ → Poly 𝓡) → ((k : ℕ) → r k ≡ 𝟎) → ((k : ℕ) → s k ≡ 𝟎) → Stage r s o
    stage_none r s hr hs = record {
      slots = λ k. inl (hr k);
      image = λ k. ap (apply t m) (hs k) ∙ apply_𝟎 ∙ sym (hr k);
      preimage = λ k. rw (hs k) (record { below = below_𝟎 o; base = λ j l. coef_zero 𝓡 j });
      spans = λ v h. rw (nothing_between v h, apply_𝟎) (span_𝟎 r n);
      injective = λ v h e. nothing_between v h;
    }

    -- ---- the reduction

    module _ {r : ℕ → Poly 𝓡} {i : ℕ} where
      pub reducing_none : o ≤ i → i < m → Reducing r i n (t i) (x^ i)
      reducing_none l k = record {
        back = λ y h. h;
        clear = λ j h g. absurd (omega arith);
        image = apply_monomial t m k;
        monic = monic_pow_x i;
        base = λ j h. coef_power_low 𝓡 i j (omega arith);
      }

      pub reducing_more : {s : ℕ → Poly 𝓡} {k : ℕ} {u w : Poly 𝓡} → Stage r s i → Reducing r i (suc k) u w
          → Reducing r i k (less u (u.coef k) (r k)) (less w (u.coef k) (s k))
      unfolding Span
      reducing_more {s} {k} {u} {w} S D = record {
        back = λ y h. D.back y (u.coef k, rw (swap y) h);
        clear = λ j l g mj. at j mj (eq-or-lt_of_le l) (λ q. D.clear j q g mj);
        image = apply_sub_multiple t m w (u.coef k) (s k) ∙ ap₂ (λ a b. less a (u.coef k) b) D.image (S.image k);
        monic = monic_add D.monic (below_neg (below_constant_mul (u.coef k) (S.preimage k).below));
        base = λ j l. coef_less w (u.coef k) (s k) j ∙ rw (D.base j l, (S.preimage k).base j l) (simp ring);
      }
        where
          swap : (y : Poly 𝓡) → less (u +ᴿ -ᴿ y) (u.coef k) (r k) ≡ less u (u.coef k) (r k) +ᴿ -ᴿ y
          swap y = solve (PolyRing 𝓡) 3 (λ u y a. u ⊖ y ⊖ a ≈ u ⊖ a ⊖ y) tt u y (constant (u.coef k) · r k)

          above : (j : ℕ) → k < j → Slot r k → (less u (u.coef k) (r k)).coef j ≡ u.coef j
          above j l (inl e) = ap (λ a. (less u (u.coef k) a).coef j) e ∙ ap (λ a. a.coef j) (less_𝟎 u (u.coef k))
          above j l (inr mk) = coef_less u (u.coef k) (r k) j ∙ rw (mk.below.high j l) (simp ring)

          at : (j : ℕ) → Monic j (r j) → (k ≡ j) ⊎ (k < j) → (k < j → u.coef j ≡ 𝓡.𝟘) → (less u (u.coef k) (r k)).coef j ≡ 𝓡.𝟘
          at j mj (inl e) f = rw e (coef_less u (u.coef j) (r j) j ∙ rw mj.leading (simp ring))
          at j mj (inr l) f = above j l (S.slots k) ∙ f l

      -- where no term is left from k on, nothing is left to take off there
      pub reducing_down : {k l : ℕ} {u w : Poly 𝓡} → k ≤ l → Below k u → Reducing r i l u w → Reducing r i k u w
      reducing_down {k} {l} {u} h small D = record {
        back = λ y g. D.back y (span_up r l k (u +ᴿ -ᴿ y) h g);
        clear = λ j g f m. small.high j g;
        image = D.image;
        monic = D.monic;
        base = D.base;
      }
