-- Sequences of coefficients over a commutative ring: sum, product, and where a sequence ends.
-- Proves the laws of the product, entry by entry. Polynomials are built of these in Polynomials. Assumes nothing.
use Rattle.std.specs.Prelude.{◌≡◌}
use Rattle.std.proofs.Math.Path.{refl, fun_ext}
use Rattle.std.proofs.Common.{sym, ◌∙◌, ap, ap₂, suc-add, zero-add as zero-addℕ, arith}
use Prim.Native.Nat.{ℕ, zero, suc, ◌≤◌, ◌+◌}
use Rattle.algebra.specs.Ring.{CommRing, ring, add_zero, add_left_comm, neg_zero}

abbrev pub tail : {R : Type 0} → (ℕ → R) → ℕ → R
tail a k = a (suc k)

module _ {R : Type 0} (𝓡 : CommRing R) where
  infixl 60 ◌+ᴿ◌ ◌⊞◌
  infixl 70 ◌*ᴿ◌ ◌⊠◌
  open 𝓡 use {add as ◌+ᴿ◌, mul as ◌*ᴿ◌, neg, 𝟘, 𝟙}

  abbrev pub ◌⊞◌ : (ℕ → R) → (ℕ → R) → ℕ → R
  ◌⊞◌ a b k = a k +ᴿ b k

  abbrev scale : R → (ℕ → R) → ℕ → R
  scale c a k = c *ᴿ a k

  unfoldable pub ◌⊠◌ : (ℕ → R) → (ℕ → R) → ℕ → R
  ◌⊠◌ a b zero = a 0 *ᴿ b 0
  ◌⊠◌ a b (suc k) = a 0 *ᴿ b (suc k) +ᴿ (tail a ⊠ b) k

  -- c, 𝟘, 𝟘, ..
  unfoldable pub single : R → ℕ → R
  single c zero = c
  single c (suc k) = 𝟘

  pub ⊠_zero : (a b : ℕ → R) → (a ⊠ b) 0 ≡ a 0 *ᴿ b 0
  unfolding ◌⊠◌
  ⊠_zero a b = refl

  pub ⊠_suc : (a b : ℕ → R) (k : ℕ) → (a ⊠ b) (suc k) ≡ a 0 *ᴿ b (suc k) +ᴿ (tail a ⊠ b) k
  unfolding ◌⊠◌
  ⊠_suc a b k = refl

  -- the same from the other side
  ⊠_suc_right : (a b : ℕ → R) (k : ℕ) → (a ⊠ b) (suc k) ≡ a (suc k) *ᴿ b 0 +ᴿ (a ⊠ tail b) k
  ⊠_suc_right a b zero = rw (⊠_suc a b 0, ⊠_zero (tail a) b, ⊠_zero a (tail b)) (𝓡.+_comm (a 0 *ᴿ b 1) (a 1 *ᴿ b 0))
  ⊠_suc_right a b (suc k) =
      ⊠_suc a b (suc k)
      ∙ ap (λ z. a 0 *ᴿ b (suc (suc k)) +ᴿ z) (⊠_suc_right (tail a) b k)
      ∙ add_left_comm 𝓡 (a 0 *ᴿ b (suc (suc k))) (a (suc (suc k)) *ᴿ b 0) ((tail a ⊠ tail b) k)
      ∙ ap (λ z. a (suc (suc k)) *ᴿ b 0 +ᴿ z) (sym (⊠_suc a (tail b) k))

  pub ⊠_comm : (a b : ℕ → R) (k : ℕ) → (a ⊠ b) k ≡ (b ⊠ a) k
  ⊠_comm a b zero = rw (⊠_zero a b, ⊠_zero b a, 𝓡.*_comm (a 0) (b 0))
  ⊠_comm a b (suc k) = rw (⊠_suc a b, ⊠_suc_right b a, ⊠_comm (tail a) b k, 𝓡.*_comm (a 0) (b (suc k)))

  pub ⊞_⊠ : (a b c : ℕ → R) (k : ℕ) → ((a ⊞ b) ⊠ c) k ≡ (a ⊠ c) k +ᴿ (b ⊠ c) k
  ⊞_⊠ a b c zero = simp (⊠_zero, ring)
  ⊞_⊠ a b c (suc k) = simp (⊠_suc, ring, ⊞_⊠ (tail a) (tail b) c k)

  scale_⊠ : (s : R) (a b : ℕ → R) (k : ℕ) → (scale s a ⊠ b) k ≡ s *ᴿ (a ⊠ b) k
  scale_⊠ s a b zero = simp (⊠_zero, ring)
  scale_⊠ s a b (suc k) = simp (⊠_suc, ring, scale_⊠ s (tail a) b k)

  tail_⊠ : (a b : ℕ → R) → tail (a ⊠ b) ≡ scale (a 0) (tail b) ⊞ (tail a ⊠ b)
  tail_⊠ a b = fun_ext (⊠_suc a b)

  pub ⊠_assoc : (a b c : ℕ → R) (k : ℕ) → ((a ⊠ b) ⊠ c) k ≡ (a ⊠ (b ⊠ c)) k
  ⊠_assoc a b c zero = simp (⊠_zero, ring)
  ⊠_assoc a b c (suc k) =
      ⊠_suc (a ⊠ b) c k
      ∙ ap (λ z. (a ⊠ b) 0 *ᴿ c (suc k) +ᴿ (z ⊠ c) k) (tail_⊠ a b)
      ∙ simp (⊞_⊠, scale_⊠, ⊠_assoc (tail a) b c k, ⊠_zero, ⊠_suc a (b ⊠ c), ⊠_suc b c, ring)

  zero_⊠ : (a : ℕ → R) (k : ℕ) → ((λ j. 𝟘) ⊠ a) k ≡ 𝟘
  zero_⊠ a zero = simp (⊠_zero, ring)
  zero_⊠ a (suc k) = simp (⊠_suc, ring, zero_⊠ a k)

  pub single_⊠ : (c : R) (a : ℕ → R) (k : ℕ) → (single c ⊠ a) k ≡ c *ᴿ a k
  unfolding single
  single_⊠ c a zero = ⊠_zero (single c) a
  single_⊠ c a (suc k) = simp (⊠_suc, zero_⊠, add_zero)

  -- ---- where a sequence ends

  -- 𝟘 from d on
  abbrev pub Ends : ℕ → (ℕ → R) → Type 0
  Ends d a = (k : ℕ) → d ≤ k → a k ≡ 𝟘

  pub ends_⊞ : {d e : ℕ} {a b : ℕ → R} → Ends d a → Ends e b → Ends (d + e) (a ⊞ b)
  ends_⊞ h g k l = ap₂ ◌+ᴿ◌ (h k (omega arith)) (g k (omega arith)) ∙ 𝓡.+_zero 𝟘

  pub ends_neg : {d : ℕ} {a : ℕ → R} → Ends d a → Ends d (λ k. neg (a k))
  ends_neg h k l = ap neg (h k l) ∙ neg_zero 𝓡

  pub ends_single : (c : R) → Ends 1 (single c)
  unfolding single
  ends_single c zero l = absurd (omega arith)
  ends_single c (suc k) l = refl

  nothing_⊠ : (a b : ℕ → R) → Ends 0 a → (k : ℕ) → (a ⊠ b) k ≡ 𝟘
  nothing_⊠ a b h zero = simp (⊠_zero, h 0 (omega arith), ring)
  nothing_⊠ a b h (suc k) = simp (⊠_suc, h 0 (omega arith), nothing_⊠ (tail a) b (λ j _. h (suc j) (omega arith)) k, ring)

  pub ends_⊠ : (d e : ℕ) (a b : ℕ → R) → Ends d a → Ends (suc e) b → Ends (d + e) (a ⊠ b)
  ends_⊠ zero e a b ha hb k l = nothing_⊠ a b ha k
  ends_⊠ (suc d) e a b ha hb zero l = absurd (omega arith)
  ends_⊠ (suc d) e a b ha hb (suc k) l =
      simp (⊠_suc, hb (suc k) (omega arith), ends_⊠ d e (tail a) b (λ j m. ha (suc j) (omega arith)) hb k (omega arith), ring)

  -- the highest entry of a product
  pub top_⊠ : (d e : ℕ) (a b : ℕ → R) → Ends (suc d) a → Ends (suc e) b → (a ⊠ b) (d + e) ≡ a d *ᴿ b e
  top_⊠ zero zero a b ha hb = ⊠_zero a b
  top_⊠ zero (suc e) a b ha hb =
      rw (zero-addℕ, ⊠_suc a b, nothing_⊠ (tail a) b (λ j m. ha (suc j) (omega arith)) e) (add_zero 𝓡 (a 0 *ᴿ b (suc e)))
  top_⊠ (suc d) e a b ha hb =
      rw (suc-add, ⊠_suc a b, hb (suc (d + e)) (omega arith), top_⊠ d e (tail a) b (λ j m. ha (suc j) (omega arith)) hb) (simp ring)
