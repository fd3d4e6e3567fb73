-- Degrees of polynomials: `Below d a`, a has no term of degree d or more; `Monic d a`, a is x^d plus lower terms.
-- Proves how sums, products and multiples by monic polynomials behave. Assumes nothing.
use Rattle.std.specs.Prelude.{◌≡◌, ◌⊎◌}
use Rattle.std.proofs.Math.Path.{refl}
use Rattle.std.proofs.Common.{sym, ◌∙◌, ap, ap₂, inl, inr, suc-add, suc-mul, zero-mul, add_comm, mul-one as mul-oneℕ, eq-or-lt_of_le, arith}
use Rattle.std.proofs.Math.Logic.{∥∥₁_elim}
use Prim.Native.Nat.{ℕ, zero, suc, ◌≤◌, ◌<◌, ◌+◌, ◌*◌}
use Rattle.algebra.specs.Ring.{CommRing, add_zero, mul_zero, mul_one, neg_zero}
use Rattle.algebra.specs.Divisibility.{pow, pow_zero, pow_suc}
use Rattle.algebra.specs.Series.{single, ends_⊠, top_⊠}
use Rattle.algebra.specs.PolynomialRing.{
  Poly,
  PolyRing,
  ◌+ᴿ◌,
  ◌·◌,
  -ᴿ◌,
  𝟎,
  𝟏,
  x,
  constant,
  tail,
  poly_ext,
  coef_add,
  coef_neg,
  coef_zero,
  coef_constant_mul,
  coef_constant_zero,
  coef_constant_suc,
  coef_x_mul_suc,
  coef_tail,
  constant_one,
}

module _ {R : Type 0} {𝓡 : CommRing R} where
  -- no term of degree d or more
  pub record Below (d : ℕ) (a : Poly 𝓡) : Type 0 where
    pub high : (k : ℕ) → d ≤ k → a.coef k ≡ 𝓡.𝟘

  -- x^d plus lower terms
  pub record Monic (d : ℕ) (a : Poly 𝓡) : Type 0 where
    pub leading : a.coef d ≡ 𝓡.𝟙
    pub below : Below (suc d) a

  -- ---- sums and products

  pub below_up : {d e : ℕ} {a : Poly 𝓡} → d ≤ e → Below d a → Below e a
  below_up l h = record { high = λ k m. h.high k (omega arith) }

  pub below_add : {d : ℕ} {a b : Poly 𝓡} → Below d a → Below d b → Below d (a +ᴿ b)
  below_add {a = a} {b} h g = record {
    high = λ k m. coef_add a b k ∙ ap₂ 𝓡.add (h.high k m) (g.high k m) ∙ 𝓡.+_zero 𝓡.𝟘;
  }

  pub below_neg : {d : ℕ} {a : Poly 𝓡} → Below d a → Below d (-ᴿ a)
  below_neg {a = a} h = record { high = λ k m. coef_neg a k ∙ ap 𝓡.neg (h.high k m) ∙ neg_zero 𝓡 }

  pub below_zero : {a : Poly 𝓡} → Below 0 a → a ≡ 𝟎
  below_zero h = poly_ext (λ k. h.high k (omega arith) ∙ sym (coef_zero 𝓡 k))

  pub below_tail : {d : ℕ} {a : Poly 𝓡} → Below (suc d) a → Below d (tail a)
  below_tail {a = a} h = record { high = λ k m. coef_tail a k ∙ h.high (suc k) (omega arith) }

  pub below_x_mul : {d : ℕ} {a : Poly 𝓡} → Below d a → Below (suc d) (x · a)
  below_x_mul {d} {a} h = record { high = at }
    where
      at : (k : ℕ) → suc d ≤ k → (x · a).coef k ≡ 𝓡.𝟘
      at zero m = absurd (omega arith)
      at (suc k) m = coef_x_mul_suc a k ∙ h.high k (omega arith)

  pub below_constant_mul : {d : ℕ} {a : Poly 𝓡} (c : R) → Below d a → Below d (constant c · a)
  below_constant_mul {a = a} c h = record { high = λ k m. coef_constant_mul c a k ∙ ap (𝓡.mul c) (h.high k m) ∙ mul_zero 𝓡 c }

  pub below_mul : {d e : ℕ} {a b : Poly 𝓡} → Below d a → Below (suc e) b → Below (d + e) (a · b)
  below_mul {d} {e} {a} {b} h g = record { high = unfold PolyRing in ends_⊠ 𝓡 d e a.coef b.coef h.high g.high }

  pub coef_top : {d e : ℕ} {a b : Poly 𝓡} → Below (suc d) a → Below (suc e) b
      → (a · b).coef (d + e) ≡ 𝓡.mul (a.coef d) (b.coef e)
  coef_top {d} {e} {a} {b} h g = unfold PolyRing in top_⊠ 𝓡 d e a.coef b.coef h.high g.high

  pub monic_mul_lem : {d e : ℕ} {a b : Poly 𝓡} → Monic d a → Monic e b → Monic (d + e) (a · b)
  monic_mul_lem {d} {e} m n = record {
    leading = coef_top m.below n.below ∙ ap₂ 𝓡.mul m.leading n.leading ∙ 𝓡.*_one 𝓡.𝟙;
    below = rw (← suc-add d e) (below_mul m.below n.below);
  }

  pub monic_add : {d : ℕ} {a b : Poly 𝓡} → Monic d a → Below d b → Monic d (a +ᴿ b)
  monic_add {d} {a} {b} m h = record {
    leading = coef_add a b d ∙ ap₂ 𝓡.add m.leading (h.high d (omega arith)) ∙ add_zero 𝓡 𝓡.𝟙;
    below = below_add m.below (below_up (omega arith) h);
  }

  -- ---- a monic polynomial cancels

  -- the top term may be left out where it is 𝟘
  pub below_down : {d : ℕ} {a : Poly 𝓡} → Below (suc d) a → a.coef d ≡ 𝓡.𝟘 → Below d a
  below_down {d} {a} h e = record { high = λ k l. at k (eq-or-lt_of_le l) }
    where
      at : (k : ℕ) → (d ≡ k) ⊎ (d < k) → a.coef k ≡ 𝓡.𝟘
      at k (inl p) = rw (← p) e
      at k (inr m) = h.high k m

  pub below_prop : {d : ℕ} {a : Poly 𝓡} → IsProp (Below d a)
  below_prop h g = λ i. record { high = λ k l. 𝓡.is_set _ _ (h.high k l) (g.high k l) i }

  below_factor_from : {d : ℕ} {g : Poly 𝓡} → Monic d g → (n m : ℕ) (q : Poly 𝓡) → Below (n + m) q → Below (n + d) (q · g) → Below n q
  below_factor_from mg n zero q h s = below_up (omega arith) h
  below_factor_from {d} {g} mg n (suc m) q h s = below_factor_from mg n m q (below_down up top) s
    where
      up : Below (suc (n + m)) q
      up = below_up (omega arith) h

      top : q.coef (n + m) ≡ 𝓡.𝟘
      top =
          sym (mul_one 𝓡 (q.coef (n + m))) ∙ ap (𝓡.mul (q.coef (n + m))) (sym mg.leading)
          ∙ sym (coef_top up mg.below) ∙ s.high (n + m + d) (omega arith)

  -- a factor of a multiple of a monic polynomial of degree d is d degrees lower
  pub below_factor : {d : ℕ} {g : Poly 𝓡} → Monic d g → (n : ℕ) (q : Poly 𝓡) → Below (n + d) (q · g) → Below n q
  below_factor mg n q s =
      ∥∥₁_elim q.bounded below_prop
      (λ b. below_factor_from mg n b.0 q (record { high = λ k l. b.1 k (omega arith) }) s)

  -- only 𝟎 has a multiple by a monic polynomial that is of lower degree
  pub small_multiple : {d : ℕ} {g : Poly 𝓡} → Monic d g → (q : Poly 𝓡) → Below d (q · g) → q ≡ 𝟎
  small_multiple {d} mg q s = below_zero (below_factor mg 0 q (below_up (omega arith) s))

  pub below_𝟎 : (d : ℕ) → Below d 𝟎
  below_𝟎 d = record { high = λ k l. coef_zero 𝓡 k }

  pub monic_cancel : {d : ℕ} {g : Poly 𝓡} → Monic d g → (q : Poly 𝓡) → q · g ≡ 𝟎 → q ≡ 𝟎
  monic_cancel {d} mg q e = small_multiple mg q (rw e (below_𝟎 d))

  -- ---- degree 0

  pub below_constant : (c : R) → Below 1 (constant c)
  below_constant c = record { high = at }
    where
      at : (k : ℕ) → 1 ≤ k → (constant {𝓡 = 𝓡} c).coef k ≡ 𝓡.𝟘
      at zero l = absurd (omega arith)
      at (suc k) l = coef_constant_suc 𝓡 c k

  pub monic_one_lem : Monic 0 𝟏
  monic_one_lem = rw (← constant_one 𝓡) (record { leading = coef_constant_zero 𝓡 𝓡.𝟙; below = below_constant 𝓡.𝟙 })

  -- what is of degree 0 at most is constant
  pub below_one : {a : Poly 𝓡} → Below 1 a → a ≡ constant (a.coef 0)
  below_one {a} h = poly_ext at
    where
      at : (k : ℕ) → a.coef k ≡ (constant {𝓡 = 𝓡} (a.coef 0)).coef k
      at zero = sym (coef_constant_zero 𝓡 (a.coef 0))
      at (suc k) = h.high (suc k) (omega arith) ∙ sym (coef_constant_suc 𝓡 (a.coef 0) k)

  -- the only monic polynomial of degree 0 is 𝟏
  pub monic_zero : {a : Poly 𝓡} → Monic 0 a → a ≡ 𝟏
  monic_zero m = below_one m.below ∙ ap constant m.leading ∙ constant_one 𝓡

  -- ---- powers

  pub monic_x : Monic 1 x
  monic_x = record { leading = unfold x single in refl; below = record { high = at } }
    where
      at : (k : ℕ) → 2 ≤ k → (x {𝓡 = 𝓡}).coef k ≡ 𝓡.𝟘
      at zero l = absurd (omega arith)
      at (suc zero) l = absurd (omega arith)
      at (suc (suc k)) l = unfold x single in refl

  pub monic_pow : {d : ℕ} {g : Poly 𝓡} → Monic d g → (k : ℕ) → Monic (k * d) (pow (PolyRing 𝓡) g k)
  monic_pow {d} {g} m zero = rw (pow_zero (PolyRing 𝓡) g, zero-mul d) monic_one_lem
  monic_pow {d} {g} m (suc k) = rw (pow_suc (PolyRing 𝓡) g k, suc-mul k d, add_comm (k * d) d) (monic_mul_lem m (monic_pow m k))

  pub below_pow : {d : ℕ} {g : Poly 𝓡} → Below (suc d) g → (k : ℕ) → Below (suc (k * d)) (pow (PolyRing 𝓡) g k)
  below_pow {d} {g} h zero = rw (pow_zero (PolyRing 𝓡) g, zero-mul d) monic_one_lem.below
  below_pow {d} {g} h (suc k) =
      rw (pow_suc (PolyRing 𝓡) g k) (below_up (let e : suc d + k * d ≤ suc (suc k * d) = omega arith in e) (below_mul h (below_pow h k)))

  pub monic_pow_x : (k : ℕ) → Monic k (pow (PolyRing 𝓡) x k)
  monic_pow_x k = rw (mul-oneℕ k) at (monic_pow monic_x k)
