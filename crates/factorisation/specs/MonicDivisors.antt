-- Monic polynomials as divisors, over any commutative ring with 𝟙 ≢ 𝟘.
-- Proves that a polynomial is monic of one degree only, that a monic divisor has at most the degree of what it divides, that monic
-- polynomials that divide each other are equal, so that they are a choice among associates. Assumes nothing.
use Rattle.std.specs.Prelude.{◌≡◌, ◌≢◌, ℕ, ◌≤◌, ◌<◌, ◌+◌}
use Rattle.std.proofs.Common.{sym, ◌∙◌, ap, ap₂, ⊎_elim, le_antisymm, arith}
use Rattle.algebra.specs.Numbers.{lt_or_le}
use Rattle.algebra.specs.Ring.{CommRing, zero_mul, add_neg, eq_of_sub, linear1}
use Rattle.algebra.specs.Identities.{con, ◌⊕◌, ◌⊖◌, ◌⊗◌, ◌≈◌, solve}
use Rattle.algebra.specs.Divisibility.{◌∣◌, divides_refl}
use Rattle.algebra.specs.PolynomialRing.{Poly, PolyRing, ◌+ᴿ◌, ◌·◌, -ᴿ◌, 𝟎, 𝟏, coef_add, coef_neg}
use Rattle.algebra.specs.Degree.{Below, Monic, below_up, below_add, below_neg, below_down, below_𝟎, small_multiple, monic_one_lem, monic_mul_lem}
use Rattle.algebra.specs.Division.{divided_unique}
use Rattle.factorisation.specs.Monics.{Monics}

module _ {R : Type 0} {𝓡 : CommRing R} where
  -- monic of some degree
  abbrev pub IsMonic : Poly 𝓡 → Type 0
  IsMonic a = (d : ℕ) × Monic d a

  pub monic_difference : {d : ℕ} {a b : Poly 𝓡} → Monic d a → Monic d b → Below d (a +ᴿ -ᴿ b)
  monic_difference {d} {a} {b} m n = below_down (below_add m.below (below_neg n.below)) top
    where
      top : (a +ᴿ -ᴿ b).coef d ≡ 𝓡.𝟘
      top =
          coef_add a (-ᴿ b) d
          ∙ ap₂ 𝓡.add m.leading (coef_neg b d ∙ ap 𝓡.neg n.leading) ∙ add_neg 𝓡 𝓡.𝟙

  pub monic_cancel_eq : {d : ℕ} {g : Poly 𝓡} → Monic d g → {a b : Poly 𝓡} → a · g ≡ b · g → a ≡ b
  monic_cancel_eq {d} m {a} {b} e = (divided_unique m a 𝟎 b 𝟎 (below_𝟎 d) (below_𝟎 d) (ap (λ z. z +ᴿ 𝟎) e)).0

  -- a monic divisor of what has d terms, other than 𝟎, is of degree below d
  pub divisor_below : {d e : ℕ} {a g : Poly 𝓡} → Below d a → a ≢ 𝟎 → Monic e g → ◌∣◌ (PolyRing 𝓡) g a → e < d
  divisor_below {d} {e} {a} {g} b n m (q, h) = ⊎_elim (λ l. l) (λ l. absurd (n (zero l))) (lt_or_le e d)
    where
      zero : d ≤ e → a ≡ 𝟎
      zero l = sym h ∙ ap (λ c. c · g) (small_multiple m q (rw h (below_up l b))) ∙ zero_mul (PolyRing 𝓡) g

  module _ (nontrivial : 𝓡.𝟙 ≢ 𝓡.𝟘) where
    monic_not_below : {d : ℕ} {a : Poly 𝓡} → Monic d a → Below d a → ⊥
    monic_not_below {d} m h = nontrivial (sym m.leading ∙ h.high d (omega arith))

    pub monic_nonzero : {d : ℕ} {a : Poly 𝓡} → Monic d a → a ≢ 𝟎
    monic_nonzero {d} m e = monic_not_below m (rw e (below_𝟎 d))

    pub divisor_degree : {d e : ℕ} {a b : Poly 𝓡} → Monic d a → Monic e b → ◌∣◌ (PolyRing 𝓡) a b → d ≤ e
    divisor_degree m n k = omega (arith, divisor_below n.below (monic_nonzero n) m k)

    pub monic_degree : {d e : ℕ} {a : Poly 𝓡} → Monic d a → Monic e a → d ≡ e
    monic_degree {a = a} m n =
        le_antisymm (divisor_degree m n (divides_refl (PolyRing 𝓡) a)) (divisor_degree n m (divides_refl (PolyRing 𝓡) a))

    pub monic_antisym : {d e : ℕ} {a b : Poly 𝓡} → Monic d a → Monic e b → ◌∣◌ (PolyRing 𝓡) a b → ◌∣◌ (PolyRing 𝓡) b a → a ≡ b
    monic_antisym {d} {e} {a} {b} m n (q, h) k =
        sym (eq_of_sub (PolyRing 𝓡) (sym (divided_unique m q 𝟎 𝟏 (b +ᴿ -ᴿ a) (below_𝟎 d) (monic_difference (rw same n) m) whole).1))
      where
        same : d ≡ e
        same = le_antisymm (divisor_degree m n (q, h)) (divisor_degree n m k)

        whole : q · a +ᴿ 𝟎 ≡ 𝟏 · a +ᴿ (b +ᴿ -ᴿ a)
        whole =
            linear1 (PolyRing 𝓡) 𝟏 h
            (solve (PolyRing 𝓡) 3 (λ q a b. q ⊗ a ⊕ con 0 ⊖ (con 1 ⊗ a ⊕ (b ⊖ a)) ≈ con 1 ⊗ (q ⊗ a ⊖ b)) tt q a b)

    -- the monic polynomials are a choice among associated ones
    pub monics : Monics (PolyRing 𝓡) IsMonic
    monics = record {
      monic_one = (0, monic_one_lem);
      monic_mul = λ (d, m) (e, n). (d + e, monic_mul_lem m n);
      equal = λ (d, m) (e, n) (h, k). monic_antisym m n h k;
    }
