-- Polynomials over a ring with decided equality: the least bound of the degree, the leading coefficient.
-- Proves that equality of polynomials and divisibility by a monic polynomial are decided, and that a divisor's cofactor is monic.
-- Assumes nothing.
use Rattle.std.specs.Prelude.{◌≡◌, ◌⊎◌, ◌≢◌, ℕ, zero, suc, ◌≤◌, ◌<◌, ◌+◌}
use Rattle.std.proofs.Common.{sym, ◌∙◌, ap, inl, inr, ⊎_elim, le_antisymm, arith}
use mathlib.Core.HLevel.{Π_prop, ⊥_prop, is_prop→PathP}
use Rattle.std.proofs.Math.Logic.{∥∥₁_elim}
use Rattle.algebra.specs.Numbers.{lt_or_le}
use Rattle.algebra.specs.Ring.{CommRing, mul_one, zero_mul, add_zero, eq_of_sub, sub_self}
use Rattle.algebra.specs.Divisibility.{◌∣◌}
use Rattle.algebra.specs.PolynomialRing.{Poly, PolyRing, ◌+ᴿ◌, ◌·◌, -ᴿ◌, 𝟎, coef_zero}
use Rattle.algebra.specs.Degree.{Below, Monic, below_prop, below_zero, below_down, below_𝟎, below_mul, coef_top}
use Rattle.algebra.specs.Division.{Divided, divide_from, divided_unique}

module _ {R : Type 0} {𝓡 : CommRing R} where
  -- the term of highest degree
  pub record Leading (a : Poly 𝓡) : Type 0 where
    pub degree : ℕ
    pub nonzero : a.coef degree ≢ 𝓡.𝟘
    pub below : Below (suc degree) a

  leading_nonzero : {a : Poly 𝓡} → Leading a → a ≢ 𝟎
  leading_nonzero t e = t.nonzero (ap (λ b. b.coef t.degree) e ∙ coef_zero 𝓡 t.degree)

  -- a bound lies above the leading term
  pub degree_below : {a : Poly 𝓡} {n : ℕ} (t : Leading a) → Below n a → t.degree < n
  degree_below {n = n} t h = ⊎_elim (λ l. l) (λ l. absurd (t.nonzero (h.high t.degree l))) (lt_or_le t.degree n)

  leading_path : {a : Poly 𝓡} (s t : Leading a) → s ≡ t
  leading_path {a} s t =
      λ i. record {
        degree = e i;
        nonzero = is_prop→PathP (λ j. a.coef (e j) ≢ 𝓡.𝟘) (λ j. Π_prop (λ k. ⊥_prop)) s.nonzero t.nonzero i;
        below = is_prop→PathP (λ j. Below (suc (e j)) a) (λ j. below_prop) s.below t.below i;
      }
    where
      e : s.degree ≡ t.degree
      e = omega (arith, degree_below s t.below, degree_below t s.below)

  zero_or_leading_prop : (a : Poly 𝓡) → IsProp ((a ≡ 𝟎) ⊎ Leading a)
  zero_or_leading_prop a (inl e) (inl e') = ap inl ((PolyRing 𝓡).is_set a 𝟎 e e')
  zero_or_leading_prop a (inl e) (inr t) = absurd (leading_nonzero t e)
  zero_or_leading_prop a (inr s) (inl e) = absurd (leading_nonzero s e)
  zero_or_leading_prop a (inr s) (inr t) = ap inr (leading_path s t)

  module _ (decide : Discrete R) where
    leading_from : (n : ℕ) (a : Poly 𝓡) → Below n a → (a ≡ 𝟎) ⊎ Leading a
    leading_from zero a h = inl (below_zero h)
    leading_from (suc n) a h = go (decide (a.coef n) 𝓡.𝟘) (λ k. leading_from n a k)
      where
        go : Dec (a.coef n ≡ 𝓡.𝟘) → (Below n a → (a ≡ 𝟎) ⊎ Leading a) → (a ≡ 𝟎) ⊎ Leading a
        go (yes e) f = f (below_down h e)
        go (no k) f = inr (record { degree = n; nonzero = k; below = h })

    -- 𝟎, or a leading term
    pub leading : (a : Poly 𝓡) → (a ≡ 𝟎) ⊎ Leading a
    leading a = ∥∥₁_elim a.bounded (zero_or_leading_prop a) (λ b. leading_from b.0 a (record { high = b.1 }))

    pub bound : (a : Poly 𝓡) → (n : ℕ) × Below n a
    bound a = ⊎_elim (λ e. (0, rw e (below_𝟎 0))) (λ t. (suc t.degree, t.below)) (leading a)

    is_zero_lem : (a : Poly 𝓡) → Dec (a ≡ 𝟎)
    is_zero_lem a = ⊎_elim (λ e. yes e) (λ t. no (leading_nonzero t)) (leading a)

    pub poly_discrete : Discrete (Poly 𝓡)
    poly_discrete a b = go (is_zero_lem (a +ᴿ -ᴿ b))
      where
        go : Dec (a +ᴿ -ᴿ b ≡ 𝟎) → Dec (a ≡ b)
        go (yes e) = yes (eq_of_sub (PolyRing 𝓡) e)
        go (no k) = no (λ e. k (sub_self (PolyRing 𝓡) e))

    pub divide : {d : ℕ} {g : Poly 𝓡} → Monic d g → (a : Poly 𝓡) → Divided d g a
    divide m a = let b = bound a in divide_from m b.0 a b.1

    pub divides? : {d : ℕ} {g : Poly 𝓡} → Monic d g → (a : Poly 𝓡) → Dec (◌∣◌ (PolyRing 𝓡) g a)
    divides? {d} {g} m a = go (divide m a)
      where
        go : Divided d g a → Dec (◌∣◌ (PolyRing 𝓡) g a)
        go t = test (is_zero_lem t.remainder)
          where
            test : Dec (t.remainder ≡ 𝟎) → Dec (◌∣◌ (PolyRing 𝓡) g a)
            test (yes e) = yes (t.quotient, sym (add_zero (PolyRing 𝓡) (t.quotient · g)) ∙ ap (λ r. t.quotient · g +ᴿ r) (sym e) ∙ t.law)
            test (no k) = no (λ (q, e). k (sym (divided_unique m q 𝟎 t.quotient t.remainder (below_𝟎 d) t.small
                (add_zero (PolyRing 𝓡) (q · g) ∙ e ∙ sym t.law)).1))

    -- u·g and g are monic: so is u, and degrees add
    pub monic_cofactor : 𝓡.𝟙 ≢ 𝓡.𝟘 → {d k : ℕ} (u g : Poly 𝓡) → Monic k g → Monic d (u · g) → (j : ℕ) × Monic j u × (j + k ≡ d)
    monic_cofactor ne {d} {k} u g mg m = go (leading u)
      where
        go : (u ≡ 𝟎) ⊎ Leading u → (j : ℕ) × Monic j u × (j + k ≡ d)
        go (inl e) = absurd (ne (sym m.leading ∙ ap (λ a. (a · g).coef d) e ∙ ap (λ a. a.coef d) (zero_mul (PolyRing 𝓡) g) ∙ coef_zero 𝓡 d))
        go (inr t) = (t.degree, record { leading = sym top ∙ ap (λ i. (u · g).coef i) same ∙ m.leading; below = t.below }, same)
          where
            top : (u · g).coef (t.degree + k) ≡ u.coef t.degree
            top = coef_top t.below mg.below ∙ ap (𝓡.mul (u.coef t.degree)) mg.leading ∙ mul_one 𝓡 (u.coef t.degree)

            up : t.degree + k ≤ d
            up =
                ⊎_elim (λ l. absurd (t.nonzero (sym top ∙ m.below.high (t.degree + k) l))) (λ l. l) (lt_or_le d (t.degree + k))

            down : d ≤ t.degree + k
            down =
                ⊎_elim (λ l. absurd (ne (sym m.leading ∙ (below_mul {d = suc t.degree} t.below mg.below).high d (omega arith)))) (λ l. l)
                (lt_or_le (t.degree + k) d)

            same : t.degree + k ≡ d
            same = le_antisymm up down
