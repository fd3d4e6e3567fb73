-- The class of g in a list of factors: the members whose bar is divisible by that of g, a prime element.
-- Proves, of a list L with product P·C, where P = g^m + π·h and the bar of C is coprime to the bar G of g: at most m members are in the
-- class (Aa); where k + 1 are, G^k divides the bar of h (Ab); so at most s are (A). Assumes nothing.
use Rattle.std.specs.Prelude.{◌≡◌, refl, ◌⊎◌, List, [], ◌∷◌, ℕ, zero, suc, ◌≤◌}
use Rattle.std.proofs.Common.{sym, ◌∙◌, ap, ap₂, ⊎_elim, arith}
use Rattle.std.proofs.Math.Logic.{inl, inr}
use Rattle.algebra.specs.Numbers.{lt_or_le}
use Rattle.algebra.specs.Ring.{CommRing, linear1, zero_mul}
use Rattle.algebra.specs.Identities.{con, ◌⊕◌, ◌⊖◌, ◌⊗◌, ◌≈◌, solve}
use Rattle.algebra.specs.Divisibility.{
  ◌∣◌ as Divides,
  Coprime,
  pow,
  pow_zero,
  pow_suc,
  pow_divides,
  product,
  product_cons,
  one_divides,
  divides_mul,
  divides_mul_both,
  divides_sub,
  divides_trans,
  coprime_sym,
  coprime_pow,
  gauss,
}
use Rattle.algebra.specs.Extension.{Extension}
use Rattle.lists.specs.Sums.{total, total_nil, total_cons_zero, total_cons_one}
use Rattle.factorisation.specs.PrimeElements.{PrimeElement, cancel_pow, pow_le}
use Rattle.factorisation.specs.ExtensionLaws.{bars, bar_mul, bar_pow, bar_mul_pow, bar_pow_π, bar_π_mul, difference, π_injective, coprime_lift}

module _ {A B : Type 0} {𝓐 : CommRing A} {𝓑 : CommRing B} {bar : A → B} (E : Extension 𝓐 𝓑 bar) (g : A) (prime : PrimeElement 𝓑 (bar g)) where
  infixl 60 ◌+ᴿ◌
  infixl 70 ◌*ᴿ◌
  infix 50 ◌∣◌
  open 𝓐 use {add as ◌+ᴿ◌, mul as ◌*ᴿ◌}
  open E use {π}

  -- of bars
  abbrev ◌∣◌ : B → B → Type 0
  ◌∣◌ = Divides 𝓑

  abbrev hit : {a : B} → (bar g ∣ a) ⊎ Coprime 𝓑 (bar g) a → ℕ
  hit (inl _) = 1
  hit (inr _) = 0

  -- 1 if a is in the class of g, and else 0
  unfoldable pub in_class : A → ℕ
  in_class a = hit (prime.test (bar a))

  abbrev pub Cases : A → Type 0
  Cases a = ((in_class a ≡ 1) × (bar g ∣ bar a)) ⊎ ((in_class a ≡ 0) × Coprime 𝓑 (bar g) (bar a))

  pub class_cases : (a : A) → Cases a
  unfolding in_class
  class_cases a = go (prime.test (bar a))
    where
      go : (t : (bar g ∣ bar a) ⊎ Coprime 𝓑 (bar g) (bar a)) → ((hit t ≡ 1) × (bar g ∣ bar a)) ⊎ ((hit t ≡ 0) × Coprime 𝓑 (bar g) (bar a))
      go (inl d) = inl (refl, d)
      go (inr c) = inr (refl, c)

  pub outside_coprime : (a : A) → in_class a ≤ 0 → Coprime 𝓑 (bar g) (bar a)
  outside_coprime a l = go (class_cases a)
    where
      go : Cases a → Coprime 𝓑 (bar g) (bar a)
      go (inl (e, d)) = absurd (omega arith)
      go (inr (e, c)) = c

  abbrev pub class_size : List A → ℕ
  class_size = total in_class

  -- ---- the product of a list with k + 1 members in the class is g^k·(g·a + π·b)

  abbrev Form : ℕ → A → Type 0
  Form zero x = Unit {0}
  Form (suc k) x = (a : A) × (b : A) × (x ≡ pow 𝓐 g k *ᴿ (g *ᴿ a +ᴿ π *ᴿ b))

  abbrev Inside : A → Type 0
  Inside y = (a : A) × (b : A) × (y ≡ g *ᴿ a +ᴿ π *ᴿ b)

  inside : (y : A) → bar g ∣ bar y → Inside y
  inside y (q, d) = let (b, e) = difference E same in (E.lift q, b, e)
    where
      same : bar y ≡ bar (g *ᴿ E.lift q)
      same = simp (bars, E) (sym d ∙ 𝓑.*_comm q (bar g))

  form_inside : (t : ℕ) (x y : A) → Inside y → Form t x → Form (suc t) (y *ᴿ x)
  form_inside zero x y (a, b, e) f = (
    a *ᴿ x,
    b *ᴿ x,
    rw (pow_zero 𝓐 g)
        (ap (λ z. z *ᴿ x) e ∙ solve 𝓐 5 (λ a b x g π. (g ⊗ a ⊕ π ⊗ b) ⊗ x ≈ con 1 ⊗ (g ⊗ (a ⊗ x) ⊕ π ⊗ (b ⊗ x))) tt a b x g π),
  )
  form_inside (suc k) x y (a, b, e) (c, d, h) = (
    a *ᴿ c,
    a *ᴿ d +ᴿ b *ᴿ c,
    rw (pow_suc 𝓐 g k)
        (ap₂ ◌*ᴿ◌ e h
        ∙ linear1 𝓐 (pow 𝓐 g k *ᴿ b *ᴿ d) E.square
        (solve 𝓐 7
        (λ a b c d g π z.
        (g ⊗ a ⊕ π ⊗ b) ⊗ (z ⊗ (g ⊗ c ⊕ π ⊗ d)) ⊖ g ⊗ z ⊗ (g ⊗ (a ⊗ c) ⊕ π ⊗ (a ⊗ d ⊕ b ⊗ c)) ≈ z ⊗ b ⊗ d ⊗ (π ⊗ π ⊖ con 0)) tt
        a b c d g π (pow 𝓐 g k))),
  )

  form_outside : (t : ℕ) (x y : A) → Form t x → Form t (y *ᴿ x)
  form_outside zero x y f = tt
  form_outside (suc k) x y (a, b, e) = (
    y *ᴿ a,
    y *ᴿ b,
    ap (λ z. y *ᴿ z) e ∙ solve 𝓐 6 (λ a b y g π z. y ⊗ (z ⊗ (g ⊗ a ⊕ π ⊗ b)) ≈ z ⊗ (g ⊗ (y ⊗ a) ⊕ π ⊗ (y ⊗ b))) tt a b y g π (pow 𝓐 g k),
  )

  form : (L : List A) → Form (class_size L) (product 𝓐 L)
  form [] = rw (total_nil in_class) tt
  form (a ∷ L) = rw (product_cons 𝓐 a L) (go (class_cases a) (form L))
    where
      go : Cases a → Form (class_size L) (product 𝓐 L) → Form (class_size (a ∷ L)) (a *ᴿ product 𝓐 L)
      go (inl (e, d)) f = rw (total_cons_one in_class L e) (form_inside (class_size L) (product 𝓐 L) a (inside a d) f)
      go (inr (e, c)) f = rw (total_cons_zero in_class L e) (form_outside (class_size L) (product 𝓐 L) a f)

  -- with t members in the class, G^t divides the bar of the product
  class_divides : (L : List A) → pow 𝓑 (bar g) (class_size L) ∣ bar (product 𝓐 L)
  class_divides [] = rw (total_nil in_class, pow_zero 𝓑 (bar g)) (one_divides 𝓑 (bar (product 𝓐 [])))
  class_divides (a ∷ L) = rw (product_cons 𝓐 a L, bar_mul E a (product 𝓐 L)) (go (class_cases a) (class_divides L))
    where
      go : Cases a → pow 𝓑 (bar g) (class_size L) ∣ bar (product 𝓐 L)
          → pow 𝓑 (bar g) (class_size (a ∷ L)) ∣ 𝓑.mul (bar a) (bar (product 𝓐 L))
      go (inl (e, d)) f = rw (total_cons_one in_class L e, pow_suc 𝓑 (bar g) (class_size L)) (divides_mul_both 𝓑 d f)
      go (inr (e, c)) f = rw (total_cons_zero in_class L e) (divides_mul 𝓑 (bar a) f)

  -- ---- claim A

  module _ (m : ℕ) {P C h : A} (shape : P ≡ pow 𝓐 g m +ᴿ π *ᴿ h) (coprime : Coprime 𝓑 (bar g) (bar C))
      (L : List A) (factors : product 𝓐 L ≡ P *ᴿ C) where
    coprime_power : (n : ℕ) → Coprime 𝓑 (pow 𝓑 (bar g) n) (bar C)
    coprime_power n = coprime_sym 𝓑 (coprime_pow 𝓑 n (coprime_sym 𝓑 coprime))

    bar_P : bar P ≡ pow 𝓑 (bar g) m
    bar_P = ap bar shape ∙ bar_pow_π E g h m

    -- Aa
    pub class_le : class_size L ≤ m
    class_le =
        pow_le 𝓑 prime (class_size L) m
        (rw bar_P at (gauss 𝓑 (coprime_power (class_size L)) (rw (factors, bar_mul E P C) at (class_divides L))))

    -- Ab
    pub class_deep : (k : ℕ) → class_size L ≡ suc k → pow 𝓑 (bar g) k ∣ bar h
    class_deep k e = finish (divides_sub 𝓐 (pow_divides 𝓐 g (omega (arith, class_le))) (rw shape at divides_P))
      where
        divides_PC : Divides 𝓐 (pow 𝓐 g k) (P *ᴿ C)
        divides_PC = let (a, b, d) = rw (e, factors) at (form L) in (g *ᴿ a +ᴿ π *ᴿ b, 𝓐.*_comm (g *ᴿ a +ᴿ π *ᴿ b) (pow 𝓐 g k) ∙ sym d)

        divides_P : Divides 𝓐 (pow 𝓐 g k) P
        divides_P = gauss 𝓐 (coprime_lift E (rw (bar_pow E g k) (coprime_power k))) divides_PC

        -- q·g^k = π·h, so the bar of q is 0 and q = π·y; then y·g^k and h have the same bar
        finish : Divides 𝓐 (pow 𝓐 g k) (π *ᴿ h) → pow 𝓑 (bar g) k ∣ bar h
        finish (q, d) = (bar (E.part q), sym (bar_mul_pow E (E.part q) g k) ∙ π_injective E same)
          where
            gone : bar q ≡ 𝓑.𝟘
            gone = cancel_pow 𝓑 prime k (sym (bar_mul_pow E q g k) ∙ ap bar d ∙ bar_π_mul E h ∙ sym (zero_mul 𝓑 (pow 𝓑 (bar g) k)))

            same : π *ᴿ (E.part q *ᴿ pow 𝓐 g k) ≡ π *ᴿ h
            same = sym (𝓐.*_assoc π (E.part q) (pow 𝓐 g k)) ∙ ap (λ z. z *ᴿ pow 𝓐 g k) (sym (E.kernel q gone)) ∙ d

    -- A: m members are allowed, or G^s does not divide the bar of h
    pub class_bound : (s : ℕ) → (m ≤ s) ⊎ ¬ (pow 𝓑 (bar g) s ∣ bar h) → class_size L ≤ s
    class_bound s (inl l) = omega (arith, class_le)
    class_bound s (inr n) = go (class_size L) refl
      where
        go : (t : ℕ) → class_size L ≡ t → t ≤ s
        go zero e = omega arith
        go (suc k) e =
            ⊎_elim (λ l. l) (λ l. absurd (n (divides_trans 𝓑 (pow_divides 𝓑 (bar g) l) (class_deep k e)))) (lt_or_le k s)
