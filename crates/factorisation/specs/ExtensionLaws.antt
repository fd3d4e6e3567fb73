-- What follows from the laws of a square-zero extension A → B, and the numbers n·1 of a ring.
-- Proves the bars of sums, products and powers (ruleset `bars`), that equal bars differ by a multiple of π, that coprimality and
-- cancellation lift from bars, and the binomial theorem for x + π·t, where π² = 0. Assumes nothing.
use Rattle.std.specs.Prelude.{◌≡◌, List, [], ◌∷◌, ℕ, zero, suc}
use Rattle.std.proofs.Math.Path.{refl}
use Rattle.std.proofs.Common.{sym, ◌∙◌, ap}
use mathlib.Core.List.Memᴰ.{head as here}
use Rattle.algebra.specs.Ring.{CommRing, eq_of_sub, linear1, linear2}
use Rattle.algebra.specs.Identities.{con, ◌⊕◌, ◌⊖◌, ◌⊗◌, ⊝◌, ◌≈◌, solve}
use Rattle.algebra.specs.Divisibility.{Coprime, pow, pow_zero, pow_one, pow_suc, product, product_nil, product_cons, coprime_one, coprime_mul}
use Rattle.algebra.specs.Homomorphisms.{keeps_zero, keeps_neg, keeps_pow}
use Rattle.algebra.specs.Extension.{Extension}
use Rattle.lists.specs.Members.{All, all_tail}
use Rattle.factorisation.specs.Kernel.{bar_sub, kernel_sub, kernel_multiple, bar_add_kernel}

-- n·1
unfoldable pub number : {R : Type 0} → CommRing R → ℕ → R
number 𝓡 zero = 𝓡.𝟘
number 𝓡 (suc n) = 𝓡.add 𝓡.𝟙 (number 𝓡 n)

module _ {R : Type 0} (𝓡 : CommRing R) where
  pub number_zero : number 𝓡 0 ≡ 𝓡.𝟘
  unfolding number
  number_zero = refl

  pub number_suc : (n : ℕ) → number 𝓡 (suc n) ≡ 𝓡.add 𝓡.𝟙 (number 𝓡 n)
  unfolding number
  number_suc n = refl

module _ {A B : Type 0} {𝓐 : CommRing A} {𝓑 : CommRing B} {bar : A → B} (E : Extension 𝓐 𝓑 bar) where
  infixl 60 ◌+ᴿ◌ ◌∔◌
  infixl 70 ◌*ᴿ◌ ◌∗◌
  open 𝓐 use {add as ◌+ᴿ◌, mul as ◌*ᴿ◌, neg, 𝟘, 𝟙}
  open 𝓑 use {add as ◌∔◌, mul as ◌∗◌, 𝟘 as 𝟎, 𝟙 as 𝟏}
  open E use {π}

  -- ---- bars

  pub bar_add : (a b : A) → bar (a +ᴿ b) ≡ bar a ∔ bar b
  bar_add = E.hom.keeps_add

  pub bar_mul : (a b : A) → bar (a *ᴿ b) ≡ bar a ∗ bar b
  bar_mul = E.hom.keeps_mul

  pub bar_one : bar 𝟙 ≡ 𝟏
  bar_one = E.hom.keeps_one

  pub bar_neg : (a : A) → bar (neg a) ≡ 𝓑.neg (bar a)
  bar_neg = keeps_neg E.hom

  pub bar_pow : (a : A) (n : ℕ) → bar (pow 𝓐 a n) ≡ pow 𝓑 (bar a) n
  bar_pow = keeps_pow E.hom

  pub bar_mul_pow : (a b : A) (n : ℕ) → bar (a *ᴿ pow 𝓐 b n) ≡ bar a ∗ pow 𝓑 (bar b) n
  bar_mul_pow a b n = bar_mul a (pow 𝓐 b n) ∙ ap (λ c. bar a ∗ c) (bar_pow b n)

  pub bar_lift_lem : (b : B) → bar (E.lift b) ≡ b
  bar_lift_lem = E.bar_lift

  pub bar_number : (n : ℕ) → bar (number 𝓐 n) ≡ number 𝓑 n
  bar_number zero = rw (number_zero 𝓐, number_zero 𝓑) (keeps_zero E.hom)
  bar_number (suc n) = rw (number_suc 𝓐 n, number_suc 𝓑 n, bar_add, bar_one, bar_number n)

  pub bar_π_mul : (a : A) → bar (π *ᴿ a) ≡ 𝟎
  bar_π_mul a = kernel_multiple E a E.barπ

  pub bar_add_π : (a b : A) → bar (a +ᴿ π *ᴿ b) ≡ bar a
  bar_add_π a b = bar_add_kernel E a (bar_π_mul b)

  -- the bar of g^n + π·h
  pub bar_pow_π : (g h : A) (n : ℕ) → bar (pow 𝓐 g n +ᴿ π *ᴿ h) ≡ pow 𝓑 (bar g) n
  bar_pow_π g h n = bar_add_π (pow 𝓐 g n) h ∙ bar_pow g n

  -- ---- multiples of π

  -- equal bars: the difference is a multiple of π
  pub difference : {a b : A} → bar a ≡ bar b → (c : A) × (a ≡ b +ᴿ π *ᴿ c)
  difference {a} {b} e = (
    E.part (a +ᴿ neg b),
    linear1 𝓐 𝟙 (E.kernel (a +ᴿ neg b) (kernel_sub E e))
        (solve 𝓐 4 (λ a b π c. a ⊖ (b ⊕ π ⊗ c) ≈ con 1 ⊗ (a ⊖ b ⊖ π ⊗ c)) tt a b π (E.part (a +ᴿ neg b))),
  )

  pub π_injective : {a b : A} → π *ᴿ a ≡ π *ᴿ b → bar a ≡ bar b
  π_injective {a} {b} e =
      eq_of_sub 𝓑
      (sym (bar_sub E a b)
      ∙ E.kill (a +ᴿ neg b) (linear1 𝓐 𝟙 e (solve 𝓐 3 (λ a b π. π ⊗ (a ⊖ b) ⊖ con 0 ≈ con 1 ⊗ (π ⊗ a ⊖ π ⊗ b)) tt a b π)))

  pub π_equal : {a b : A} → bar a ≡ bar b → π *ᴿ a ≡ π *ᴿ b
  π_equal {a} {b} e =
      let (c, h) = difference e in
      linear2 𝓐 π c h E.square (solve 𝓐 4 (λ a b π c. π ⊗ a ⊖ π ⊗ b ≈ π ⊗ (a ⊖ (b ⊕ π ⊗ c)) ⊕ c ⊗ (π ⊗ π ⊖ con 0)) tt a b π c)

  -- ---- what lifts from bars

  pub coprime_lift : {a b : A} → Coprime 𝓑 (bar a) (bar b) → Coprime 𝓐 a b
  coprime_lift {a} {b} c = make (E.lift c.u) (E.lift c.v) (difference one)
    where
      one : bar (E.lift c.u *ᴿ a +ᴿ E.lift c.v *ᴿ b) ≡ bar 𝟙
      one = simp (bar_add, bar_mul, bar_lift_lem) (c.law ∙ sym bar_one)

      -- multiply 1 + π·y by 1 − π·y
      make : (u v : A) → (y : A) × (u *ᴿ a +ᴿ v *ᴿ b ≡ 𝟙 +ᴿ π *ᴿ y) → Coprime 𝓐 a b
      make u v (y, h) = record {
        u = (𝟙 +ᴿ neg (π *ᴿ y)) *ᴿ u;
        v = (𝟙 +ᴿ neg (π *ᴿ y)) *ᴿ v;
        law = linear2 𝓐 (𝟙 +ᴿ neg (π *ᴿ y)) (neg (y *ᴿ y)) h E.square
            (solve 𝓐 6
            (λ a b u v π y.
            (con 1 ⊖ π ⊗ y) ⊗ u ⊗ a ⊕ (con 1 ⊖ π ⊗ y) ⊗ v ⊗ b ⊖ con 1
            ≈ (con 1 ⊖ π ⊗ y) ⊗ (u ⊗ a ⊕ v ⊗ b ⊖ (con 1 ⊕ π ⊗ y)) ⊕ ⊝ (y ⊗ y) ⊗ (π ⊗ π ⊖ con 0)) tt a b u v π y);
      }

  -- coprime to the bar of each member, so to that of the product
  pub coprime_bar_product : (b : B) (l : List A) → All (λ a. Coprime 𝓑 b (bar a)) l → Coprime 𝓑 b (bar (product 𝓐 l))
  coprime_bar_product b [] h = rw (product_nil 𝓐, bar_one) (coprime_one 𝓑 b)
  coprime_bar_product b (a ∷ l) h =
      rw (product_cons 𝓐 a l, bar_mul a (product 𝓐 l))
      (coprime_mul 𝓑 (h a (here refl)) (coprime_bar_product b l (all_tail h)))

  -- ---- the binomial theorem

  -- (x + π·t)^(k+1) = x^(k+1) + π·(k+1)·x^k·t
  pub binomial : (k : ℕ) (x t : A) → pow 𝓐 (x +ᴿ π *ᴿ t) (suc k) ≡ pow 𝓐 x (suc k) +ᴿ π *ᴿ (number 𝓐 (suc k) *ᴿ (pow 𝓐 x k *ᴿ t))
  binomial zero x t =
      rw (pow_one 𝓐 x, pow_one 𝓐 (x +ᴿ π *ᴿ t), pow_zero 𝓐 x, number_suc 𝓐 0, number_zero 𝓐)
      (solve 𝓐 3 (λ x π t. x ⊕ π ⊗ t ≈ x ⊕ π ⊗ ((con 1 ⊕ con 0) ⊗ (con 1 ⊗ t))) tt x π t)
  binomial (suc k) x t =
      pow_suc 𝓐 (x +ᴿ π *ᴿ t) (suc k) ∙ ap (λ y. (x +ᴿ π *ᴿ t) *ᴿ y) (binomial k x t)
      ∙ rw (pow_suc 𝓐 x (suc k), pow_suc 𝓐 x k, number_suc 𝓐 (suc k))
      (linear1 𝓐 (t *ᴿ number 𝓐 (suc k) *ᴿ pow 𝓐 x k *ᴿ t) E.square
      (solve 𝓐 5
      (λ x π t n y.
      (x ⊕ π ⊗ t) ⊗ (x ⊗ y ⊕ π ⊗ (n ⊗ (y ⊗ t))) ⊖ (x ⊗ (x ⊗ y) ⊕ π ⊗ ((con 1 ⊕ n) ⊗ (x ⊗ y ⊗ t)))
      ≈ t ⊗ n ⊗ y ⊗ t ⊗ (π ⊗ π ⊖ con 0)) tt x π t (number 𝓐 (suc k)) (pow 𝓐 x k)))

pub ruleset bars = (bar_add, bar_mul, bar_one, bar_neg, bar_pow, bar_lift_lem, bar_number, bar_π_mul)
