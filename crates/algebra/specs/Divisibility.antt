-- Divisibility, coprimality (u·a + v·b = 1 for some u, v), powers and products of lists in a commutative ring.
-- Proves their laws, that units cancel, and Gauss's lemma. Assumes nothing.
use Rattle.std.specs.Prelude.{◌≡◌, List, [], ◌∷◌, ◌++◌, map, ℕ, zero, suc, ◌≤◌, ◌<◌, ◌-◌, ◌+◌, ◌*◌}
use Rattle.std.proofs.Math.Path.{refl}
use Rattle.std.proofs.Common.{sym, ◌∙◌, ap, ap₂, suc-add, zero-add as zero-addℕ, zero-mul as zero-mulℕ, mul_comm as mul-commℕ, arith}
use Rattle.std.proofs.lemmas.List.{map-append}
use Rattle.algebra.specs.Ring.{CommRing, ring, linear2, mul_one, one_mul, mul_assoc, zero_mul}
use Rattle.algebra.specs.Identities.{con, ◌⊕◌, ◌⊖◌, ◌⊗◌, ⊝◌, ◌≈◌, solve}

module _ {R : Type 0} (𝓡 : CommRing R) where
  infixl 60 ◌+ᴿ◌
  infixl 70 ◌*ᴿ◌
  infix 50 ◌∣◌
  open 𝓡 use {add as ◌+ᴿ◌, mul as ◌*ᴿ◌, neg, 𝟘, 𝟙}

  abbrev pub ◌∣◌ : R → R → Type 0
  a ∣ b = (q : R) × (q *ᴿ a ≡ b)

  pub record Coprime (a b : R) : Type 0 where
    pub u : R
    pub v : R
    pub law : u *ᴿ a +ᴿ v *ᴿ b ≡ 𝟙

  -- ---- powers and products

  unfoldable pub pow : R → ℕ → R
  pow a zero = 𝟙
  pow a (suc n) = a *ᴿ pow a n

  unfoldable pub product : List R → R
  product [] = 𝟙
  product (a ∷ l) = a *ᴿ product l

  pub pow_zero : (a : R) → pow a 0 ≡ 𝟙
  unfolding pow
  pow_zero a = refl

  pub pow_suc : (a : R) (n : ℕ) → pow a (suc n) ≡ a *ᴿ pow a n
  unfolding pow
  pow_suc a n = refl

  pub product_nil : product [] ≡ 𝟙
  unfolding product
  product_nil = refl

  pub product_cons : (a : R) (l : List R) → product (a ∷ l) ≡ a *ᴿ product l
  unfolding product
  product_cons a l = refl

  pub product_one : (a : R) → product (a ∷ []) ≡ a
  product_one a = rw (product_cons a [], product_nil, mul_one 𝓡)

  pub product_append : (l m : List R) → product (l ++ m) ≡ product l *ᴿ product m
  product_append [] m = rw (product_nil, one_mul)
  product_append (a ∷ l) m = rw (product_cons a l, product_cons a (l ++ m), product_append l m, mul_assoc)

  pub product_map_append : {A : Type 0} (g : A → R) (l m : List A) → product (map g (l ++ m)) ≡ product (map g l) *ᴿ product (map g m)
  product_map_append g l m = ap product (map-append g l m) ∙ product_append (map g l) (map g m)

  pub pow_one : (a : R) → pow a 1 ≡ a
  pow_one a = rw (pow_suc a 0, pow_zero, mul_one 𝓡)

  pub pow_add : (a : R) (m n : ℕ) → pow a (m + n) ≡ pow a m *ᴿ pow a n
  pow_add a zero n = rw (zero-addℕ, pow_zero, one_mul)
  pow_add a (suc m) n = rw (suc-add, pow_suc a (m + n), pow_suc a m, pow_add a m n, mul_assoc)

  pub pow_mul : (a : R) (m n : ℕ) → pow a (m * n) ≡ pow (pow a n) m
  pow_mul a zero n = rw (zero-mulℕ, pow_zero a, pow_zero (pow a n))
  pow_mul a (suc m) n =
      ap (pow a) (let e : suc m * n ≡ n + m * n = omega arith in e) ∙ pow_add a n (m * n)
      ∙ ap (λ b. pow a n *ᴿ b) (pow_mul a m n) ∙ sym (pow_suc (pow a n) m)

  pub pow_swap : (a : R) (m n : ℕ) → pow (pow a m) n ≡ pow (pow a n) m
  pow_swap a m n = sym (pow_mul a n m) ∙ ap (pow a) (mul-commℕ n m) ∙ pow_mul a m n

  pub pow_of_zero : (n : ℕ) → 0 < n → pow 𝟘 n ≡ 𝟘
  pow_of_zero zero l = absurd (omega arith)
  pow_of_zero (suc n) l = pow_suc 𝟘 n ∙ zero_mul 𝓡 (pow 𝟘 n)

  pub pow_of_one : (n : ℕ) → pow 𝟙 n ≡ 𝟙
  pow_of_one zero = pow_zero 𝟙
  pow_of_one (suc n) = pow_suc 𝟙 n ∙ 𝓡.*_one (pow 𝟙 n) ∙ pow_of_one n

  pub pow_of_product : (a b : R) (n : ℕ) → pow (a *ᴿ b) n ≡ pow a n *ᴿ pow b n
  pow_of_product a b zero = rw (pow_zero (a *ᴿ b), pow_zero a, pow_zero b) (sym (𝓡.*_one 𝟙))
  pow_of_product a b (suc n) =
      rw (pow_suc (a *ᴿ b) n, pow_suc a n, pow_suc b n, pow_of_product a b n)
      (solve 𝓡 4 (λ a b c d. a ⊗ b ⊗ (c ⊗ d) ≈ a ⊗ c ⊗ (b ⊗ d)) tt a b (pow a n) (pow b n))

  -- ---- divisors

  pub divides_refl : (a : R) → a ∣ a
  divides_refl a = (𝟙, 𝓡.*_one a)

  pub divides_trans : {a b c : R} → a ∣ b → b ∣ c → a ∣ c
  divides_trans {a} (p, e) (q, e') = (q *ᴿ p, 𝓡.*_assoc q p a ∙ ap (λ z. q *ᴿ z) e ∙ e')

  pub divides_mul : {a b : R} (c : R) → a ∣ b → a ∣ c *ᴿ b
  divides_mul {a} c (p, e) = (c *ᴿ p, 𝓡.*_assoc c p a ∙ ap (λ z. c *ᴿ z) e)

  pub divides_mul_right : {a b : R} (c : R) → a ∣ b → a ∣ b *ᴿ c
  divides_mul_right {a} {b} c d = let (q, e) = divides_mul c d in (q, e ∙ 𝓡.*_comm c b)

  pub divides_mul_both : {a b c d : R} → a ∣ b → c ∣ d → a *ᴿ c ∣ b *ᴿ d
  divides_mul_both {a} {b} {c} {d} (p, e) (q, e') =
      (p *ᴿ q, solve 𝓡 4 (λ p q a c. p ⊗ q ⊗ (a ⊗ c) ≈ p ⊗ a ⊗ (q ⊗ c)) tt p q a c ∙ ap₂ ◌*ᴿ◌ e e')

  pub one_divides : (a : R) → 𝟙 ∣ a
  one_divides a = (a, mul_one 𝓡 a)

  pub divides_zero : (a : R) → a ∣ 𝟘
  divides_zero a = (𝟘, zero_mul 𝓡 a)

  pub divides_add : {a b c : R} → a ∣ b → a ∣ c → a ∣ b +ᴿ c
  divides_add {a} {b} {c} (p, e) (q, e') = (
    p +ᴿ q,
    linear2 𝓡 𝟙 𝟙 e e'
        (solve 𝓡 5 (λ p q a b c. (p ⊕ q) ⊗ a ⊖ (b ⊕ c) ≈ con 1 ⊗ (p ⊗ a ⊖ b) ⊕ con 1 ⊗ (q ⊗ a ⊖ c)) tt p q a b c),
  )

  pub divides_sub : {a b c : R} → a ∣ b → a ∣ b +ᴿ c → a ∣ c
  divides_sub {a} {b} {c} (p, e) (q, e') = (
    q +ᴿ neg p,
    linear2 𝓡 (neg 𝟙) 𝟙 e e'
        (solve 𝓡 5 (λ p q a b c. (q ⊖ p) ⊗ a ⊖ c ≈ ⊝ con 1 ⊗ (p ⊗ a ⊖ b) ⊕ con 1 ⊗ (q ⊗ a ⊖ (b ⊕ c))) tt p q a b c),
  )

  -- only 𝟘 times a unit is 𝟘
  pub unit_cancel : {a u v : R} → u *ᴿ v ≡ 𝟙 → a *ᴿ v ≡ 𝟘 → a ≡ 𝟘
  unit_cancel {a} {u} {v} h e =
      linear2 𝓡 (neg a) u h e (solve 𝓡 3 (λ a u v. a ⊖ con 0 ≈ ⊝ a ⊗ (u ⊗ v ⊖ con 1) ⊕ u ⊗ (a ⊗ v ⊖ con 0)) tt a u v)

  pub pow_divides : (a : R) {k n : ℕ} → k ≤ n → pow a k ∣ pow a n
  pow_divides a {k} {n} l = (pow a (n - k), sym (pow_add a (n - k) k) ∙ ap (pow a) (let e : n - k + k ≡ n = omega arith in e))

  -- ---- coprime elements

  pub coprime_sym : {a b : R} → Coprime a b → Coprime b a
  coprime_sym {a} {b} c = record { u = c.v; v = c.u; law = 𝓡.+_comm (c.v *ᴿ b) (c.u *ᴿ a) ∙ c.law }

  pub coprime_one : (a : R) → Coprime a 𝟙
  coprime_one a = record { u = 𝟘; v = 𝟙; law = simp ring }

  pub coprime_mul : {a b c : R} → Coprime a b → Coprime a c → Coprime a (b *ᴿ c)
  coprime_mul {a} {b} {c} h k = record {
    u = h.u *ᴿ k.u *ᴿ a +ᴿ h.u *ᴿ k.v *ᴿ c +ᴿ h.v *ᴿ b *ᴿ k.u;
    v = h.v *ᴿ k.v;
    law = solve 𝓡 7
        (λ a b c u v u' v'.
        (u ⊗ u' ⊗ a ⊕ u ⊗ v' ⊗ c ⊕ v ⊗ b ⊗ u') ⊗ a ⊕ v ⊗ v' ⊗ (b ⊗ c) ≈ (u ⊗ a ⊕ v ⊗ b) ⊗ (u' ⊗ a ⊕ v' ⊗ c)) tt
        a b c h.u h.v k.u k.v
        ∙ ap₂ ◌*ᴿ◌ h.law k.law ∙ 𝓡.*_one 𝟙;
  }

  pub coprime_pow : {a b : R} (n : ℕ) → Coprime a b → Coprime a (pow b n)
  coprime_pow {a} {b} zero c = rw (pow_zero b) (coprime_one a)
  coprime_pow {a} {b} (suc n) c = rw (pow_suc b n) (coprime_mul c (coprime_pow n c))

  pub coprime_divisor : {a b c : R} → c ∣ b → Coprime a b → Coprime a c
  coprime_divisor {a} {b} {c} (q, e) h = record {
    u = h.u;
    v = h.v *ᴿ q;
    law = ap (λ z. h.u *ᴿ a +ᴿ z) (𝓡.*_assoc h.v q c ∙ ap (λ z. h.v *ᴿ z) e) ∙ h.law;
  }

  -- what divides both of two coprime elements divides 𝟙
  pub coprime_common : {a b c : R} → Coprime a b → c ∣ a → c ∣ b → c ∣ 𝟙
  coprime_common h d e = rw (← h.law) (divides_add (divides_mul h.u d) (divides_mul h.v e))

  -- Gauss: a divisor of b·c that is coprime to c divides b
  pub gauss : {a b c : R} → Coprime a c → a ∣ b *ᴿ c → a ∣ b
  gauss {a} {b} {c} h (q, e) = (
    b *ᴿ h.u +ᴿ h.v *ᴿ q,
    linear2 𝓡 b h.v h.law e
        (solve 𝓡 6 (λ a b c u v q. (b ⊗ u ⊕ v ⊗ q) ⊗ a ⊖ b ≈ b ⊗ (u ⊗ a ⊕ v ⊗ c ⊖ con 1) ⊕ v ⊗ (q ⊗ a ⊖ b ⊗ c)) tt a b c h.u h.v q),
  )
