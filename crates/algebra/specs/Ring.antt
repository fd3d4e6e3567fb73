-- Commutative rings: one record of operations and laws.
-- Proves the laws that follow, the ruleset `ring` for `simp`, and linear combinations of equations.
-- Assumes nothing.
use Rattle.std.specs.Prelude.{◌≡◌}
use Rattle.std.proofs.Common.{sym, ◌∙◌, ap}
use Rattle.std.proofs.Math.Path.{◌≡⟨◌⟩◌, ◌∎}

pub record CommRing (R : Type 0) : Type 0 where
  pub add : R → R → R
  pub mul : R → R → R
  pub neg : R → R
  pub 𝟘 : R
  pub 𝟙 : R
  pub is_set : IsSet R
  pub +_assoc : (a b c : R) → add (add a b) c ≡ add a (add b c)
  pub +_comm : (a b : R) → add a b ≡ add b a
  pub +_zero : (a : R) → add 𝟘 a ≡ a
  pub +_neg : (a : R) → add (neg a) a ≡ 𝟘
  pub *_assoc : (a b c : R) → mul (mul a b) c ≡ mul a (mul b c)
  pub *_comm : (a b : R) → mul a b ≡ mul b a
  pub *_one : (a : R) → mul 𝟙 a ≡ a
  pub distrib : (a b c : R) → mul a (add b c) ≡ add (mul a b) (mul a c)

module _ {R : Type 0} (𝓡 : CommRing R) where
  infixl 60 ◌+ᴿ◌
  infixl 70 ◌*ᴿ◌
  open 𝓡 use {add as ◌+ᴿ◌, mul as ◌*ᴿ◌, neg, 𝟘, 𝟙}

  -- ---- the fields as lemmas, which a ruleset can name

  pub add_assoc : (a b c : R) → a +ᴿ b +ᴿ c ≡ a +ᴿ (b +ᴿ c)
  add_assoc = 𝓡.+_assoc

  pub add_comm : (a b : R) → a +ᴿ b ≡ b +ᴿ a
  add_comm = 𝓡.+_comm

  pub zero_add : (a : R) → 𝟘 +ᴿ a ≡ a
  zero_add = 𝓡.+_zero

  pub neg_add : (a : R) → neg a +ᴿ a ≡ 𝟘
  neg_add = 𝓡.+_neg

  pub mul_assoc : (a b c : R) → a *ᴿ b *ᴿ c ≡ a *ᴿ (b *ᴿ c)
  mul_assoc = 𝓡.*_assoc

  pub mul_comm : (a b : R) → a *ᴿ b ≡ b *ᴿ a
  mul_comm = 𝓡.*_comm

  pub one_mul : (a : R) → 𝟙 *ᴿ a ≡ a
  one_mul = 𝓡.*_one

  pub mul_add : (a b c : R) → a *ᴿ (b +ᴿ c) ≡ a *ᴿ b +ᴿ a *ᴿ c
  mul_add = 𝓡.distrib

  -- ---- what follows

  pub add_zero : (a : R) → a +ᴿ 𝟘 ≡ a
  add_zero a = add_comm a 𝟘 ∙ zero_add a

  pub add_neg : (a : R) → a +ᴿ neg a ≡ 𝟘
  add_neg a = add_comm a (neg a) ∙ neg_add a

  pub add_left_comm : (a b c : R) → a +ᴿ (b +ᴿ c) ≡ b +ᴿ (a +ᴿ c)
  add_left_comm a b c = rw (← add_assoc a b c, ← add_assoc b a c, add_comm a b)

  pub mul_left_comm : (a b c : R) → a *ᴿ (b *ᴿ c) ≡ b *ᴿ (a *ᴿ c)
  mul_left_comm a b c = rw (← mul_assoc a b c, ← mul_assoc b a c, mul_comm a b)

  pub mul_one : (a : R) → a *ᴿ 𝟙 ≡ a
  mul_one a = mul_comm a 𝟙 ∙ one_mul a

  pub add_mul : (a b c : R) → (a +ᴿ b) *ᴿ c ≡ a *ᴿ c +ᴿ b *ᴿ c
  add_mul a b c = rw (mul_comm (a +ᴿ b) c, mul_add, mul_comm c a, mul_comm c b)

  pub add_neg_cancel : (a b : R) → a +ᴿ (neg a +ᴿ b) ≡ b
  add_neg_cancel a b = rw (← add_assoc, add_neg, zero_add)

  pub neg_add_cancel : (a b : R) → neg a +ᴿ (a +ᴿ b) ≡ b
  neg_add_cancel a b = rw (← add_assoc, neg_add, zero_add)

  pub add_left_cancel : {a b c : R} → a +ᴿ b ≡ a +ᴿ c → b ≡ c
  add_left_cancel {a} {b} {c} e = sym (neg_add_cancel a b) ∙ ap (λ x. neg a +ᴿ x) e ∙ neg_add_cancel a c

  pub mul_zero : (a : R) → a *ᴿ 𝟘 ≡ 𝟘
  mul_zero a = add_left_cancel {a = a *ᴿ 𝟘} (rw (← mul_add, zero_add, add_zero))

  pub zero_mul : (a : R) → 𝟘 *ᴿ a ≡ 𝟘
  zero_mul a = mul_comm 𝟘 a ∙ mul_zero a

  pub neg_unique : {a b : R} → a +ᴿ b ≡ 𝟘 → b ≡ neg a
  neg_unique {a} {b} e = add_left_cancel (e ∙ sym (add_neg a))

  pub neg_neg : (a : R) → neg (neg a) ≡ a
  neg_neg a = sym (neg_unique (neg_add a))

  pub neg_zero : neg 𝟘 ≡ 𝟘
  neg_zero = sym (neg_unique (zero_add 𝟘))

  pub neg_distrib : (a b : R) → neg (a +ᴿ b) ≡ neg a +ᴿ neg b
  neg_distrib a b = sym (neg_unique (simp (add_assoc, add_left_comm b (neg a) (neg b), add_neg, add_zero)))

  pub neg_mul : (a b : R) → neg a *ᴿ b ≡ neg (a *ᴿ b)
  neg_mul a b = neg_unique (rw (← add_mul, add_neg, zero_mul))

  pub mul_neg : (a b : R) → a *ᴿ neg b ≡ neg (a *ᴿ b)
  mul_neg a b = neg_unique (rw (← mul_add, add_neg, mul_zero))

  -- ---- equations as differences

  pub sub_self : {a b : R} → a ≡ b → a +ᴿ neg b ≡ 𝟘
  sub_self {a} {b} e = ap (λ x. x +ᴿ neg b) e ∙ add_neg b

  pub eq_of_sub : {a b : R} → a +ᴿ neg b ≡ 𝟘 → a ≡ b
  eq_of_sub {a} {b} e =
      a ≡⟨ sym (add_zero a) ⟩
      a +ᴿ 𝟘 ≡⟨ ap (λ x. a +ᴿ x) (sym (neg_add b)) ⟩
      a +ᴿ (neg b +ᴿ b) ≡⟨ sym (add_assoc a (neg b) b) ⟩
      a +ᴿ neg b +ᴿ b ≡⟨ ap (λ x. x +ᴿ b) e ⟩
      𝟘 +ᴿ b ≡⟨ zero_add b ⟩
      b ∎

  multiple_zero : {l r : R} (c : R) → l ≡ r → c *ᴿ (l +ᴿ neg r) ≡ 𝟘
  multiple_zero c h = ap (λ x. c *ᴿ x) (sub_self h) ∙ mul_zero c

  -- x ≡ y from equations l ≡ r with multipliers c: x − y is the sum of the c·(l − r), by `solve` of Identities
  pub linear1 : {l r x y : R} (c : R) → l ≡ r → x +ᴿ neg y ≡ c *ᴿ (l +ᴿ neg r) → x ≡ y
  linear1 c h e = eq_of_sub (e ∙ multiple_zero c h)

  pub linear2 : {l r l' r' x y : R} (c c' : R) → l ≡ r → l' ≡ r'
      → x +ᴿ neg y ≡ c *ᴿ (l +ᴿ neg r) +ᴿ c' *ᴿ (l' +ᴿ neg r') → x ≡ y
  linear2 c c' h h' e = eq_of_sub (e ∙ simp (multiple_zero c h, multiple_zero c' h', zero_add))

  pub linear3 : {l r l' r' l'' r'' x y : R} (c c' c'' : R) → l ≡ r → l' ≡ r' → l'' ≡ r''
      → x +ᴿ neg y ≡ c *ᴿ (l +ᴿ neg r) +ᴿ c' *ᴿ (l' +ᴿ neg r') +ᴿ c'' *ᴿ (l'' +ᴿ neg r'') → x ≡ y
  linear3 c c' c'' h h' h'' e = eq_of_sub (e ∙ simp (multiple_zero c h, multiple_zero c' h', multiple_zero c'' h'', zero_add))

-- multiplied out, sums and products in one order; terms that cancel at a distance are left to `solve` of Identities
pub ruleset ring = (
  add_assoc,
  add_comm,
  zero_add,
  neg_add,
  mul_assoc,
  mul_comm,
  one_mul,
  mul_add,
  add_zero,
  add_neg,
  add_left_comm,
  mul_left_comm,
  mul_one,
  add_mul,
  mul_zero,
  zero_mul,
  neg_neg,
  neg_zero,
  neg_distrib,
  neg_mul,
  mul_neg,
  add_neg_cancel,
  neg_add_cancel,
)
