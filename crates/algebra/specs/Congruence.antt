-- Congruence modulo an element f of a commutative ring: f divides a − b.
-- Proves that it is an equivalence that sums, negatives, products and powers keep, and, for polynomials, that each is congruent to one
-- polynomial of lower degree than a monic f, its remainder, and to only one. Assumes nothing.
use Rattle.std.specs.Prelude.{◌≡◌, ℕ, zero, suc}
use Rattle.std.proofs.Common.{sym, ◌∙◌, ap}
use Rattle.algebra.specs.Ring.{CommRing, zero_mul, sub_self, eq_of_sub, linear1}
use Rattle.algebra.specs.Identities.{con, ◌⊕◌, ◌⊖◌, ◌⊗◌, ⊝◌, ◌≈◌, solve}
use Rattle.algebra.specs.Divisibility.{◌∣◌, pow, pow_zero, pow_suc, divides_add, divides_mul}
use Rattle.algebra.specs.PolynomialRing.{Poly, PolyRing, ◌+ᴿ◌, 𝟏, ◌·◌}
use Rattle.algebra.specs.Degree.{Below, Monic, below_add, below_neg, small_multiple}
use Rattle.algebra.specs.Division.{Divided}

abbrev pub Congruent : {R : Type 0} → CommRing R → R → R → R → Type 0
Congruent 𝓡 f a b = ◌∣◌ 𝓡 f (𝓡.add a (𝓡.neg b))

module _ {R : Type 0} (𝓡 : CommRing R) {f : R} where
  infixl 60 ◌+ᴿ◌
  infixl 70 ◌*ᴿ◌
  open 𝓡 use {add as ◌+ᴿ◌, mul as ◌*ᴿ◌, neg, 𝟘, 𝟙}

  pub congruent_equal : {a b : R} → a ≡ b → Congruent 𝓡 f a b
  congruent_equal e = (𝟘, zero_mul 𝓡 f ∙ sym (sub_self 𝓡 e))

  pub congruent_sym : {a b : R} → Congruent 𝓡 f a b → Congruent 𝓡 f b a
  congruent_sym {a} {b} h =
      rw (solve 𝓡 2 (λ a b. b ⊖ a ≈ ⊝ con 1 ⊗ (a ⊖ b)) tt a b) (divides_mul 𝓡 (neg 𝟙) h)

  pub congruent_trans : {a b c : R} → Congruent 𝓡 f a b → Congruent 𝓡 f b c → Congruent 𝓡 f a c
  congruent_trans {a} {b} {c} h k = rw (solve 𝓡 3 (λ a b c. a ⊖ c ≈ a ⊖ b ⊕ (b ⊖ c)) tt a b c) (divides_add 𝓡 h k)

  pub congruent_add : {a b c d : R} → Congruent 𝓡 f a b → Congruent 𝓡 f c d → Congruent 𝓡 f (a +ᴿ c) (b +ᴿ d)
  congruent_add {a} {b} {c} {d} h k =
      rw (solve 𝓡 4 (λ a b c d. a ⊕ c ⊖ (b ⊕ d) ≈ a ⊖ b ⊕ (c ⊖ d)) tt a b c d) (divides_add 𝓡 h k)

  pub congruent_mul : {a b c d : R} → Congruent 𝓡 f a b → Congruent 𝓡 f c d → Congruent 𝓡 f (a *ᴿ c) (b *ᴿ d)
  congruent_mul {a} {b} {c} {d} h k =
      rw (solve 𝓡 4 (λ a b c d. a ⊗ c ⊖ b ⊗ d ≈ c ⊗ (a ⊖ b) ⊕ b ⊗ (c ⊖ d)) tt a b c d)
      (divides_add 𝓡 (divides_mul 𝓡 c h) (divides_mul 𝓡 b k))

  pub congruent_neg : {a b : R} → Congruent 𝓡 f a b → Congruent 𝓡 f (neg a) (neg b)
  congruent_neg {a} {b} h =
      rw (solve 𝓡 2 (λ a b. ⊝ a ⊖ ⊝ b ≈ ⊝ con 1 ⊗ (a ⊖ b)) tt a b) (divides_mul 𝓡 (neg 𝟙) h)

  pub congruent_pow : {a b : R} (n : ℕ) → Congruent 𝓡 f a b → Congruent 𝓡 f (pow 𝓡 a n) (pow 𝓡 b n)
  congruent_pow {a} {b} zero h = congruent_equal (pow_zero 𝓡 a ∙ sym (pow_zero 𝓡 b))
  congruent_pow {a} {b} (suc n) h = rw (pow_suc 𝓡 a n, pow_suc 𝓡 b n) (congruent_mul h (congruent_pow n h))

  -- a multiple of f is congruent to 𝟘, and what is congruent to a multiple of f is one
  pub congruent_zero : {a : R} → ◌∣◌ 𝓡 f a → Congruent 𝓡 f a 𝟘
  congruent_zero {a} d = rw (solve 𝓡 1 (λ a. a ⊖ con 0 ≈ a) tt a) d

  pub divides_congruent : {a b : R} → Congruent 𝓡 f a b → ◌∣◌ 𝓡 f b → ◌∣◌ 𝓡 f a
  divides_congruent {a} {b} h d = rw (solve 𝓡 2 (λ a b. a ≈ a ⊖ b ⊕ b) tt a b) (divides_add 𝓡 h d)

module _ {R : Type 0} {𝓡 : CommRing R} {d : ℕ} {f : Poly 𝓡} where
  -- a polynomial is congruent to its remainder
  pub congruent_remainder : {a : Poly 𝓡} (D : Divided d f a) → Congruent (PolyRing 𝓡) f a D.remainder
  congruent_remainder {a} D = (
    D.quotient,
    linear1 (PolyRing 𝓡) 𝟏 D.law
        (solve (PolyRing 𝓡) 4 (λ q f r a. q ⊗ f ⊖ (a ⊖ r) ≈ con 1 ⊗ (q ⊗ f ⊕ r ⊖ a)) tt D.quotient f D.remainder a),
  )

  -- below the degree of a monic f congruent polynomials are equal
  pub congruent_unique : Monic d f → {a b : Poly 𝓡} → Below d a → Below d b → Congruent (PolyRing 𝓡) f a b → a ≡ b
  congruent_unique m {a} {b} h k (q, e) =
      eq_of_sub (PolyRing 𝓡)
      (sym e ∙ ap (λ c. c · f) (small_multiple m q (rw e (below_add h (below_neg k)))) ∙ zero_mul (PolyRing 𝓡) f)
