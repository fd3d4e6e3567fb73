-- The ring R[x] of polynomials over a commutative ring R: the coefficient sequences that end somewhere.
-- Constants, x, the tail of a polynomial; proves the ring laws and what each operation does to a coefficient.
-- Divisibility in this ring is the plain one: no statement carries a bound on a cofactor. Assumes nothing.
use Rattle.std.specs.Prelude.{◌≡◌, ℕ, zero, suc, ◌+◌}
use Rattle.std.proofs.Math.Path.{refl, fun_ext}
use Rattle.std.proofs.Common.{sym, ◌∙◌, ap, ap₂, arith}
use mathlib.Core.HLevel.{Σ_set, prop→set, →_set, is_prop→PathP}
use Rattle.std.proofs.Math.Logic.{∥∥₁_prop, ∥∥₁_map, ∥∥₁_map₂}
use Rattle.algebra.specs.Ring.{CommRing, zero_mul, mul_zero, zero_add, add_zero, add_neg, neg_unique}
use Rattle.algebra.specs.Series.{Ends, ◌⊠◌, single, single_⊠, ⊠_zero, ⊠_suc, ⊠_comm, ⊠_assoc, ⊞_⊠, ends_⊞, ends_neg, ends_single, ends_⊠}

abbrev pub Bounded : {R : Type 0} → CommRing R → (ℕ → R) → Type 0
Bounded 𝓡 a = (d : ℕ) × Ends 𝓡 d a

pub record Poly {R : Type 0} (𝓡 : CommRing R) : Type 0 where
  pub coef : ℕ → R
  pub bounded : ∥ Bounded 𝓡 coef ∥₁

-- polynomials with the same coefficients are equal
pub poly_path : {R : Type 0} {𝓡 : CommRing R} {a b : Poly 𝓡} → a.coef ≡ b.coef → a ≡ b
poly_path {𝓡 = 𝓡} {a = a} {b} e =
    λ i. record { coef = e i; bounded = is_prop→PathP (λ j. ∥ Bounded 𝓡 (e j) ∥₁) (λ j. ∥∥₁_prop) a.bounded b.bounded i }

module _ {R : Type 0} (𝓡 : CommRing R) where
  infixl 60 ◌+ᴿ◌
  infixl 70 ◌*ᴿ◌
  open 𝓡 use {add as ◌+ᴿ◌, mul as ◌*ᴿ◌, neg, 𝟘, 𝟙}

  pub poly_set : IsSet (Poly 𝓡)
  poly_set a b p q =
      λ i j. from (Σ_set (→_set 𝓡.is_set) (λ c. prop→set ∥∥₁_prop) (pair a) (pair b) (λ k. pair (p k)) (λ k. pair (q k)) i j)
    where
      pair : Poly 𝓡 → (c : ℕ → R) × ∥ Bounded 𝓡 c ∥₁
      pair c = (c.coef, c.bounded)

      from : (c : ℕ → R) × ∥ Bounded 𝓡 c ∥₁ → Poly 𝓡
      from c = record { coef = c.0; bounded = c.1 }

  pub bounded_mul : {a b : ℕ → R} → Bounded 𝓡 a → Bounded 𝓡 b → Bounded 𝓡 (◌⊠◌ 𝓡 a b)
  bounded_mul {a} {b} (d, h) (e, g) = (d + e, ends_⊠ 𝓡 d e a b h (λ k l. g k (omega arith)))

  unfoldable pub PolyRing : CommRing (Poly 𝓡)
  PolyRing = record {
    add = λ a b. record {
      coef = λ k. a.coef k +ᴿ b.coef k;
      bounded = ∥∥₁_map₂ a.bounded b.bounded (λ h g. (h.0 + g.0, ends_⊞ 𝓡 h.1 g.1));
    };
    mul = λ a b. record { coef = ◌⊠◌ 𝓡 a.coef b.coef; bounded = ∥∥₁_map₂ a.bounded b.bounded bounded_mul };
    neg = λ a. record { coef = λ k. neg (a.coef k); bounded = ∥∥₁_map a.bounded (λ h. (h.0, ends_neg 𝓡 h.1)) };
    𝟘 = record { coef = λ k. 𝟘; bounded = ∣ (0, λ k l. refl) ∣₁ };
    𝟙 = record { coef = single 𝓡 𝟙; bounded = ∣ (1, ends_single 𝓡 𝟙) ∣₁ };
    is_set = poly_set;
    +_assoc = λ a b c. poly_path (fun_ext (λ k. 𝓡.+_assoc (a.coef k) (b.coef k) (c.coef k)));
    +_comm = λ a b. poly_path (fun_ext (λ k. 𝓡.+_comm (a.coef k) (b.coef k)));
    +_zero = λ a. poly_path (fun_ext (λ k. 𝓡.+_zero (a.coef k)));
    +_neg = λ a. poly_path (fun_ext (λ k. 𝓡.+_neg (a.coef k)));
    *_assoc = λ a b c. poly_path (fun_ext (⊠_assoc 𝓡 a.coef b.coef c.coef));
    *_comm = λ a b. poly_path (fun_ext (⊠_comm 𝓡 a.coef b.coef));
    *_one = λ a. poly_path (fun_ext (λ k. single_⊠ 𝓡 𝟙 a.coef k ∙ 𝓡.*_one (a.coef k)));
    distrib = λ a b c. poly_path (fun_ext (λ k.
        ⊠_comm 𝓡 a.coef (λ j. b.coef j +ᴿ c.coef j) k
        ∙ ⊞_⊠ 𝓡 b.coef c.coef a.coef k
        ∙ ap₂ ◌+ᴿ◌ (⊠_comm 𝓡 b.coef a.coef k) (⊠_comm 𝓡 c.coef a.coef k)));
  }

-- ---- notation: the ring is found from the polynomials

infixl 60 ◌+ᴿ◌
infixl 70 ◌·◌
infixr 80 -ᴿ◌
module _ {R : Type 0} {𝓡 : CommRing R} where
  abbrev pub ◌+ᴿ◌ : Poly 𝓡 → Poly 𝓡 → Poly 𝓡
  ◌+ᴿ◌ = (PolyRing 𝓡).add

  abbrev pub ◌·◌ : Poly 𝓡 → Poly 𝓡 → Poly 𝓡
  ◌·◌ = (PolyRing 𝓡).mul

  abbrev pub -ᴿ◌ : Poly 𝓡 → Poly 𝓡
  -ᴿ◌ = (PolyRing 𝓡).neg

  abbrev pub 𝟎 : Poly 𝓡
  𝟎 = (PolyRing 𝓡).𝟘

  abbrev pub 𝟏 : Poly 𝓡
  𝟏 = (PolyRing 𝓡).𝟙

  unfoldable pub constant : R → Poly 𝓡
  constant c = record { coef = single 𝓡 c; bounded = ∣ (1, ends_single 𝓡 c) ∣₁ }

  -- the coefficients 𝟘, 𝟙, 𝟘, ..
  unfoldable pub x : Poly 𝓡
  x = record { coef = up; bounded = ∣ (2, ends) ∣₁ }
    where
      up : ℕ → R
      up zero = 𝓡.𝟘
      up (suc k) = single 𝓡 𝓡.𝟙 k

      ends : Ends 𝓡 2 up
      ends zero l = absurd (omega arith)
      ends (suc k) l = ends_single 𝓡 𝓡.𝟙 k (omega arith)

  -- (a − a₀) / x
  unfoldable pub tail : Poly 𝓡 → Poly 𝓡
  tail a = record { coef = λ k. a.coef (suc k); bounded = ∥∥₁_map a.bounded (λ h. (h.0, λ k l. h.1 (suc k) (omega arith))) }

-- φ, which keeps 𝟘, on each coefficient
unfoldable pub each : {R S : Type 0} {𝓡 : CommRing R} {𝓢 : CommRing S} (φ : R → S) → φ 𝓡.𝟘 ≡ 𝓢.𝟘 → Poly 𝓡 → Poly 𝓢
each φ e a = record { coef = λ k. φ (a.coef k); bounded = ∥∥₁_map a.bounded (λ h. (h.0, λ k l. ap φ (h.1 k l) ∙ e)) }

-- ---- coefficients

module _ {R : Type 0} (𝓡 : CommRing R) where
  pub coef_zero : (k : ℕ) → (PolyRing 𝓡).𝟘.coef k ≡ 𝓡.𝟘
  unfolding PolyRing
  coef_zero k = refl

  pub coef_constant_zero : (c : R) → (constant {𝓡 = 𝓡} c).coef 0 ≡ c
  unfolding constant single
  coef_constant_zero c = refl

  pub coef_constant_suc : (c : R) (k : ℕ) → (constant {𝓡 = 𝓡} c).coef (suc k) ≡ 𝓡.𝟘
  unfolding constant single
  coef_constant_suc c k = refl

  pub constant_one : constant {𝓡 = 𝓡} 𝓡.𝟙 ≡ 𝟏
  unfolding PolyRing constant
  constant_one = refl

  pub constant_zero : constant {𝓡 = 𝓡} 𝓡.𝟘 ≡ 𝟎
  constant_zero = poly_path (fun_ext at)
    where
      at : (k : ℕ) → (constant {𝓡 = 𝓡} 𝓡.𝟘).coef k ≡ (PolyRing 𝓡).𝟘.coef k
      at zero = coef_constant_zero 𝓡.𝟘 ∙ sym (coef_zero 0)
      at (suc k) = coef_constant_suc 𝓡.𝟘 k ∙ sym (coef_zero (suc k))

  tail_x : tail (x {𝓡 = 𝓡}) ≡ 𝟏
  unfolding PolyRing x tail
  tail_x = poly_path refl

module _ {R : Type 0} {𝓡 : CommRing R} where
  pub poly_ext : {a b : Poly 𝓡} → ((k : ℕ) → a.coef k ≡ b.coef k) → a ≡ b
  poly_ext h = poly_path (fun_ext h)

  pub coef_add : (a b : Poly 𝓡) (k : ℕ) → (a +ᴿ b).coef k ≡ 𝓡.add (a.coef k) (b.coef k)
  unfolding PolyRing
  coef_add a b k = refl

  pub coef_neg : (a : Poly 𝓡) (k : ℕ) → (-ᴿ a).coef k ≡ 𝓡.neg (a.coef k)
  unfolding PolyRing
  coef_neg a k = refl

  pub coef_mul_zero : (a b : Poly 𝓡) → (a · b).coef 0 ≡ 𝓡.mul (a.coef 0) (b.coef 0)
  unfolding PolyRing
  coef_mul_zero a b = ⊠_zero 𝓡 a.coef b.coef

  pub coef_mul_suc : (a b : Poly 𝓡) (k : ℕ)
      → (a · b).coef (suc k) ≡ 𝓡.add (𝓡.mul (a.coef 0) (b.coef (suc k))) ((tail a · b).coef k)
  unfolding PolyRing tail
  coef_mul_suc a b k = ⊠_suc 𝓡 a.coef b.coef k

  pub coef_constant_mul : (c : R) (a : Poly 𝓡) (k : ℕ) → (constant c · a).coef k ≡ 𝓡.mul c (a.coef k)
  unfolding PolyRing constant
  coef_constant_mul c a k = single_⊠ 𝓡 c a.coef k

  pub coef_x_mul_zero : (a : Poly 𝓡) → (x · a).coef 0 ≡ 𝓡.𝟘
  unfolding x
  coef_x_mul_zero a = coef_mul_zero x a ∙ zero_mul 𝓡 (a.coef 0)

  pub coef_x_mul_suc : (a : Poly 𝓡) (k : ℕ) → (x · a).coef (suc k) ≡ a.coef k
  coef_x_mul_suc a k =
      coef_mul_suc x a k
      ∙ ap₂ 𝓡.add (x_mul (a.coef (suc k))) (ap (λ b. (b · a).coef k) (tail_x 𝓡) ∙ ap (λ b. b.coef k) ((PolyRing 𝓡).*_one a))
      ∙ 𝓡.+_zero (a.coef k)
    where
      x_mul : (c : R) → 𝓡.mul ((x {𝓡 = 𝓡}).coef 0) c ≡ 𝓡.𝟘
      x_mul c = unfold x in zero_mul 𝓡 c

  pub coef_tail : (a : Poly 𝓡) (k : ℕ) → (tail a).coef k ≡ a.coef (suc k)
  unfolding tail
  coef_tail a k = refl

  -- a polynomial from its constant coefficient and the rest
  pub head_tail : (a : Poly 𝓡) → a ≡ constant (a.coef 0) +ᴿ x · tail a
  head_tail a = poly_ext at
    where
      at : (k : ℕ) → a.coef k ≡ (constant (a.coef 0) +ᴿ x · tail a).coef k
      at zero = sym (simp (coef_add, coef_constant_zero, coef_x_mul_zero, add_zero))
      at (suc k) = sym (simp (coef_add, coef_constant_suc, coef_x_mul_suc, coef_tail, zero_add))

  pub constant_add : (c e : R) → constant {𝓡 = 𝓡} (𝓡.add c e) ≡ constant c +ᴿ constant e
  constant_add c e = poly_ext at
    where
      at : (k : ℕ) → (constant {𝓡 = 𝓡} (𝓡.add c e)).coef k ≡ (constant {𝓡 = 𝓡} c +ᴿ constant e).coef k
      at zero = simp (coef_add, coef_constant_zero)
      at (suc k) = simp (coef_add, coef_constant_suc, zero_add)

  pub constant_mul : (c e : R) → constant {𝓡 = 𝓡} (𝓡.mul c e) ≡ constant c · constant e
  constant_mul c e = poly_ext at
    where
      at : (k : ℕ) → (constant {𝓡 = 𝓡} (𝓡.mul c e)).coef k ≡ (constant {𝓡 = 𝓡} c · constant e).coef k
      at zero = simp (coef_constant_mul, coef_constant_zero)
      at (suc k) = simp (coef_constant_mul, coef_constant_suc, mul_zero)

  pub constant_neg : (c : R) → constant {𝓡 = 𝓡} (𝓡.neg c) ≡ -ᴿ constant c
  constant_neg c =
      neg_unique (PolyRing 𝓡) (sym (constant_add c (𝓡.neg c)) ∙ ap constant (add_neg 𝓡 c) ∙ constant_zero 𝓡)

pub constant_unit : {R : Type 0} (𝓡 : CommRing R) {c e : R} → 𝓡.mul c e ≡ 𝓡.𝟙 → constant {𝓡 = 𝓡} c · constant e ≡ 𝟏
constant_unit 𝓡 {c} {e} h = sym (constant_mul c e) ∙ ap constant h ∙ constant_one 𝓡

-- the coefficients of sums, negatives and multiples by constants and x
pub ruleset coefficients = (
  coef_add,
  coef_neg,
  coef_zero,
  coef_constant_mul,
  coef_constant_zero,
  coef_constant_suc,
  coef_x_mul_zero,
  coef_x_mul_suc,
  coef_tail,
)
