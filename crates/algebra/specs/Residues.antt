-- The ring ℤ/n, as the numbers below n, for every n (with one element for n = 0), so that no statement carries a proof that n is positive.
-- `residue n x` is the class of the number x. Proves the ring laws, that `residue n` keeps sums and products, that numbers of one class leave
-- one remainder, and that classes are inverse where the product of their numbers leaves 1. Assumes nothing.
use Rattle.std.specs.Prelude.{◌≡◌, ℕ, suc, ◌+◌, ◌*◌, ◌-◌, ◌%◌, ◌<◌, ◌≤◌}
use Rattle.std.proofs.Math.Path.{refl, sym, ap}
use Rattle.std.proofs.Common.{◌∙◌, arith, mod-lt, add_assoc, add_comm, mul_assoc, mul_comm, mul-add, le_of_lt}
use mathlib.Core.HLevel.{Σ_set, prop→set, is_prop→PathP}
use Rattle.std.proofs.Math.Bridge.{le_prop}
use Rattle.std.proofs.Math.Nat.{ℕ_set, zero-mod, mod-eq_of_lt, mod-mod, mod_self, zero-add, one-mul, sub-add_cancel}
use Rattle.algebra.specs.Numbers.{modulo}
use Rattle.algebra.specs.Ring.{CommRing, neg_unique}

-- n, and 1 for 0
abbrev pub positive : ℕ → ℕ
positive n = suc (n - 1)

positive_is : {n : ℕ} → 0 < n → positive n ≡ n
positive_is h = omega arith

pub record ℤ/ (n : ℕ) : Type 0 where
  pub value : ℕ
  pub below : value < positive n

-- classes with the same number are equal
pub residue_path : {n : ℕ} {a b : ℤ/ n} → a.value ≡ b.value → a ≡ b
residue_path {n} {a} {b} e = λ i. record { value = e i; below = is_prop→PathP (λ j. e j < positive n) (λ j. le_prop) a.below b.below i }

pub residue_set : (n : ℕ) → IsSet (ℤ/ n)
residue_set n a b p q = λ i j. from (Σ_set ℕ_set (λ k. prop→set le_prop) (pair a) (pair b) (λ k. pair (p k)) (λ k. pair (q k)) i j)
  where
    pair : ℤ/ n → (k : ℕ) × (k < positive n)
    pair c = (c.value, c.below)

    from : (k : ℕ) × (k < positive n) → ℤ/ n
    from c = record { value = c.0; below = c.1 }

module _ (n : ℕ) where
  unfoldable pub residue : ℕ → ℤ/ n
  residue x = record { value = x % positive n; below = mod-lt x (omega arith) }

  unfoldable pub Residues : CommRing (ℤ/ n)
  unfolding residue
  Residues = record {
    add = λ a b. residue (a.value + b.value);
    mul = λ a b. residue (a.value * b.value);
    neg = λ a. residue (positive n - a.value);
    𝟘 = residue 0;
    𝟙 = residue 1;
    is_set = residue_set n;
    +_assoc = λ a b c. residue_path (simp (modulo, add_assoc));
    +_comm = λ a b. residue_path (rw (add_comm a.value b.value));
    +_zero = λ a. residue_path (simp (modulo, zero-add, mod-eq_of_lt a.below));
    +_neg = λ a. residue_path (simp (modulo, sub-add_cancel (le_of_lt a.below), mod_self) (sym (zero-mod (positive n))));
    *_assoc = λ a b c. residue_path (simp (modulo, mul_assoc));
    *_comm = λ a b. residue_path (rw (mul_comm a.value b.value));
    *_one = λ a. residue_path (simp (modulo, one-mul, mod-eq_of_lt a.below));
    distrib = λ a b c. residue_path (simp (modulo, mul-add));
  }

  infixl 60 ◌+ᴿ◌
  infixl 70 ◌*ᴿ◌
  open Residues use {add as ◌+ᴿ◌, mul as ◌*ᴿ◌, neg, 𝟘, 𝟙}

  pub residue_add : (x y : ℕ) → residue (x + y) ≡ residue x +ᴿ residue y
  unfolding Residues residue
  residue_add x y = residue_path (simp modulo)

  pub residue_mul : (x y : ℕ) → residue (x * y) ≡ residue x *ᴿ residue y
  unfolding Residues residue
  residue_mul x y = residue_path (simp modulo)

  pub residue_zero : residue 0 ≡ 𝟘
  unfolding Residues
  residue_zero = refl

  pub residue_one : residue 1 ≡ 𝟙
  unfolding Residues
  residue_one = refl

  -- the class of k + 1
  pub residue_suc : (k : ℕ) → residue (suc k) ≡ 𝟙 +ᴿ residue k
  residue_suc k = ap residue (let e : suc k ≡ 1 + k = omega arith in e) ∙ residue_add 1 k ∙ ap (λ c. c +ᴿ residue k) residue_one

  -- every class is that of its number
  pub residue_value : (a : ℤ/ n) → residue a.value ≡ a
  unfolding residue
  residue_value a = residue_path (mod-eq_of_lt a.below)

  module _ (pos : 0 < n) where
    pub value_residue : (x : ℕ) → (residue x).value ≡ x % n
    unfolding residue
    value_residue x = ap (λ (m : ℕ). x % m) (positive_is pos)

    pub value_below : (a : ℤ/ n) → a.value < n
    value_below a = let e : positive n ≡ n = positive_is pos in omega (arith, a.below)

    pub residue_self : residue n ≡ 𝟘
    unfolding residue Residues
    residue_self = residue_path (value_residue n ∙ mod_self n ∙ sym (zero-mod (positive n)))

    pub residue_mod : (x : ℕ) → residue (x % n) ≡ residue x
    unfolding residue
    residue_mod x = residue_path (value_residue (x % n) ∙ mod-mod x n ∙ sym (value_residue x))

    -- the negative of a number's class, as the code has it
    pub residue_neg : (x : ℕ) → x ≤ n → residue (n - x) ≡ neg (residue x)
    residue_neg x l =
        neg_unique Residues
        (sym (residue_add x (n - x)) ∙ ap residue (let e : x + (n - x) ≡ n = omega arith in e) ∙ residue_self)

    -- numbers of one class leave the same remainder
    pub same_remainder : (x y : ℕ) → residue x ≡ residue y → x % n ≡ y % n
    same_remainder x y e = sym (value_residue x) ∙ ap (λ a. a.value) e ∙ value_residue y

    pub zero_remainder : (x : ℕ) → residue x ≡ 𝟘 → x % n ≡ 0
    zero_remainder x e = same_remainder x 0 (e ∙ sym residue_zero) ∙ zero-mod n

    -- inverses, as numbers and as classes
    pub residue_inverse : (x y : ℕ) → x * y % n ≡ 1 → residue y *ᴿ residue x ≡ 𝟙
    residue_inverse x y e = rw (← residue_mul y x, mul_comm y x, ← residue_mod (x * y), e, residue_one)

    pub inverse_remainder : 1 < n → (x : ℕ) (b : ℤ/ n) → residue x *ᴿ b ≡ 𝟙 → x * b.value % n ≡ 1
    inverse_remainder large x b e = same_remainder (x * b.value) 1 (rw (residue_mul, residue_value, e, residue_one)) ∙ mod-eq_of_lt large
