-- Fields, and that ℤ/p is one for a prime p: the inverse of a is −(p / a) times that of p % a.
-- Proves it of every prime that is taken, by one computed test over the list of primes, and that every prime below 256 is taken, by one over those
-- numbers. Assumes nothing.
use Rattle.std.specs.Prelude.{◌≡◌, Bool, not, ◌&&◌, ◌||◌, ◌⊎◌, ◌≢◌, ℕ, zero, suc, ◌+◌, ◌*◌, ◌-◌, ◌<◌, ◌≤◌, ◌%◌, ◌/◌, T, eqb, leb}
use Rattle.std.proofs.Common.{sym, ◌∙◌, ap, subst, inl, inr, zero-le, mod-lt, pos_of_ne-zero, eq-or-lt_of_le, mod-eq_of_lt, arith, leb→le, le→leb, ne_eqb}
use Rattle.std.proofs.Math.Nat.{div-add-mod}
use Rattle.std.proofs.Math.Decide.{ℕ_discrete}
use Rattle.specification.specs.Limits.{primes, taken}
use Rattle.specification.specs.Lists.{all_pass, any_passes, up_from}
use Rattle.algebra.specs.Ring.{CommRing, zero_mul, neg_zero, add_zero as add-𝟘}
use Rattle.algebra.specs.Identities.{◌⊕◌, ◌⊖◌, ◌⊗◌, ⊝◌, ◌≈◌, solve}
use Rattle.algebra.specs.Divisibility.{unit_cancel}
use Rattle.algebra.specs.Residues.{
  ℤ/,
  residue,
  Residues,
  residue_path,
  residue_zero,
  residue_one,
  residue_add,
  residue_mul,
  residue_value,
  residue_self,
  value_below,
  zero_remainder,
}
use Rattle.lists.specs.Tests.{passes, both, left, right, either}
use Rattle.lists.specs.AllAny.{all_member, all_passes, member_passes}
use Rattle.lists.specs.NumbersFrom.{up_from_member, up_from_has}

-- equality is decided, and what is not 𝟘 has an inverse
pub record Field {R : Type 0} (𝓡 : CommRing R) : Type 0 where
  pub decide : Discrete R
  pub inverse : (a : R) → a ≢ 𝓡.𝟘 → (b : R) × (𝓡.mul a b ≡ 𝓡.𝟙)
  pub one_ne_zero : 𝓡.𝟙 ≢ 𝓡.𝟘

-- what is not 𝟘 cancels
pub field_cancel : {R : Type 0} {𝓡 : CommRing R} → Field 𝓡 → {x y : R} → x ≢ 𝓡.𝟘 → 𝓡.mul x y ≡ 𝓡.𝟘 → y ≡ 𝓡.𝟘
field_cancel {𝓡 = 𝓡} field {x} {y} n e =
    let (i, h) = field.inverse x n in unit_cancel 𝓡 (𝓡.*_comm i x ∙ h) (𝓡.*_comm y x ∙ e)

pub record Prime (p : ℕ) : Type 0 where
  pub large : 1 < p
  pub undivided : (a : ℕ) → 1 < a → a < p → p % a ≢ 0

pub prime_pos : {p : ℕ} → Prime p → 0 < p
prime_pos P = let l = P.large in omega arith

pub prime_suc : {p : ℕ} → Prime p → suc (p - 1) ≡ p
prime_suc P = let l = P.large in omega arith

pub residue_discrete : (n : ℕ) → Discrete (ℤ/ n)
residue_discrete n a b = go (ℕ_discrete a.value b.value)
  where
    go : Dec (a.value ≡ b.value) → Dec (a ≡ b)
    go (yes e) = yes (residue_path e)
    go (no k) = no (λ e. k (ap (λ (c : ℤ/ n). c.value) e))

-- more than one element
pub residue_nontrivial : {n : ℕ} → 1 < n → (Residues n).𝟙 ≢ (Residues n).𝟘
residue_nontrivial {n} l e =
    omega (arith, zero_remainder n (omega arith) 1 (residue_one n ∙ e), mod-eq_of_lt l)

module _ (p : ℕ) (P : Prime p) where
  infixl 60 ◌+ᴿ◌
  infixl 70 ◌*ᴿ◌
  open Residues p use {add as ◌+ᴿ◌, mul as ◌*ᴿ◌, neg, 𝟘, 𝟙}

  -- from a·q + r = p and r·b = 1
  invert_step : (a q r : ℕ) → a * q + r ≡ p → (b : ℤ/ p) → residue p r *ᴿ b ≡ 𝟙 → residue p a *ᴿ (neg (residue p q) *ᴿ b) ≡ 𝟙
  invert_step a q r e b h =
      solve (Residues p) 4 (λ a q r b. a ⊗ (⊝ q ⊗ b) ≈ r ⊗ b ⊖ (a ⊗ q ⊕ r) ⊗ b) tt (residue p a) (residue p q) (residue p r) b
      ∙ ap (λ c. residue p r *ᴿ b +ᴿ neg (c *ᴿ b)) whole
      ∙ simp (zero_mul, neg_zero, add-𝟘) h
    where
      whole : residue p a *ᴿ residue p q +ᴿ residue p r ≡ 𝟘
      whole =
          sym (residue_add p (a * q) r ∙ ap (λ c. c +ᴿ residue p r) (residue_mul p a q)) ∙ ap (residue p) e
          ∙ residue_self p (prime_pos P)

  -- by descent on a bound n of a
  invert : (n a : ℕ) → a ≤ n → 0 < a → a < p → (b : ℤ/ p) × (residue p a *ᴿ b ≡ 𝟙)
  invert zero a l z s = absurd (omega arith)
  invert (suc n) a l z s = go (eq-or-lt_of_le z) (λ r h k. invert n r h k)
    where
      go : (1 ≡ a) ⊎ (1 < a) → ((r : ℕ) → r ≤ n → 0 < r → r < p → (b : ℤ/ p) × (residue p r *ᴿ b ≡ 𝟙))
          → (b : ℤ/ p) × (residue p a *ᴿ b ≡ 𝟙)
      go (inl e) f = (𝟙, ap (λ (k : ℕ). residue p k *ᴿ 𝟙) (sym e) ∙ ap (λ c. c *ᴿ 𝟙) (residue_one p) ∙ (Residues p).*_one 𝟙)
      go (inr k) f =
          let m = mod-lt p z in
          let t = f (p % a) (omega arith) (pos_of_ne-zero (P.undivided a k s)) (omega arith) in
          (neg (residue p (p / a)) *ᴿ t.0, invert_step a (p / a) (p % a) (div-add-mod p a) t.0 t.1)

  value_pos : (a : ℤ/ p) → a ≢ 𝟘 → 0 < a.value
  value_pos a h = pos_of_ne-zero (λ e. h (sym (residue_value p a) ∙ ap (residue p) e ∙ residue_zero p))

  pub residue_field : Field (Residues p)
  residue_field = record {
    decide = residue_discrete p;
    inverse = λ a h.
        let t = invert a.value a.value (omega arith) (value_pos a h) (value_below p (prime_pos P) a) in
        (t.0, ap (λ c. c *ᴿ t.0) (sym (residue_value p a)) ∙ t.1);
    one_ne_zero = residue_nontrivial P.large;
  }

-- ---- the primes that are taken

-- no number from 2 to p − 1 divides p
unfoldable is_prime : ℕ → Bool
is_prime p = leb 2 p && all_pass (λ (a : ℕ). not (eqb (p % a) 0)) (up_from 2 (p - 2))

prime_by : (p : ℕ) → T (is_prime p) → Prime p
unfolding is_prime
prime_by p t = record { large = leb→le 2 p (left (leb 2 p) _ t); undivided = undivided }
  where
    undivided : (a : ℕ) → 1 < a → a < p → p % a ≢ 0
    undivided a l k e =
        subst (λ (m : ℕ). T (not (eqb m 0))) e
        (all_member (λ (b : ℕ). not (eqb (p % b) 0)) (up_from 2 (p - 2)) (right (leb 2 p) _ t) (up_from_has 2 (p - 2) l (omega arith)))

by_prime : (p : ℕ) → Prime p → T (is_prime p)
unfolding is_prime
by_prime p P =
    both (leb 2 p) _ (le→leb 2 p P.large)
    (all_passes (λ (a : ℕ). not (eqb (p % a) 0)) (up_from 2 (p - 2))
    (λ a i.
    let (l, u) = up_from_member 2 (p - 2) i in
    subst T (sym (ap not (ne_eqb (p % a) 0 (P.undivided a l (omega (arith, P.large)))))) tt))

-- every taken prime is one: the test passes on the whole list
pub taken_prime : (p : ℕ) → T (taken p) → Prime p
unfolding taken primes is_prime all_pass up_from
taken_prime p t = prime_by p (member_passes is_prime p primes t tt)

-- a number is taken or it is no prime
unfoldable taken_or_none : ℕ → Bool
taken_or_none p = taken p || not (is_prime p)

-- and every prime below 256 is taken: of the numbers below 256 those that are not in the list are no primes
pub prime_taken : (p : ℕ) → Prime p → p < 256 → T (taken p)
unfolding taken primes any_passes is_prime taken_or_none all_pass up_from
prime_taken p P l = at (either (taken p) _ (all_member taken_or_none (up_from 0 256) tt {a = p} (up_from_has 0 256 zero-le (omega arith))))
  where
    at : T (taken p) ⊎ T (not (is_prime p)) → T (taken p)
    at (inl t) = t
    at (inr n) = absurd (subst (λ b. T (not b)) (passes (is_prime p) (by_prime p P)) n)
