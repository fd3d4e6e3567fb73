-- The multiplicity of G in a: the k for which a = w·G^k and G does not divide w.
-- Proves that G^j divides a exactly where j ≤ k, so that k is unique; that G is coprime to w and multiplicities add in products, for a prime
-- element G; and that a monic polynomial of degree 1 or more has a multiplicity in every a ≢ 𝟎, over any ring with decided equality. Assumes nothing.
use Rattle.std.specs.Prelude.{◌≡◌, ◌≢◌, ℕ, zero, suc, ◌≤◌, ◌+◌}
use Rattle.std.proofs.Common.{sym, ◌∙◌, ap, ap₂, ⊎_elim, le_antisymm, arith}
use Rattle.algebra.specs.Ring.{CommRing, one_mul, mul_one, zero_mul}
use Rattle.algebra.specs.Identities.{◌⊗◌, ◌≈◌, solve}
use Rattle.algebra.specs.Divisibility.{◌∣◌, Coprime, pow, pow_zero, pow_add, pow_divides, divides_mul, coprime_mul, gauss}
use Rattle.algebra.specs.PolynomialRing.{Poly, PolyRing, ◌·◌, 𝟎}
use Rattle.algebra.specs.Degree.{Below, Monic, below_up, below_zero, below_factor}
use Rattle.algebra.specs.Leading.{bound, divides?}
use Rattle.factorisation.specs.PrimeElements.{PrimeElement, cancel_equal, mul_pow_top}

pub coprime_not_divides : {R : Type 0} {𝓡 : CommRing R} {G a : R} → PrimeElement 𝓡 G → Coprime 𝓡 G a → ¬ ◌∣◌ 𝓡 G a
coprime_not_divides {𝓡 = 𝓡} prime c d = prime.nonunit (gauss 𝓡 c (rw one_mul d))

pub record Multiplicity {R : Type 0} (𝓡 : CommRing R) (G a : R) : Type 0 where
  pub k : ℕ
  pub w : R
  pub law : 𝓡.mul w (pow 𝓡 G k) ≡ a
  pub stop : ¬ ◌∣◌ 𝓡 G w

module _ {R : Type 0} (𝓡 : CommRing R) (G : R) where
  infixl 70 ◌*ᴿ◌
  open 𝓡 use {mul as ◌*ᴿ◌, 𝟘}

  module _ (cancel : (q : R) → q *ᴿ G ≡ 𝟘 → q ≡ 𝟘) where
    exponent_bound : (w : R) → ¬ ◌∣◌ 𝓡 G w → (j k : ℕ) → ◌∣◌ 𝓡 (pow 𝓡 G j) (w *ᴿ pow 𝓡 G k) → j ≤ k
    exponent_bound w stop zero k d = omega arith
    exponent_bound w stop (suc j) zero (q, e) =
        absurd (stop (q *ᴿ pow 𝓡 G j, mul_pow_top 𝓡 q j ∙ e ∙ ap (λ z. w *ᴿ z) (pow_zero 𝓡 G) ∙ mul_one 𝓡 w))
    exponent_bound w stop (suc j) (suc k) (q, e) =
        let l = exponent_bound w stop j k (q, cancel_equal 𝓡 cancel (mul_pow_top 𝓡 q j ∙ e ∙ sym (mul_pow_top 𝓡 w k))) in omega arith

module _ {R : Type 0} {𝓡 : CommRing R} {G a : R} where
  pub power_divides : (M : Multiplicity 𝓡 G a) {j : ℕ} → j ≤ M.k → ◌∣◌ 𝓡 (pow 𝓡 G j) a
  power_divides M l = rw (← M.law) (divides_mul 𝓡 M.w (pow_divides 𝓡 G l))

  pub power_bound : ((q : R) → 𝓡.mul q G ≡ 𝓡.𝟘 → q ≡ 𝓡.𝟘) → (M : Multiplicity 𝓡 G a) {j : ℕ} → ◌∣◌ 𝓡 (pow 𝓡 G j) a → j ≤ M.k
  power_bound cancel M {j} d = exponent_bound 𝓡 G cancel M.w M.stop j M.k (rw M.law d)

  pub multiplicity_unique : ((q : R) → 𝓡.mul q G ≡ 𝓡.𝟘 → q ≡ 𝓡.𝟘) → (M N : Multiplicity 𝓡 G a) → M.k ≡ N.k
  multiplicity_unique cancel M N =
      le_antisymm (power_bound cancel N (power_divides M (omega arith))) (power_bound cancel M (power_divides N (omega arith)))

pub rest_coprime : {R : Type 0} {𝓡 : CommRing R} {G a : R} → PrimeElement 𝓡 G → (M : Multiplicity 𝓡 G a) → Coprime 𝓡 G M.w
rest_coprime prime M = ⊎_elim (λ d. absurd (M.stop d)) (λ c. c) (prime.test M.w)

module _ {R : Type 0} {𝓡 : CommRing R} {G a b : R} where
  abbrev in_product : PrimeElement 𝓡 G → Multiplicity 𝓡 G a → Multiplicity 𝓡 G b → Multiplicity 𝓡 G (𝓡.mul a b)
  in_product prime M N = record {
    k = M.k + N.k;
    w = 𝓡.mul M.w N.w;
    law = ap (𝓡.mul (𝓡.mul M.w N.w)) (pow_add 𝓡 G M.k N.k)
        ∙ solve 𝓡 4 (λ v w x y. v ⊗ w ⊗ (x ⊗ y) ≈ v ⊗ x ⊗ (w ⊗ y)) tt M.w N.w (pow 𝓡 G M.k) (pow 𝓡 G N.k)
        ∙ ap₂ 𝓡.mul M.law N.law;
    stop = coprime_not_divides prime (coprime_mul 𝓡 (rest_coprime prime M) (rest_coprime prime N));
  }

  pub multiplicity_mul : PrimeElement 𝓡 G → (M : Multiplicity 𝓡 G a) (N : Multiplicity 𝓡 G b) (P : Multiplicity 𝓡 G (𝓡.mul a b))
      → P.k ≡ M.k + N.k
  multiplicity_mul prime M N P = multiplicity_unique prime.cancel P (in_product prime M N)

module _ {R : Type 0} {𝓡 : CommRing R} (decide : Discrete R) {d : ℕ} {G : Poly 𝓡} (positive : 1 ≤ d) (m : Monic d G) where
  multiplicity_from : (n : ℕ) (a : Poly 𝓡) → Below n a → a ≢ 𝟎 → Multiplicity (PolyRing 𝓡) G a
  multiplicity_from zero a h ne = absurd (ne (below_zero h))
  multiplicity_from (suc n) a h ne = go (divides? decide m a) (λ q. multiplicity_from n q)
    where
      go : Dec (◌∣◌ (PolyRing 𝓡) G a) → ((q : Poly 𝓡) → Below n q → q ≢ 𝟎 → Multiplicity (PolyRing 𝓡) G q) → Multiplicity (PolyRing 𝓡) G a
      go (no s) f = record { k = 0; w = a; law = ap (λ z. a · z) (pow_zero (PolyRing 𝓡) G) ∙ mul_one (PolyRing 𝓡) a; stop = s }
      go (yes (q, e)) f = up (f q (below_factor m n q (rw e (below_up (omega arith) h))) nonzero)
        where
          nonzero : q ≢ 𝟎
          nonzero z = ne (sym e ∙ ap (λ x. x · G) z ∙ zero_mul (PolyRing 𝓡) G)

          up : Multiplicity (PolyRing 𝓡) G q → Multiplicity (PolyRing 𝓡) G a
          up M = record { k = suc M.k; w = M.w; law = sym (mul_pow_top (PolyRing 𝓡) M.w M.k) ∙ ap (λ x. x · G) M.law ∙ e; stop = M.stop }

  pub multiplicity : (a : Poly 𝓡) → a ≢ 𝟎 → Multiplicity (PolyRing 𝓡) G a
  multiplicity a = let b = bound decide a in multiplicity_from b.0 a b.1
