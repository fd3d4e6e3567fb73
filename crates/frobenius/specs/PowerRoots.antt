-- p-th powers of polynomials over ℤ/p, p a prime.
-- Proves that h^p has the coefficients of h at the multiples of p and no others, so that its degree is p times that of h; and that a polynomial with
-- derivative 𝟎 is the p-th power of the polynomial of its coefficients at the multiples of p. Assumes nothing.
use Rattle.std.specs.Prelude.{◌≡◌, ◌≢◌, ℕ, zero, suc, ◌<◌, ◌/◌, ◌%◌, ◌-◌, ◌+◌, ◌*◌}
use Rattle.std.proofs.Common.{sym, ◌∙◌, ap, ap₂, suc-mul, zero-mul, mod-lt, mod-eq_of_lt, mul-le-mul_right, pos_of_ne-zero, mul_comm, arith}
use Rattle.std.proofs.Math.Nat.{div-add-mod}
use Rattle.std.proofs.Math.Decide.{ℕ_discrete}
use Rattle.algebra.specs.Ring.{add_zero, zero_add}
use Rattle.algebra.specs.Divisibility.{pow_of_product}
use Rattle.algebra.specs.Residues.{Residues, zero_remainder}
use Rattle.algebra.specs.PolynomialRing.{
  ◌+ᴿ◌,
  ◌·◌,
  𝟎,
  x,
  constant,
  tail,
  poly_ext,
  coef_zero,
  coef_add,
  coef_constant_zero,
  coef_constant_suc,
  coef_tail,
  head_tail,
}
use Rattle.algebra.specs.Monomials.{x^, coef_shift_below, coef_shift}
use Rattle.algebra.specs.Degree.{Monic}
use Rattle.algebra.specs.Fields.{Prime, prime_pos, field_cancel, residue_field}
use Rattle.frobenius.specs.FrobeniusPowers.{◌^ᴿ◌, power_add, power_constant}
use Rattle.frobenius.specs.Derivatives.{derivative, coef_derivative}
use Rattle.algebra.specs.CoefficientLists.{ℤ[x]/, 𝓩[x]/}

module _ {p : ℕ} (P : Prime p) where
  -- (h₀ + x·t)^p = h₀ + x^p·t^p
  power_horner : (h : ℤ[x]/ p) → h ^ᴿ p ≡ constant (h.coef 0) +ᴿ x^ p · tail h ^ᴿ p
  power_horner h =
      ap (λ a. a ^ᴿ p) (head_tail h)
      ∙ power_add P (constant (h.coef 0)) (x · tail h)
      ∙ ap₂ ◌+ᴿ◌ (power_constant P (h.coef 0)) (pow_of_product (𝓩[x]/ p) x (tail h) p)

  power_first : (h : ℤ[x]/ p) → (h ^ᴿ p).coef 0 ≡ h.coef 0
  power_first h =
      ap (λ a. a.coef 0) (power_horner h)
      ∙ coef_add (constant (h.coef 0)) (x^ p · tail h ^ᴿ p) 0
      ∙ ap₂ (Residues p).add (coef_constant_zero (Residues p) (h.coef 0)) (coef_shift_below p (tail h ^ᴿ p) 0 (prime_pos P))
      ∙ add_zero (Residues p) (h.coef 0)

  -- past the constant term there is x^p·t^p alone
  power_later : (h : ℤ[x]/ p) (k : ℕ) → 0 < k → (h ^ᴿ p).coef k ≡ (x^ p · tail h ^ᴿ p).coef k
  power_later h zero l = absurd (omega arith)
  power_later h (suc k) l =
      ap (λ a. a.coef (suc k)) (power_horner h)
      ∙ coef_add (constant (h.coef 0)) (x^ p · tail h ^ᴿ p) (suc k)
      ∙ ap (λ c. (Residues p).add c ((x^ p · tail h ^ᴿ p).coef (suc k))) (coef_constant_suc (Residues p) (h.coef 0) k)
      ∙ zero_add (Residues p) ((x^ p · tail h ^ᴿ p).coef (suc k))

  power_next : (h : ℤ[x]/ p) (k : ℕ) → (h ^ᴿ p).coef (p + k) ≡ (tail h ^ᴿ p).coef k
  power_next h k =
      power_later h (p + k) (omega (arith, prime_pos P)) ∙ coef_shift p (tail h ^ᴿ p) (p + k) (omega arith)
      ∙ ap (tail h ^ᴿ p).coef (let e : p + k - p ≡ k = omega arith in e)

  -- ---- the coefficients of a p-th power

  power_at : (i : ℕ) (h : ℤ[x]/ p) → (h ^ᴿ p).coef (i * p) ≡ h.coef i
  power_at zero h = ap (h ^ᴿ p).coef (zero-mul p) ∙ power_first h
  power_at (suc i) h =
      ap (h ^ᴿ p).coef (let e : suc i * p ≡ p + i * p = omega (arith, suc-mul i p) in e)
      ∙ power_next h (i * p) ∙ power_at i (tail h) ∙ coef_tail h i

  power_between : (i r : ℕ) (h : ℤ[x]/ p) → 0 < r → r < p → (h ^ᴿ p).coef (i * p + r) ≡ (Residues p).𝟘
  power_between zero r h pos small =
      ap (h ^ᴿ p).coef (let e : zero * p + r ≡ r = omega (arith, zero-mul p) in e)
      ∙ power_later h r pos ∙ coef_shift_below p (tail h ^ᴿ p) r small
  power_between (suc i) r h pos small =
      ap (h ^ᴿ p).coef (let e : suc i * p + r ≡ p + (i * p + r) = omega (arith, suc-mul i p) in e)
      ∙ power_next h (i * p + r) ∙ power_between i r (tail h) pos small

  whole : (k : ℕ) → k ≡ k / p * p + k % p
  whole k = omega (arith, div-add-mod k p, mul_comm p (k / p))

  power_off : (h : ℤ[x]/ p) (k : ℕ) → k % p ≢ 0 → (h ^ᴿ p).coef k ≡ (Residues p).𝟘
  power_off h k n = ap (h ^ᴿ p).coef (whole k) ∙ power_between (k / p) (k % p) h (pos_of_ne-zero n) (mod-lt k (prime_pos P))

  -- ---- polynomials with derivative 𝟎

  -- k times a coefficient is 𝟘, and k is not
  coefficient_off : (a : ℤ[x]/ p) → derivative a ≡ 𝟎 → (k : ℕ) → k % p ≢ 0 → a.coef k ≡ (Residues p).𝟘
  coefficient_off a e zero n = absurd (n (mod-eq_of_lt (prime_pos P)))
  coefficient_off a e (suc k) n =
      field_cancel (residue_field p P) (λ z. n (zero_remainder p (prime_pos P) (suc k) z))
      (sym (coef_derivative a k) ∙ ap (λ b. b.coef k) e ∙ coef_zero (Residues p) k)

  -- a is the p-th power of h, which has the coefficients of a at the multiples of p
  pub power_of_root : (a h : ℤ[x]/ p) → derivative a ≡ 𝟎 → ((i : ℕ) → h.coef i ≡ a.coef (i * p)) → h ^ᴿ p ≡ a
  power_of_root a h e same = poly_ext (λ k. at k (ℕ_discrete (k % p) 0))
    where
      at : (k : ℕ) → Dec (k % p ≡ 0) → (h ^ᴿ p).coef k ≡ a.coef k
      at k (yes z) = let s : k ≡ k / p * p = omega (arith, whole k) in
          ap (h ^ᴿ p).coef s ∙ power_at (k / p) h ∙ same (k / p) ∙ ap a.coef (sym s)
      at k (no n) = power_off h k n ∙ sym (coefficient_off a e k n)

  pub degree_multiple : {a : ℤ[x]/ p} {e : ℕ} → Monic e a → derivative a ≡ 𝟎 → e / p * p ≡ e
  degree_multiple {a} {e} m z = at (ℕ_discrete (e % p) 0)
    where
      at : Dec (e % p ≡ 0) → e / p * p ≡ e
      at (yes l) = omega (arith, whole e)
      at (no n) = absurd ((residue_field p P).one_ne_zero (sym m.leading ∙ coefficient_off a z e n))

  pub root_monic : {a h : ℤ[x]/ p} {e i : ℕ} → h ^ᴿ p ≡ a → Monic e a → i * p ≡ e → Monic i h
  root_monic {a} {h} {e} {i} power m s = record {
    leading = at i ∙ ap a.coef s ∙ m.leading;
    below = record { high = λ k l. at k ∙ m.below.high (k * p) (omega (arith, mul-le-mul_right p l, prime_pos P, suc-mul i p)) };
  }
    where
      at : (k : ℕ) → h.coef k ≡ a.coef (k * p)
      at k = sym (power_at k h) ∙ ap (λ b. b.coef (k * p)) power
