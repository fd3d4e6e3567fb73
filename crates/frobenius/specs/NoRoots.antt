-- Linear polynomials x − c as divisors: `NoRoots p a`, none divides a over ℤ/p.
-- Proves that x − c is irreducible, that a monic polynomial of degree 1 is such, that divisors and p-th roots of a polynomial without roots
-- have none, and that a divisor of degree 1 to 3 is then irreducible. Assumes nothing.
use Rattle.std.specs.Prelude.{◌≡◌, ℕ, zero, suc, ◌≤◌, ◌<◌}
use Rattle.std.proofs.Common.{sym, ◌∙◌, ap, subst, le_refl, arith}
use Rattle.algebra.specs.Ring.{CommRing}
use Rattle.algebra.specs.Identities.{con, ◌⊕◌, ◌⊖◌, ◌⊗◌, ⊝◌, ◌≈◌, solve}
use Rattle.algebra.specs.Divisibility.{◌∣◌, pow_one, pow_divides, divides_trans}
use Rattle.algebra.specs.Residues.{ℤ/, residue, Residues, residue_value, value_below}
use Rattle.algebra.specs.PolynomialRing.{Poly, PolyRing, ◌+ᴿ◌, ◌·◌, x, constant, tail, coef_tail, head_tail, constant_neg}
use Rattle.algebra.specs.Degree.{Monic, below_tail, monic_mul_lem, monic_zero}
use Rattle.algebra.specs.Fields.{Field, Prime, prime_pos, residue_field}
use Rattle.algebra.specs.CoefficientLists.{ℤ[x]/, 𝓩[x]/}
use Rattle.factorisation.specs.MonicDivisors.{monic_degree}
use Rattle.factorisation.specs.Irreducible.{Irreducible}
use Rattle.frobenius.specs.Evaluation.{linear, monic_linear}
use Rattle.frobenius.specs.FrobeniusPowers.{◌^ᴿ◌}

module _ {R : Type 0} {𝓡 : CommRing R} where
  -- two degrees of 1 or more are not 1 together
  pub linear_irreducible : Field 𝓡 → (c : R) → Irreducible (linear {𝓡 = 𝓡} c)
  linear_irreducible field c = record { degree = 1; positive = le_refl 1; monic = monic_linear c; no_product = none }
    where
      none : {d e : ℕ} {a b : Poly 𝓡} → Monic d a → Monic e b → 1 ≤ d → 1 ≤ e → a · b ≡ linear c → ⊥
      none ma mb la lb h = omega (arith, monic_degree field.one_ne_zero (rw h at (monic_mul_lem ma mb)) (monic_linear c))

  -- x + c is x − (−c)
  pub monic_is_linear : {a : Poly 𝓡} → Monic 1 a → a ≡ linear (𝓡.neg (a.coef 0))
  monic_is_linear {a} m =
      head_tail a ∙ ap (λ b. constant (a.coef 0) +ᴿ x · b) (monic_zero top)
      ∙ solve (PolyRing 𝓡) 2 (λ c x. c ⊕ x ⊗ con 1 ≈ x ⊖ ⊝ c) tt (constant (a.coef 0)) x
      ∙ ap (λ b. x +ᴿ (PolyRing 𝓡).neg b) (sym (constant_neg (a.coef 0)))
    where
      top : Monic 0 (tail a)
      top = record { leading = coef_tail a 0 ∙ m.leading; below = below_tail m.below }

-- no x − c divides a
abbrev pub NoRoots : (p : ℕ) → ℤ[x]/ p → Type 0
NoRoots p a = (c : ℤ/ p) → ¬ (◌∣◌ (𝓩[x]/ p) (linear c) a)

module _ {p : ℕ} {a : ℤ[x]/ p} where
  -- every residue is that of a number below p
  pub no_roots_by : 0 < p → ((c : ℕ) → c < p → ¬ (◌∣◌ (𝓩[x]/ p) (linear (residue p c)) a)) → NoRoots p a
  no_roots_by pos none c d = none c.value (value_below p pos c) (rw (residue_value p c) d)

  pub no_roots_divisor : {b : ℤ[x]/ p} → ◌∣◌ (𝓩[x]/ p) b a → NoRoots p a → NoRoots p b
  no_roots_divisor e none c d = none c (divides_trans (𝓩[x]/ p) d e)

  -- a p-th root
  pub no_roots_root : Prime p → {b : ℤ[x]/ p} → b ^ᴿ p ≡ a → NoRoots p a → NoRoots p b
  no_roots_root P {b} e none =
      no_roots_divisor (rw (pow_one (𝓩[x]/ p) b, e) at (pow_divides (𝓩[x]/ p) b {k = 1} {n = p} (prime_pos P))) none

  -- a divisor of degree 1 has a root
  no_linear_divisor : NoRoots p a → {b : ℤ[x]/ p} → Monic 1 b → ¬ (◌∣◌ (𝓩[x]/ p) b a)
  no_linear_divisor none {b} m d = none ((Residues p).neg (b.coef 0)) (subst (λ e. ◌∣◌ (𝓩[x]/ p) e a) (monic_is_linear m) d)

  no_roots_large : {d : ℕ} → Monic d a → 1 ≤ d → NoRoots p a → 1 < d
  no_roots_large {d} m l none = go d m l
    where
      go : (d : ℕ) → Monic d a → 1 ≤ d → 1 < d
      go zero n k = absurd (omega arith)
      go (suc zero) n k = absurd (no_linear_divisor none n ((𝓩[x]/ p).𝟙, (𝓩[x]/ p).*_one a))
      go (suc (suc d)) n k = omega arith

-- the factors of a polynomial of degree 2 or 3 would not both be of degree 2 or more
no_roots_irreducible : {p : ℕ} → Prime p → {d : ℕ} {a : ℤ[x]/ p} → Monic d a → 1 < d → d < 4 → NoRoots p a → Irreducible a
no_roots_irreducible {p} P {d} {a} m large small none = record { degree = d; positive = omega arith; monic = m; no_product = product }
  where
    product : {i j : ℕ} {b e : ℤ[x]/ p} → Monic i b → Monic j e → 1 ≤ i → 1 ≤ j → b · e ≡ a → ⊥
    product {b = b} {e} mb me li lj h =
        omega (
          arith,
          monic_degree (residue_field p P).one_ne_zero (rw h at (monic_mul_lem mb me)) m,
          no_roots_large mb li (no_roots_divisor (e, (𝓩[x]/ p).*_comm e b ∙ h) none),
          no_roots_large me lj (no_roots_divisor (b, h) none),
        )

-- a divisor of degree 1, 2 or 3 of a polynomial without roots
pub low_divisor_irreducible : {p : ℕ} → Prime p → {d : ℕ} {a b : ℤ[x]/ p} → Monic d b → 0 < d → d < 4 → ◌∣◌ (𝓩[x]/ p) b a → NoRoots p a → Irreducible b
low_divisor_irreducible {p} P {b = b} m pos small e none = no_roots_irreducible P m (no_roots_large m pos free) small free
  where
    free : NoRoots p b
    free = no_roots_divisor e none
