-- The map v ↦ v^p on polynomials over ℤ/p, p a prime.
-- Proves that it adds and keeps the constants (Fermat), so that it is linear and given by the images (x^p)^i of the x^i, and that v^p − v is given
-- by the images (x^p)^i − x^i; and that (v − c)^(p^j) = v^(p^j) − c. Assumes nothing.
use Rattle.std.specs.Prelude.{◌≡◌, ℕ, zero, suc, ◌^◌}
use Rattle.std.proofs.Common.{sym, ◌∙◌, ap, ap₂, mul_comm, pow-suc as pow-sucℕ}
use Rattle.std.proofs.Math.Nat.{pow-zero as pow-zeroℕ}
use Rattle.algebra.specs.Divisibility.{pow, pow_one, pow_mul, pow_swap, pow_of_zero, pow_of_one, pow_of_product}
use Rattle.algebra.specs.Residues.{ℤ/, residue, Residues, residue_zero, residue_suc, residue_value}
use Rattle.algebra.specs.PolynomialRing.{◌+ᴿ◌, ◌·◌, -ᴿ◌, x, constant, constant_neg}
use Rattle.algebra.specs.Monomials.{x^}
use Rattle.algebra.specs.Degree.{Below}
use Rattle.algebra.specs.Leading.{poly_discrete}
use Rattle.algebra.specs.Fields.{Prime, prime_pos, residue_discrete}
use Rattle.algebra.specs.Homomorphisms.{identity, constants, keeps_pow}
use Rattle.frobenius.specs.LinearMaps.{apply, apply_zero, apply_suc, apply_monomials, apply_sub}
use Rattle.frobenius.specs.Frobenius.{frobenius}
use Rattle.algebra.specs.CoefficientLists.{ℤ[x]/, 𝓩[x]/}

module _ {p : ℕ} where
  infixr 90 ◌^ᴿ◌
  abbrev pub ◌^ᴿ◌ : ℤ[x]/ p → ℕ → ℤ[x]/ p
  a ^ᴿ n = pow (𝓩[x]/ p) a n

-- the images (x^p)^i − x^i of v ↦ v^p − v
abbrev pub difference_images : (p : ℕ) → ℕ → ℤ[x]/ p
difference_images p i = (x ^ᴿ p) ^ᴿ i +ᴿ -ᴿ x^ i

module _ {p : ℕ} (P : Prime p) where
  fermat_number : (k : ℕ) → pow (Residues p) (residue p k) p ≡ residue p k
  fermat_number zero = rw (residue_zero p) (pow_of_zero (Residues p) p (prime_pos P))
  fermat_number (suc k) =
      ap (λ c. pow (Residues p) c p) (residue_suc p k)
      ∙ frobenius P (identity (Residues p)) (residue_discrete p) (Residues p).𝟙 (residue p k)
      ∙ ap₂ (Residues p).add (pow_of_one (Residues p) p) (fermat_number k) ∙ sym (residue_suc p k)

  -- c^p = c
  fermat : (c : ℤ/ p) → pow (Residues p) c p ≡ c
  fermat c = rw (residue_value p c) at (fermat_number c.value)

  pub power_add : (a b : ℤ[x]/ p) → (a +ᴿ b) ^ᴿ p ≡ a ^ᴿ p +ᴿ b ^ᴿ p
  power_add = frobenius P (constants (Residues p)) (poly_discrete (residue_discrete p))

  pub power_constant : (c : ℤ/ p) → constant c ^ᴿ p ≡ constant c
  power_constant c = sym (keeps_pow (constants (Residues p)) c p) ∙ ap constant (fermat c)

  power_difference : (v : ℤ[x]/ p) (c : ℤ/ p) → (v +ᴿ -ᴿ constant c) ^ᴿ p ≡ v ^ᴿ p +ᴿ -ᴿ constant c
  power_difference v c =
      power_add v (-ᴿ constant c)
      ∙ ap (λ a. v ^ᴿ p +ᴿ a) (ap (λ a. a ^ᴿ p) (sym (constant_neg c)) ∙ power_constant ((Residues p).neg c) ∙ constant_neg c)

  power_next : (a : ℤ[x]/ p) (j : ℕ) → a ^ᴿ (p ^ suc j) ≡ (a ^ᴿ (p ^ j)) ^ᴿ p
  power_next a j = ap (λ k. a ^ᴿ k) (pow-sucℕ p j ∙ mul_comm (p ^ j) p) ∙ pow_mul (𝓩[x]/ p) a p (p ^ j)

  -- the binomial v − c to the power p^j
  pub binomial_power : (v : ℤ[x]/ p) (c : ℤ/ p) (j : ℕ) → (v +ᴿ -ᴿ constant c) ^ᴿ (p ^ j) ≡ v ^ᴿ (p ^ j) +ᴿ -ᴿ constant c
  binomial_power v c zero = once (v +ᴿ -ᴿ constant c) ∙ ap (λ a. a +ᴿ -ᴿ constant c) (sym (once v))
    where
      once : (a : ℤ[x]/ p) → a ^ᴿ (p ^ 0) ≡ a
      once a = ap (λ k. a ^ᴿ k) (pow-zeroℕ p) ∙ pow_one (𝓩[x]/ p) a
  binomial_power v c (suc j) =
      power_next (v +ᴿ -ᴿ constant c) j ∙ ap (λ a. a ^ᴿ p) (binomial_power v c j) ∙ power_difference (v ^ᴿ (p ^ j)) c
      ∙ ap (λ a. a +ᴿ -ᴿ constant c) (sym (power_next v j))

  power_multiple : (c : ℤ/ p) (v : ℤ[x]/ p) → (constant c · v) ^ᴿ p ≡ constant c · v ^ᴿ p
  power_multiple c v = pow_of_product (𝓩[x]/ p) (constant c) v p ∙ ap (λ d. d · v ^ᴿ p) (power_constant c)

  power_apply : (n : ℕ) (v : ℤ[x]/ p) → apply (λ i. (x ^ᴿ p) ^ᴿ i) n v ≡ apply x^ n v ^ᴿ p
  power_apply zero v =
      apply_zero (λ i. (x ^ᴿ p) ^ᴿ i) v
      ∙ sym (ap (λ a. a ^ᴿ p) (apply_zero x^ v) ∙ pow_of_zero (𝓩[x]/ p) p (prime_pos P))
  power_apply (suc n) v =
      apply_suc (λ i. (x ^ᴿ p) ^ᴿ i) n v
      ∙ ap₂ ◌+ᴿ◌ (power_apply n v)
      (ap (λ a. constant (v.coef n) · a) (pow_swap (𝓩[x]/ p) x p n) ∙ sym (power_multiple (v.coef n) (x ^ᴿ n)))
      ∙ sym (power_add (apply x^ n v) (constant (v.coef n) · x ^ᴿ n))
      ∙ ap (λ a. a ^ᴿ p) (sym (apply_suc x^ n v))

  -- v^p is v₀ + v₁·x^p + v₂·(x^p)² + ..
  power_images : (n : ℕ) (v : ℤ[x]/ p) → Below n v → apply (λ i. (x ^ᴿ p) ^ᴿ i) n v ≡ v ^ᴿ p
  power_images n v h = power_apply n v ∙ ap (λ a. a ^ᴿ p) (apply_monomials n v h)

  pub difference_images_lem : (n : ℕ) (v : ℤ[x]/ p) → Below n v → apply (difference_images p) n v ≡ v ^ᴿ p +ᴿ -ᴿ v
  difference_images_lem n v h =
      apply_sub (λ i. (x ^ᴿ p) ^ᴿ i) x^ n v ∙ ap₂ (λ a b. a +ᴿ -ᴿ b) (power_images n v h) (apply_monomials n v h)
