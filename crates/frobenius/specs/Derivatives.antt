-- The derivative of a polynomial over ℤ/n: the coefficient k of `derivative a` is k + 1 times the coefficient k + 1 of a.
-- Proves that it adds, that constants have none, the product rule, and that the derivative of a^m is m·a^(m−1) times that of a. Assumes nothing.
use Rattle.std.specs.Prelude.{◌≡◌, ℕ, zero, suc}
use Rattle.std.proofs.Math.Path.{refl, sym, ap, ap₂, ◌≡⟨◌⟩◌, ◌∎}
use Rattle.std.proofs.Common.{◌∙◌, arith}
use Rattle.std.proofs.Math.Logic.{∥∥₁_map}
use Rattle.algebra.specs.Ring.{mul_zero, mul_add, mul_left_comm}
use Rattle.algebra.specs.Identities.{con, ◌⊕◌, ◌⊗◌, ◌≈◌, solve}
use Rattle.algebra.specs.Divisibility.{pow, pow_zero, pow_one, pow_suc}
use Rattle.algebra.specs.Residues.{ℤ/, residue, Residues, residue_one, residue_suc}
use Rattle.algebra.specs.PolynomialRing.{
  ◌+ᴿ◌,
  ◌·◌,
  𝟎,
  x,
  constant,
  tail,
  poly_ext,
  coef_zero,
  coef_add,
  coef_constant_mul,
  coef_constant_suc,
  coef_x_mul_zero,
  coef_x_mul_suc,
  head_tail,
  constant_add,
  constant_one,
}
use Rattle.algebra.specs.Degree.{Below}
use Rattle.algebra.specs.CoefficientLists.{ℤ[x]/, 𝓩[x]/}

module _ {n : ℕ} where
  unfoldable pub derivative : ℤ[x]/ n → ℤ[x]/ n
  derivative a = record {
    coef = λ k. (Residues n).mul (residue n (suc k)) (a.coef (suc k));
    bounded = ∥∥₁_map a.bounded (λ h.
        (h.0, λ k l. ap ((Residues n).mul (residue n (suc k))) (h.1 (suc k) (omega arith)) ∙ mul_zero (Residues n) (residue n (suc k))));
  }

  pub coef_derivative : (a : ℤ[x]/ n) (k : ℕ) → (derivative a).coef k ≡ (Residues n).mul (residue n (suc k)) (a.coef (suc k))
  unfolding derivative
  coef_derivative a k = refl

  pub below_derivative : {d : ℕ} {a : ℤ[x]/ n} → Below (suc d) a → Below d (derivative a)
  below_derivative {a = a} h = record {
    high = λ k l.
        coef_derivative a k ∙ ap ((Residues n).mul (residue n (suc k))) (h.high (suc k) (omega arith)) ∙ mul_zero (Residues n) (residue n (suc k));
  }

  -- ---- sums, constants, multiples by x

  derivative_add : (a b : ℤ[x]/ n) → derivative (a +ᴿ b) ≡ derivative a +ᴿ derivative b
  derivative_add a b =
      poly_ext (λ k.
      coef_derivative (a +ᴿ b) k
      ∙ ap ((Residues n).mul (residue n (suc k))) (coef_add a b (suc k))
      ∙ mul_add (Residues n) (residue n (suc k)) (a.coef (suc k)) (b.coef (suc k))
      ∙ sym (coef_add (derivative a) (derivative b) k ∙ ap₂ (Residues n).add (coef_derivative a k) (coef_derivative b k)))

  derivative_constant : (c : ℤ/ n) → derivative (constant c) ≡ 𝟎
  derivative_constant c =
      poly_ext (λ k.
      coef_derivative (constant c) k ∙ ap ((Residues n).mul (residue n (suc k))) (coef_constant_suc (Residues n) c k)
      ∙ mul_zero (Residues n) (residue n (suc k)) ∙ sym (coef_zero (Residues n) k))

  derivative_multiple : (c : ℤ/ n) (a : ℤ[x]/ n) → derivative (constant c · a) ≡ constant c · derivative a
  derivative_multiple c a =
      poly_ext (λ k.
      coef_derivative (constant c · a) k
      ∙ ap ((Residues n).mul (residue n (suc k))) (coef_constant_mul c a (suc k))
      ∙ mul_left_comm (Residues n) (residue n (suc k)) c (a.coef (suc k))
      ∙ sym (coef_constant_mul c (derivative a) k ∙ ap ((Residues n).mul c) (coef_derivative a k)))

  derivative_x_mul : (a : ℤ[x]/ n) → derivative (x · a) ≡ a +ᴿ x · derivative a
  derivative_x_mul a = poly_ext (λ k. coef_derivative (x · a) k ∙ ap ((Residues n).mul (residue n (suc k))) (coef_x_mul_suc a k) ∙ at k)
    where
      at : (k : ℕ) → (Residues n).mul (residue n (suc k)) (a.coef k) ≡ (a +ᴿ x · derivative a).coef k
      at zero =
          ap (λ c. (Residues n).mul c (a.coef 0)) (residue_one n) ∙ (Residues n).*_one (a.coef 0)
          ∙ sym (coef_add a (x · derivative a) 0 ∙ ap ((Residues n).add (a.coef 0)) (coef_x_mul_zero (derivative a))
          ∙ solve (Residues n) 1 (λ c. c ⊕ con 0 ≈ c) tt (a.coef 0))
      at (suc k) =
          ap (λ c. (Residues n).mul c (a.coef (suc k))) (residue_suc n (suc k))
          ∙ solve (Residues n) 2 (λ m c. (con 1 ⊕ m) ⊗ c ≈ c ⊕ m ⊗ c) tt (residue n (suc k)) (a.coef (suc k))
          ∙ sym (coef_add a (x · derivative a) (suc k)
          ∙ ap ((Residues n).add (a.coef (suc k))) (coef_x_mul_suc (derivative a) k ∙ coef_derivative a k))

  -- ---- products and powers

  -- (c + x·t)' = t + x·t'
  derivative_horner : (c : ℤ/ n) (t : ℤ[x]/ n) → derivative (constant c +ᴿ x · t) ≡ t +ᴿ x · derivative t
  derivative_horner c t =
      derivative_add (constant c) (x · t) ∙ ap₂ ◌+ᴿ◌ (derivative_constant c) (derivative_x_mul t)
      ∙ (𝓩[x]/ n).+_zero (t +ᴿ x · derivative t)

  module _ (c : ℤ/ n) (t b : ℤ[x]/ n) where
    -- what both sides of the product rule have besides x times the rule for t and b
    rest : ℤ[x]/ n
    rest = constant c · derivative b +ᴿ t · b

    product_left : derivative ((constant c +ᴿ x · t) · b) ≡ rest +ᴿ x · derivative (t · b)
    unfolding rest
    product_left =
        ap derivative (solve (𝓩[x]/ n) 4 (λ c x t b. (c ⊕ x ⊗ t) ⊗ b ≈ c ⊗ b ⊕ x ⊗ (t ⊗ b)) tt (constant c) x t b)
        ∙ derivative_add (constant c · b) (x · (t · b))
        ∙ ap₂ ◌+ᴿ◌ (derivative_multiple c b) (derivative_x_mul (t · b))
        ∙ sym ((𝓩[x]/ n).+_assoc (constant c · derivative b) (t · b) (x · derivative (t · b)))

    product_right : derivative (constant c +ᴿ x · t) · b +ᴿ (constant c +ᴿ x · t) · derivative b ≡ rest +ᴿ x · (derivative t · b +ᴿ t · derivative b)
    unfolding rest
    product_right =
        ap (λ a. a · b +ᴿ (constant c +ᴿ x · t) · derivative b) (derivative_horner c t)
        ∙ solve (𝓩[x]/ n) 6 (λ c x t u b v. (t ⊕ x ⊗ u) ⊗ b ⊕ (c ⊕ x ⊗ t) ⊗ v ≈ c ⊗ v ⊕ t ⊗ b ⊕ x ⊗ (u ⊗ b ⊕ t ⊗ v)) tt
        (constant c) x t (derivative t) b (derivative b)

  -- polynomials r + x·u and r + x·v agree at k + 1 where u and v agree at k
  agree_first : (r u v : ℤ[x]/ n) → (r +ᴿ x · u).coef 0 ≡ (r +ᴿ x · v).coef 0
  agree_first r u v = simp (coef_add, coef_x_mul_zero)

  agree_next : (r u v : ℤ[x]/ n) (k : ℕ) → u.coef k ≡ v.coef k → (r +ᴿ x · u).coef (suc k) ≡ (r +ᴿ x · v).coef (suc k)
  agree_next r u v k e = simp (coef_add, coef_x_mul_suc, e)

  left_side : (a b : ℤ[x]/ n) → derivative (a · b) ≡ rest (a.coef 0) (tail a) b +ᴿ x · derivative (tail a · b)
  left_side a b = ap (λ f. derivative (f · b)) (head_tail a) ∙ product_left (a.coef 0) (tail a) b

  right_side : (a b : ℤ[x]/ n)
      → derivative a · b +ᴿ a · derivative b ≡ rest (a.coef 0) (tail a) b +ᴿ x · (derivative (tail a) · b +ᴿ tail a · derivative b)
  right_side a b = ap (λ f. derivative f · b +ᴿ f · derivative b) (head_tail a) ∙ product_right (a.coef 0) (tail a) b

  product_at : (k : ℕ) (a b : ℤ[x]/ n) → (derivative (a · b)).coef k ≡ (derivative a · b +ᴿ a · derivative b).coef k
  product_at zero a b =
      ap (λ f. f.coef 0) (left_side a b) ∙ agree_first (rest (a.coef 0) (tail a) b) _ _ ∙ sym (ap (λ f. f.coef 0) (right_side a b))
  product_at (suc k) a b =
      ap (λ f. f.coef (suc k)) (left_side a b)
      ∙ agree_next (rest (a.coef 0) (tail a) b) _ _ k (product_at k (tail a) b)
      ∙ sym (ap (λ f. f.coef (suc k)) (right_side a b))

  pub derivative_mul : (a b : ℤ[x]/ n) → derivative (a · b) ≡ derivative a · b +ᴿ a · derivative b
  derivative_mul a b = poly_ext (λ k. product_at k a b)

  pub derivative_pow : (a : ℤ[x]/ n) (m : ℕ)
      → derivative (pow (𝓩[x]/ n) a (suc m)) ≡ constant (residue n (suc m)) · derivative a · pow (𝓩[x]/ n) a m
  derivative_pow a zero =
      ap derivative (pow_one (𝓩[x]/ n) a)
      ∙ sym (ap₂ (λ c b. c · derivative a · b) (ap constant (residue_one n) ∙ constant_one (Residues n)) (pow_zero (𝓩[x]/ n) a)
      ∙ solve (𝓩[x]/ n) 1 (λ v. con 1 ⊗ v ⊗ con 1 ≈ v) tt (derivative a))
  derivative_pow a (suc m) =
      let b : ℤ[x]/ n = pow (𝓩[x]/ n) a m in
      let c : ℤ[x]/ n = constant (residue n (suc m)) in
      derivative (pow (𝓩[x]/ n) a (suc (suc m))) ≡⟨ ap derivative (pow_suc (𝓩[x]/ n) a (suc m)) ⟩
      derivative (a · pow (𝓩[x]/ n) a (suc m)) ≡⟨ derivative_mul a (pow (𝓩[x]/ n) a (suc m)) ⟩
      derivative a · pow (𝓩[x]/ n) a (suc m) +ᴿ a · derivative (pow (𝓩[x]/ n) a (suc m)) ≡⟨ ap₂ (λ d e. derivative a · d +ᴿ a · e)
      (pow_suc (𝓩[x]/ n) a m) (derivative_pow a m) ⟩
      derivative a · (a · b) +ᴿ a · (c · derivative a · b) ≡⟨ solve (𝓩[x]/ n) 4 (λ a v b c. v ⊗ (a ⊗ b) ⊕ a ⊗ (c ⊗ v ⊗ b) ≈ (con 1 ⊕ c) ⊗ v ⊗ (a ⊗ b)) tt
      a (derivative a) b c ⟩
      ((𝓩[x]/ n).𝟙 +ᴿ c) · derivative a · (a · b) ≡⟨ sym (ap₂ (λ d e. d · derivative a · e) next (pow_suc (𝓩[x]/ n) a m)) ⟩
      constant (residue n (suc (suc m))) · derivative a · pow (𝓩[x]/ n) a (suc m) ∎
    where
      next : constant (residue n (suc (suc m))) ≡ (𝓩[x]/ n).𝟙 +ᴿ constant (residue n (suc m))
      next =
          ap constant (residue_suc n (suc m)) ∙ constant_add (Residues n).𝟙 (residue n (suc m))
          ∙ ap (λ c. c +ᴿ constant (residue n (suc m))) (constant_one (Residues n))
