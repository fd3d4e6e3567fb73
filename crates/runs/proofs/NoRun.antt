-- Where p divides the constant coefficient no power of x is 1 modulo f: number 14 turns back only what has no run.
-- Proves it by the constant coefficients of f·q = x^k − 1: `no_run`. Assumes nothing.
use Rattle.std.specs.Prelude.{◌≡◌, false, ◌≢◌, ℕ, ◌≤◌, ◌<◌, ◌*◌, ◌/◌, ◌%◌, get_or}
use Rattle.std.proofs.Common.{sym, ◌∙◌, ap, ap₂, mod-eq_of_lt, mul-le-mul_right, arith, eqb-true}
use Rattle.std.proofs.Math.Nat.{mod-add-div}
use Rattle.std.proofs.lemmas.Bool.{not-false}
use Rattle.specification.specs.Limits.{◌²}
use Rattle.specification.specs.Polynomials as spec
use Rattle.specification.specs.RunLength.{has_run}
use Rattle.specification.specs.RunClaims.{DividesPower}
use Rattle.algebra.specs.Numbers.{square_large}
use Rattle.algebra.specs.Ring.{CommRing, zero_add}
use Rattle.algebra.specs.Identities.{con, ◌⊗◌, ⊝◌, ◌≈◌, solve}
use Rattle.algebra.specs.Residues.{ℤ/, residue, Residues, zero_remainder, residue_mul, residue_self}
use Rattle.algebra.specs.Fields.{Prime}
use Rattle.algebra.specs.PolynomialRing.{◌+ᴿ◌, ◌·◌, -ᴿ◌, 𝟏, constant_one, coef_constant_zero, coef_mul_zero, coef_add, coef_neg}
use Rattle.algebra.specs.Monomials.{x^, coef_power_low}
use Rattle.algebra.specs.CoefficientLists.{ℤ[x]/, poly, coef_poly}
use Rattle.items.specs.MonicLists.{MonicList}
use Rattle.runs.specs.PowersOfX.{One, one_claim}

module _ {p : ℕ} (prime : Prime p) (f : spec.Poly) (k : ℕ) (l : 1 ≤ k) where
  abbrev 𝓒 : CommRing (ℤ/ (p ²))
  𝓒 = Residues (p ²)

  large : 1 < p ²
  large = square_large p prime.large

  one_constant : (𝟏 {𝓡 = 𝓒}).coef 0 ≡ 𝓒.𝟙
  one_constant = sym (ap (λ (a : ℤ[x]/ (p ²)). a.coef 0) (constant_one 𝓒)) ∙ coef_constant_zero 𝓒 𝓒.𝟙

  -- the constant coefficient of x^k − 1
  less_one : (x^ {𝓡 = 𝓒} k +ᴿ -ᴿ 𝟏).coef 0 ≡ 𝓒.neg 𝓒.𝟙
  less_one =
      coef_add (x^ k) (-ᴿ 𝟏) 0 ∙ ap₂ 𝓒.add (coef_power_low 𝓒 k 0 l) (coef_neg 𝟏 0 ∙ ap 𝓒.neg one_constant)
      ∙ zero_add 𝓒 (𝓒.neg 𝓒.𝟙)

  constants : (q : ℤ[x]/ (p ²)) → q · poly (p ²) f ≡ x^ k +ᴿ -ᴿ 𝟏 → 𝓒.mul (q.coef 0) (residue (p ²) (get_or f 0 0)) ≡ 𝓒.neg 𝓒.𝟙
  constants q e =
      ap (𝓒.mul (q.coef 0)) (sym (coef_poly (p ²) f 0)) ∙ sym (coef_mul_zero q (poly (p ²) f)) ∙ ap (λ (a : ℤ[x]/ (p ²)). a.coef 0) e ∙ less_one

  -- p would be 0 modulo p²
  power_needs : One (p ²) (poly (p ²) f) k → get_or f 0 0 % p ≢ 0
  power_needs (q, e) z = omega (arith, zero_remainder (p ²) (omega (arith, large)) p p_zero, small, prime.large)
    where
      c : ℕ
      c = get_or f 0 0 / p

      P : ℤ/ (p ²)
      P = residue (p ²) p

      multiple : residue (p ²) (get_or f 0 0) ≡ 𝓒.mul P (residue (p ²) c)
      multiple = ap (residue (p ²)) (let s : get_or f 0 0 ≡ p * c = omega (arith, z, mod-add-div (get_or f 0 0) p) in s) ∙ residue_mul (p ²) p c

      p_zero : P ≡ 𝓒.𝟘
      p_zero =
          solve 𝓒 1 (λ P. P ≈ ⊝ (⊝ (con 1) ⊗ P)) tt P
          ∙ ap (λ a. 𝓒.neg (𝓒.mul a P)) (sym (constants q e) ∙ ap (𝓒.mul (q.coef 0)) multiple)
          ∙ solve 𝓒 3 (λ Q P C. ⊝ ((Q ⊗ (P ⊗ C)) ⊗ P) ≈ ⊝ ((Q ⊗ C) ⊗ (P ⊗ P))) tt (q.coef 0) P (residue (p ²) c)
          ∙ ap (λ a. 𝓒.neg (𝓒.mul (𝓒.mul (q.coef 0) (residue (p ²) c)) a))
          (sym (residue_mul (p ²) p p) ∙ residue_self (p ²) (omega (arith, large)))
          ∙ solve 𝓒 1 (λ a. ⊝ (a ⊗ con 0) ≈ con 0) tt (𝓒.mul (q.coef 0) (residue (p ²) c))

      small : p % p ² ≡ p
      small = mod-eq_of_lt (let t : 2 * p ≤ p * p = mul-le-mul_right p prime.large in omega (arith, t, prime.large))

pub no_run : {p : ℕ} → Prime p → {d : ℕ} {f : spec.Poly} → MonicList (p ²) d f → has_run p f ≡ false → (k : ℕ) → 1 ≤ k → DividesPower (p ²) f k → ⊥
unfolding has_run
no_run {p} prime {f = f} m e k l h =
    power_needs prime f k l ((one_claim (square_large p prime.large) m k l).1 h) (eqb-true (get_or f 0 0 % p) 0 (not-false _ e))
