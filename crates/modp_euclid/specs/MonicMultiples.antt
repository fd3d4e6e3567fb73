-- The monic multiple of an array over ℤ/p: `MonicMultipleOf p a e r c`, r is c·a and monic of degree e, as a is but for its leading coefficient.
-- Proves that the inverse of the leading coefficient gives it, and that what divides it divides a. Assumes nothing.
use Rattle.std.specs.Prelude.{◌≡◌, List, ℕ, suc, ◌+◌, ◌*◌, ◌%◌, ◌<◌, get_or}
use Rattle.std.proofs.Common.{sym, ◌∙◌, ap, add-one}
use Rattle.algebra.specs.Identities.{◌⊗◌, ◌≈◌, solve}
use Rattle.algebra.specs.Divisibility.{◌∣◌, divides_mul}
use Rattle.algebra.specs.Residues.{residue, Residues, residue_inverse}
use Rattle.algebra.specs.PolynomialRing.{◌·◌, 𝟏, constant, constant_unit, coef_constant_mul}
use Rattle.algebra.specs.Degree.{Below, Monic, below_constant_mul}
use Rattle.algebra.specs.Fields.{Prime, prime_pos}
use Rattle.algebra.specs.CoefficientLists.{ℤ[x]/, poly, coef_poly, 𝓩[x]/}
use Rattle.arrays.specs.Represents.{Represents}
use Rattle.arrays.specs.Sizes.{Size, below_size}
use Rattle.division.specs.DivisionLoop.{MonicBy}

pub record MonicMultipleOf (p : ℕ) (a : List ℕ) (e : ℕ) (r : List ℕ) (c : ℕ) : Type 0 where
  pub low : c < p
  pub multiple : Represents p r (constant (residue p c) · poly p a)
  pub monic : Monic e (poly p r)

-- the inverse of the leading coefficient makes a monic
pub monic_by_inverse : {p e c : ℕ} {a : List ℕ} → Prime p → Size a (e + 1) → get_or a e 0 * c % p ≡ 1 → MonicBy p a e c
monic_by_inverse {p} {e} {c} {a} P z inverse = record {
  below = below;
  monic = record {
    leading = coef_constant_mul (residue p c) (poly p a) e ∙ ap ((Residues p).mul (residue p c)) (coef_poly p a e)
        ∙ residue_inverse p (prime_pos P) (get_or a e 0) c inverse;
    below = below_constant_mul (residue p c) below;
  };
}
  where
    below : Below (suc e) (poly p a)
    below = rw (← add-one) (below_size p z)

module _ {p : ℕ} {a : List ℕ} {e : ℕ} {r : List ℕ} {c : ℕ} where
  pub monic_multiple : MonicBy p a e c → c < p → Represents p r (constant (residue p c) · poly p a) → MonicMultipleOf p a e r c
  monic_multiple by l h = record { low = l; multiple = h; monic = rw h.is by.monic }

  -- a is its leading coefficient times the monic multiple
  back : MonicMultipleOf p a e r c → constant (residue p (get_or a e 0)) · poly p r ≡ poly p a
  back m =
      ap (λ f. top · f) m.multiple.is
      ∙ solve (𝓩[x]/ p) 3 (λ t c a. t ⊗ (c ⊗ a) ≈ c ⊗ t ⊗ a) tt top (constant (residue p c)) (poly p a)
      ∙ ap (λ u. u · poly p a) unit
      ∙ (𝓩[x]/ p).*_one (poly p a)
    where
      top : ℤ[x]/ p
      top = constant (residue p (get_or a e 0))

      unit : constant (residue p c) · top ≡ 𝟏
      unit =
          constant_unit (Residues p)
          (ap ((Residues p).mul (residue p c)) (sym (coef_poly p a e)) ∙ sym (coef_constant_mul (residue p c) (poly p a) e)
          ∙ ap (λ f. f.coef e) (sym m.multiple.is) ∙ m.monic.leading)

  pub divides_back : MonicMultipleOf p a e r c → (g : ℤ[x]/ p) → ◌∣◌ (𝓩[x]/ p) g (poly p r) → ◌∣◌ (𝓩[x]/ p) g (poly p a)
  divides_back m g h = rw (← back m) (divides_mul (𝓩[x]/ p) (constant (residue p (get_or a e 0))) h)
