-- The numbers of ℤ/n[x], and division by one of them modulo a prime: item 8.
-- Proves that a number is the constant of its class, so 𝟎 where n divides it, and that the specification's `inverse p m` times m leaves 1
-- where the prime p does not divide m. Assumes nothing.
use Rattle.std.specs.Prelude.{◌≡◌, Bool, ◌≢◌, eqb}
use Rattle.std.proofs.Common.{sym, ◌∙◌, ap, ap₂, subst, mul_comm, arith}
use Prim.Native.Nat.{ℕ, zero, suc, ◌<◌, ◌%◌, zero-le, ◌*◌}
use Rattle.std.proofs.Math.Dec.{T, eqb→eq}
use Rattle.specification.specs.Lists.{up_from, below}
use Rattle.specification.specs.Polynomials as spec
use Rattle.specification.specs.Inverses.{inverse}
use Rattle.algebra.specs.Residues.{
  ℤ/,
  residue,
  Residues,
  residue_zero,
  residue_suc,
  residue_mod,
  residue_inverse,
  value_below,
  zero_remainder,
  inverse_remainder,
}
use Rattle.algebra.specs.Fields.{Prime, prime_pos, residue_field}
use Rattle.algebra.specs.PolynomialRing.{◌+ᴿ◌, ◌·◌, 𝟎, constant, constant_zero, constant_one, constant_add, constant_unit}
use Rattle.algebra.specs.CoefficientLists.{poly, poly_scale, 𝓩[x]/}
use Rattle.lists.specs.Firsts.{first_passes}
use Rattle.lists.specs.NumbersFrom.{up_from_has}
use Rattle.factorisation.specs.ExtensionLaws.{number, number_zero, number_suc}

module _ (n : ℕ) where
  pub number_constant : (k : ℕ) → number (𝓩[x]/ n) k ≡ constant (residue n k)
  number_constant zero = number_zero (𝓩[x]/ n) ∙ sym (ap constant (residue_zero n) ∙ constant_zero (Residues n))
  number_constant (suc k) =
      number_suc (𝓩[x]/ n) k
      ∙ ap₂ ◌+ᴿ◌ (sym (constant_one (Residues n))) (number_constant k)
      ∙ sym (constant_add (Residues n).𝟙 (residue n k)) ∙ ap constant (sym (residue_suc n k))

  pub number_multiple : 0 < n → (k : ℕ) → k % n ≡ 0 → number (𝓩[x]/ n) k ≡ 𝟎
  number_multiple pos k e =
      number_constant k
      ∙ ap constant (sym (residue_mod n pos k) ∙ ap (residue n) e ∙ residue_zero n) ∙ constant_zero (Residues n)

module _ (p : ℕ) (prime : Prime p) (m : ℕ) (unit : m % p ≢ 0) where
  leaves_one_lem : ℕ → Bool
  leaves_one_lem b = eqb (b * m % p) 1

  nonzero : residue p m ≢ (Residues p).𝟘
  nonzero e = unit (zero_remainder p (prime_pos prime) m e)

  -- the field's inverse passes the test
  inverse_passes : (b : ℤ/ p) → (Residues p).mul (residue p m) b ≡ (Residues p).𝟙 → b.value * m % p ≡ 1
  inverse_passes b e = ap (λ (c : ℕ). c % p) (mul_comm b.value m) ∙ inverse_remainder p (prime_pos prime) prime.large m b e

  inverse_leaves_one : inverse p m * m % p ≡ 1
  unfolding inverse below leaves_one_lem
  inverse_leaves_one =
      let (b, e) = (residue_field p prime).inverse (residue p m) nonzero in
      let l = value_below p (prime_pos prime) b in
      eqb→eq (inverse p m * m % p) 1
      (first_passes leaves_one_lem 0 (up_from 0 p) (up_from_has 0 p zero-le (omega arith))
      (subst (λ (k : ℕ). T (eqb k 1)) (sym (inverse_passes b e)) tt)).1

  -- item 8: "u = w/m modulo p"
  pub number_divided : (w : spec.Poly) → number (𝓩[x]/ p) m · poly p (spec.scale p (inverse p m) w) ≡ poly p w
  number_divided w =
      ap₂ ◌·◌ (number_constant p m) (poly_scale p (prime_pos prime) (inverse p m) w)
      ∙ sym ((𝓩[x]/ p).*_assoc (constant (residue p m)) (constant (residue p (inverse p m))) (poly p w))
      ∙ ap (λ c. c · poly p w) (constant_unit (Residues p) one) ∙ (𝓩[x]/ p).*_one (poly p w)
    where
      one : (Residues p).mul (residue p m) (residue p (inverse p m)) ≡ (Residues p).𝟙
      one = residue_inverse p (prime_pos prime) (inverse p m) m inverse_leaves_one
