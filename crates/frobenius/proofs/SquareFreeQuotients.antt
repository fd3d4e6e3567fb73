-- The quotient of a polynomial over ℤ/p by its gcd with its derivative.
-- Proves that it has no square factor: where G divides a exactly k times, G^(k−1) divides the derivative, and so the gcd. Assumes nothing.
use Rattle.std.specs.Prelude.{◌≡◌, ℕ, suc, ◌≤◌, ◌-◌}
use Rattle.std.proofs.Common.{sym, ◌∙◌, ap, arith}
use Rattle.algebra.specs.Divisibility.{◌∣◌, pow, pow_zero, pow_suc, one_divides, divides_mul_both}
use Rattle.algebra.specs.PolynomialRing.{◌·◌}
use Rattle.algebra.specs.Degree.{Monic, monic_cancel}
use Rattle.algebra.specs.Fields.{Prime, residue_field, residue_discrete}
use Rattle.algebra.specs.CoefficientLists.{ℤ[x]/, 𝓩[x]/}
use Rattle.factorisation.specs.MonicDivisors.{monic_nonzero}
use Rattle.factorisation.specs.Irreducible.{Irreducible}
use Rattle.factorisation.specs.Multiplicity.{Multiplicity, multiplicity, power_divides, power_bound}
use Rattle.factorisation.specs.SquareFree.{SquareFree}
use Rattle.frobenius.specs.Derivatives.{derivative}
use Rattle.frobenius.specs.SquareFreeQuotients.{power_divides_derivative}

module _ {p : ℕ} where
  module _ (P : Prime p) {d : ℕ} {a b g : ℤ[x]/ p} (monic : Monic d a) (multiplies : b · g ≡ a)
      (greatest : (h : ℤ[x]/ p) → ◌∣◌ (𝓩[x]/ p) h (derivative a) → ◌∣◌ (𝓩[x]/ p) h a → ◌∣◌ (𝓩[x]/ p) h g) where
    module _ {G : ℤ[x]/ p} (I : Irreducible G) (square : ◌∣◌ (𝓩[x]/ p) (G · G) b) (M : Multiplicity (𝓩[x]/ p) G a) where
      -- a power of G that divides the gcd is two less than one that divides a
      more : (j : ℕ) → ◌∣◌ (𝓩[x]/ p) (pow (𝓩[x]/ p) G j) g → suc (suc j) ≤ M.k
      more j e = power_bound (monic_cancel I.monic) M (rw (power, ← multiplies) (divides_mul_both (𝓩[x]/ p) square e))
        where
          power : pow (𝓩[x]/ p) G (suc (suc j)) ≡ G · G · pow (𝓩[x]/ p) G j
          power =
              pow_suc (𝓩[x]/ p) G (suc j) ∙ ap (λ c. G · c) (pow_suc (𝓩[x]/ p) G j)
              ∙ sym ((𝓩[x]/ p).*_assoc G G (pow (𝓩[x]/ p) G j))

      -- and the one below the multiplicity of G divides the gcd
      no_square : ⊥
      no_square = omega (arith, more (M.k - 1) (greatest (pow (𝓩[x]/ p) G (M.k - 1)) derived (power_divides M (omega arith))))
        where
          least : 2 ≤ M.k
          least = more 0 (rw (pow_zero (𝓩[x]/ p) G) (one_divides (𝓩[x]/ p) g))

          whole : M.w · pow (𝓩[x]/ p) G (suc (M.k - 1)) ≡ a
          whole = ap (λ k. M.w · pow (𝓩[x]/ p) G k) (let e : suc (M.k - 1) ≡ M.k = omega (arith, least) in e) ∙ M.law

          derived : ◌∣◌ (𝓩[x]/ p) (pow (𝓩[x]/ p) G (M.k - 1)) (derivative a)
          derived = rw whole at (power_divides_derivative M.w G (M.k - 1))

    pub quotient_squarefree : SquareFree b
    quotient_squarefree G I square =
        no_square I square (multiplicity (residue_discrete p) I.positive I.monic a (monic_nonzero (residue_field p P).one_ne_zero monic))
