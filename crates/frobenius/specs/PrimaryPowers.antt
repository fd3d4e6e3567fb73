-- Powers Q = G^m of one irreducible polynomial G.
-- Proves that m is 1 where Q has no square factor, and that a monic polynomial over ℤ/p with no splitting element is such a power. Assumes nothing.
use Rattle.std.specs.Prelude.{◌≡◌, ℕ, zero, suc, ◌≤◌, ◌+◌, ◌*◌}
use Rattle.std.proofs.Common.{sym, ◌∙◌, ap, pos_of_ne-zero, mul-pos, arith}
use Rattle.algebra.specs.Ring.{CommRing, mul_one}
use Rattle.algebra.specs.Divisibility.{Coprime, pow, pow_zero, pow_one, pow_suc, coprime_sym, coprime_pow}
use Rattle.algebra.specs.PolynomialRing.{Poly, PolyRing, ◌·◌}
use Rattle.algebra.specs.Degree.{Monic, monic_zero, monic_pow}
use Rattle.algebra.specs.Leading.{monic_cofactor}
use Rattle.algebra.specs.Fields.{Prime, residue_field, residue_discrete}
use Rattle.factorisation.specs.MonicDivisors.{monic_nonzero}
use Rattle.factorisation.specs.Irreducible.{Irreducible, irreducible_prime}
use Rattle.factorisation.specs.SquareFree.{SquareFree}
use Rattle.factorisation.specs.Multiplicity.{Multiplicity, rest_coprime, multiplicity}
use Rattle.factorisation.proofs.IrreducibleDivisors.{IrreducibleDivisor, irreducible_divisor}
use Rattle.frobenius.specs.Unsplit.{Unsplit, unsplit_indivisible}
use Rattle.algebra.specs.CoefficientLists.{ℤ[x]/, 𝓩[x]/}

module _ {R : Type 0} {𝓡 : CommRing R} where
  -- Q is a power of one irreducible polynomial
  pub record PrimaryPower (Q : Poly 𝓡) : Type 0 where
    pub G : Poly 𝓡
    pub m : ℕ
    pub irreducible : Irreducible G
    pub positive : 1 ≤ m
    pub multiplies : pow (PolyRing 𝓡) G m ≡ Q

  -- without square factors m is 1
  pub squarefree_primary : {Q : Poly 𝓡} → PrimaryPower Q → SquareFree Q → Irreducible Q
  squarefree_primary {Q} S free = go S.m S.positive S.multiplies
    where
      go : (m : ℕ) → 1 ≤ m → pow (PolyRing 𝓡) S.G m ≡ Q → Irreducible Q
      go zero l e = absurd (omega arith)
      go (suc zero) l e = rw (sym (pow_one (PolyRing 𝓡) S.G) ∙ e) at S.irreducible
      go (suc (suc m)) l e =
          absurd (free S.G S.irreducible (
            pow (PolyRing 𝓡) S.G m,
            (PolyRing 𝓡).*_comm (pow (PolyRing 𝓡) S.G m) (S.G · S.G) ∙ (PolyRing 𝓡).*_assoc S.G S.G (pow (PolyRing 𝓡) S.G m)
                ∙ sym (pow_suc (PolyRing 𝓡) S.G (suc m) ∙ ap (λ a. S.G · a) (pow_suc (PolyRing 𝓡) S.G m)) ∙ e,
          ))

module _ {p : ℕ} (P : Prime p) {d : ℕ} {Q : ℤ[x]/ p} (monic : Monic d Q) (t : IrreducibleDivisor Q) where
  module _ (M : Multiplicity (𝓩[x]/ p) t.G Q) where
    multiplicity_positive : 1 ≤ M.k
    multiplicity_positive = pos_of_ne-zero (λ e. M.stop (rw (sym M.law ∙ none e) at t.divides))
      where
        none : M.k ≡ 0 → M.w · pow (𝓩[x]/ p) t.G M.k ≡ M.w
        none e =
            ap (λ k. M.w · pow (𝓩[x]/ p) t.G k) e ∙ ap (λ a. M.w · a) (pow_zero (𝓩[x]/ p) t.G)
            ∙ mul_one (𝓩[x]/ p) M.w

    coprime : Coprime (𝓩[x]/ p) M.w t.G
    coprime = coprime_sym (𝓩[x]/ p) (rest_coprime (irreducible_prime (residue_field p P) t.irreducible) M)

  -- Q = w·G^k, where G does not divide w; w is 𝟏 if it cannot be of degree 1 or more
  primary_power : ((M : Multiplicity (𝓩[x]/ p) t.G Q) (j : ℕ) → Monic (suc j) M.w → Coprime (𝓩[x]/ p) M.w t.G → ⊥) → PrimaryPower Q
  primary_power alone = go (monic_cofactor (residue_discrete p) (residue_field p P).one_ne_zero {d = d} M.w power monic_power (rw M.law monic))
    where
      M : Multiplicity (𝓩[x]/ p) t.G Q
      M = multiplicity (residue_discrete p) t.irreducible.positive t.irreducible.monic Q (monic_nonzero (residue_field p P).one_ne_zero monic)

      power : ℤ[x]/ p
      power = pow (𝓩[x]/ p) t.G M.k

      monic_power : Monic (M.k * t.irreducible.degree) power
      monic_power = monic_pow t.irreducible.monic M.k

      go : (j : ℕ) × Monic j M.w × (j + M.k * t.irreducible.degree ≡ d) → PrimaryPower Q
      go (zero, mw, s) = record {
        G = t.G;
        m = M.k;
        irreducible = t.irreducible;
        positive = multiplicity_positive M;
        multiplies = sym ((𝓩[x]/ p).*_one power) ∙ ap (λ a. a · power) (sym (monic_zero mw)) ∙ M.law;
      }
      go (suc j, mw, s) = absurd (alone M j mw (coprime M))

pub unsplit_power : {p : ℕ} → Prime p → {d : ℕ} {Q : ℤ[x]/ p} → 1 ≤ d → Monic d Q → Unsplit p d Q → PrimaryPower Q
unsplit_power {p} P {d} {Q} positive monic unsplit = primary_power P monic t alone
  where
    t : IrreducibleDivisor Q
    t = irreducible_divisor P positive monic

    -- w is coprime to G^k
    alone : (M : Multiplicity (𝓩[x]/ p) t.G Q) (j : ℕ) → Monic (suc j) M.w → Coprime (𝓩[x]/ p) M.w t.G → ⊥
    alone M j mw c =
        unsplit_indivisible P positive monic unsplit (record {
          i = suc j;
          j = M.k * t.irreducible.degree;
          monic_a = mw;
          monic_b = monic_pow t.irreducible.monic M.k;
          positive_a = omega arith;
          positive_b = mul-pos (multiplicity_positive P monic t M) t.irreducible.positive;
          coprime = coprime_pow (𝓩[x]/ p) M.k c;
          multiplies = M.law;
        })
