-- Coprime a and b modulo p, and the inverse of a modulo b: `CoprimePair`, `Inverse`.
-- Proves that the cofactor of the gcd of a modulo b, and b, is that inverse. Assumes nothing.
use Rattle.std.specs.Prelude.{◌≡◌, refl, true, List, ℕ, ◌<◌, ◌+◌}
use Rattle.std.proofs.Common.{arith}
use Rattle.specification.specs.Limits.{taken}
use Rattle.algebra.specs.Ring.{CommRing}
use Rattle.algebra.specs.Divisibility.{◌∣◌, Coprime, coprime_common, divides_trans}
use Rattle.algebra.specs.PolynomialRing.{◌·◌, 𝟏}
use Rattle.algebra.specs.Congruence.{Congruent, congruent_equal, congruent_sym, congruent_trans, congruent_mul, divides_congruent}
use Rattle.algebra.specs.Degree.{Below, Monic, monic_one_lem, monic_zero}
use Rattle.algebra.specs.Fields.{residue_nontrivial}
use Rattle.algebra.specs.TakenPrimes.{is_prime_lem}
use Rattle.algebra.specs.CoefficientLists.{ℤ[x]/, poly, Reduced, 𝓩[x]/}
use Rattle.factorisation.specs.MonicDivisors.{divisor_degree}
use Rattle.quotients.specs.Remainder.{Remainder}
use Rattle.modp_euclid.specs.CommonDivisors.{GcdOf, CofactorOf}

pub record CoprimePair (p : ℕ) (a : List ℕ) (i : ℕ) (b : List ℕ) (j : ℕ) : Type 0 where
  pub prime : taken p ≡ true
  pub positive : 0 < j
  pub fits : i + j < 33
  pub first : Reduced p 33 a
  pub monic_first : Monic i (poly p a)
  pub second : Reduced p 33 b
  pub monic_second : Monic j (poly p b)
  pub coprime : Coprime (𝓩[x]/ p) (poly p a) (poly p b)

-- u·a = 1 modulo b, which is of degree j
pub record Inverse (p : ℕ) (a b : List ℕ) (j : ℕ) (u : List ℕ) : Type 0 where
  pub reduced : Reduced p 33 u
  pub small : Below j (poly p u)
  pub inverts : Congruent (𝓩[x]/ p) (poly p b) (poly p u · poly p a) 𝟏

module _ {p : ℕ} {a b : List ℕ} {i j : ℕ} (C : CoprimePair p a i b j) {r g u : List ℕ} {e : ℕ} (hr : Remainder p b j r (poly p a))
    (hg : GcdOf p r b j g e) (hu : CofactorOf p r b j g u) where
  abbrev 𝓑 : CommRing (ℤ[x]/ p)
  𝓑 = 𝓩[x]/ p

  -- g divides b and r, so it divides a
  divides_first : ◌∣◌ 𝓑 (poly p g) (poly p a)
  divides_first = divides_congruent 𝓑 (divides_trans 𝓑 hg.right (congruent_sym 𝓑 hr.congruent)) hg.left

  divides_one : ◌∣◌ 𝓑 (poly p g) 𝟏
  divides_one = coprime_common 𝓑 C.coprime divides_first hg.right

  one : poly p g ≡ 𝟏
  one =
      let low = divisor_degree (residue_nontrivial (is_prime_lem C.prime).large) hg.monic monic_one_lem divides_one in
      monic_zero (rw (let z : e ≡ 0 = omega arith in z) at hg.monic)

  pub inverse_is : Inverse p a b j u
  inverse_is = record {
    reduced = hu.reduced;
    small = hu.small;
    inverts = congruent_trans 𝓑 (congruent_mul 𝓑 (congruent_equal 𝓑 refl) (congruent_sym 𝓑 hr.congruent))
        (congruent_trans 𝓑 hu.combination (congruent_equal 𝓑 one));
  }
