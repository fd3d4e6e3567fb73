-- A factor of the bar of f, which is to be lifted: `Cuttable p f e b n`, the bar of b divides that of f and is coprime to what it leaves.
-- Proves that the bar of b is monic, that its quotient is, and what the division of f by b modulo p² gives modulo p. Assumes nothing.
use Rattle.std.specs.Prelude.{◌≡◌, List, ℕ, ◌<◌, ◌-◌, ◌+◌}
use Rattle.std.proofs.Common.{sym, ◌∙◌, ap, ap₂, subst, arith}
use Rattle.specification.specs.Limits.{◌²}
use Rattle.algebra.specs.Ring.{add_zero}
use Rattle.algebra.specs.Divisibility.{Coprime}
use Rattle.algebra.specs.PolynomialRing.{◌+ᴿ◌, ◌·◌, 𝟎}
use Rattle.algebra.specs.Degree.{Below, Monic, below_𝟎}
use Rattle.algebra.specs.Division.{divided_unique}
use Rattle.algebra.specs.Homomorphisms.{below_map}
use Rattle.algebra.specs.Leading.{monic_cofactor}
use Rattle.algebra.specs.Fields.{residue_discrete, residue_nontrivial}
use Rattle.algebra.specs.TakenPrimes.{is_prime_lem}
use Rattle.algebra.specs.CoefficientLists.{ℤ[x]/, poly, 𝓩[x]/}
use Rattle.arrays.specs.Held.{MonicArray, MonicModSquare}
use Rattle.factorisation.specs.ExtensionLaws.{bar_add, bar_mul}
use Rattle.items.specs.Reductions.{coefficients, barred, bar_poly, bar_monic_lem, extension}
use Rattle.division.specs.DivisionLoop.{DividedBy}

-- f is monic modulo p², of degree e, and b of degree n; modulo p, f is b times another polynomial, coprime to b
pub record Cuttable (p : ℕ) (f : List ℕ) (e : ℕ) (b : List ℕ) (n : ℕ) : Type 0 where
  pub monic : MonicModSquare p f e
  pub base : MonicArray (p ²) n b
  pub positive : 0 < n
  pub less : n < e
  pub other : ℤ[x]/ p
  pub multiplies : poly p b · other ≡ poly p f
  pub coprime : Coprime (𝓩[x]/ p) (poly p b) other

module _ {p : ℕ} {f b : List ℕ} {e n : ℕ} (C : Cuttable p f e b n) where
  pub large : 1 < p
  large = (is_prime_lem C.monic.prime).large

  pub base_bar : Monic n (poly p b)
  base_bar = bar_monic_lem p large b C.base.monic

  product : C.other · poly p b ≡ poly p f
  product = (𝓩[x]/ p).*_comm C.other (poly p b) ∙ C.multiplies

  pub other_monic : Monic (e - n) C.other
  other_monic =
      go
      (monic_cofactor (residue_discrete p) (residue_nontrivial large) {d = e} C.other (poly p b) base_bar
      (rw product (bar_monic_lem p large f C.monic.array.monic)))
    where
      go : (j : ℕ) × Monic j C.other × (j + n ≡ e) → Monic (e - n) C.other
      go (j, m, s) = subst (λ k. Monic k C.other) (let t : j ≡ e - n = omega arith in t) m

  module _ {q r : List ℕ} (D : DividedBy (p ²) f b n q r) where
    small : Below n (poly p r)
    small = subst (Below n) (bar_poly p large r) (below_map (coefficients p large).hom D.small)

    law : poly p q · poly p b +ᴿ poly p r ≡ C.other · poly p b +ᴿ 𝟎
    law =
        sym (bar_add (extension p large) (poly (p ²) q · poly (p ²) b) (poly (p ²) r)
        ∙ ap₂ ◌+ᴿ◌ (bar_mul (extension p large) (poly (p ²) q) (poly (p ²) b) ∙ ap₂ ◌·◌ (bar_poly p large q) (bar_poly p large b)) (bar_poly p large r))
        ∙ ap (barred p large) D.law ∙ bar_poly p large f ∙ sym product ∙ sym (add_zero (𝓩[x]/ p) (C.other · poly p b))

    -- modulo p the division comes out even
    pub even : (poly p q ≡ C.other) × (poly p r ≡ 𝟎)
    even = divided_unique base_bar (poly p q) (poly p r) C.other 𝟎 small (below_𝟎 n) law
