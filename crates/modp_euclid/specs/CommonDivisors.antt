-- The monic gcd of a and b over ℤ/p: `GcdOf p a b d g e`, where b is of degree d and g of degree e; `CofactorOf p a b d g u`, the cofactor of a.
-- Proves that Euclid's algorithm ends with them, with the cofactors and without. Assumes nothing.
use Rattle.std.specs.Prelude.{◌≡◌, List, ℕ, ◌≤◌, ◌-◌, ◌+◌}
use Rattle.std.proofs.Common.{arith}
use Rattle.algebra.specs.Divisibility.{◌∣◌, divides_refl, divides_trans, divides_mul, divides_zero}
use Rattle.algebra.specs.Residues.{residue}
use Rattle.algebra.specs.PolynomialRing.{◌·◌, 𝟎, constant}
use Rattle.algebra.specs.Degree.{Below, Monic, below_up, below_zero}
use Rattle.algebra.specs.CoefficientLists.{ℤ[x]/, poly, Reduced, 𝓩[x]/}
use Rattle.algebra.specs.Congruence.{Congruent, congruent_sym, divides_congruent}
use Rattle.arrays.specs.Sizes.{Size, below_size}
use Rattle.modp_euclid.specs.MonicMultiples.{MonicMultipleOf, divides_back}
use Rattle.modp_euclid.specs.RemainderRows.{Row, Rows, MonicRow, Formed, Combined, leaves_monic}
use Rattle.modp_euclid.specs.Remainders.{Remainders, Reached}

-- g divides a and b, and every common divisor divides g
pub record GcdOf (p : ℕ) (a b : List ℕ) (d : ℕ) (g : List ℕ) (e : ℕ) : Type 0 where
  pub reduced : Reduced p 33 g
  pub limit : e ≤ d
  pub monic : Monic e (poly p g)
  pub left : ◌∣◌ (𝓩[x]/ p) (poly p g) (poly p a)
  pub right : ◌∣◌ (𝓩[x]/ p) (poly p g) (poly p b)
  pub greatest : (h : ℤ[x]/ p) → ◌∣◌ (𝓩[x]/ p) h (poly p a) → ◌∣◌ (𝓩[x]/ p) h (poly p b)
      → ◌∣◌ (𝓩[x]/ p) h (poly p g)

-- u·a leaves g modulo b
pub record CofactorOf (p : ℕ) (a b : List ℕ) (d : ℕ) (g u : List ℕ) : Type 0 where
  pub reduced : Reduced p 33 u
  pub small : Below d (poly p u)
  pub combination : Congruent (𝓩[x]/ p) (poly p b) (poly p u · poly p a) (poly p g)

-- the monic multiple of h is the gcd, where h has the common divisors of a and b
gcd_of_multiple : {p d e c : ℕ} {a b h g : List ℕ} → MonicMultipleOf p h e g c → e ≤ d
    → ((k : ℤ[x]/ p) → ◌∣◌ (𝓩[x]/ p) k (poly p h) → ◌∣◌ (𝓩[x]/ p) k (poly p a) × ◌∣◌ (𝓩[x]/ p) k (poly p b))
    → ((k : ℤ[x]/ p) → ◌∣◌ (𝓩[x]/ p) k (poly p a) → ◌∣◌ (𝓩[x]/ p) k (poly p b) → ◌∣◌ (𝓩[x]/ p) k (poly p h))
    → GcdOf p a b d g e
gcd_of_multiple {p} {e = e} {c} {a} {b} {g = g} m limit common greatest = record {
  reduced = m.multiple.reduced;
  limit = limit;
  monic = m.monic;
  left = both.0;
  right = both.1;
  greatest = λ k left right. rw m.multiple.is (divides_mul (𝓩[x]/ p) (constant (residue p c)) (greatest k left right));
}
  where
    both : ◌∣◌ (𝓩[x]/ p) (poly p g) (poly p a) × ◌∣◌ (𝓩[x]/ p) (poly p g) (poly p b)
    both = common (poly p g) (divides_back m (poly p g) (divides_refl (𝓩[x]/ p) (poly p g)))

-- a remainder of size 0 is 0, which everything divides
divides_nothing : {p : ℕ} {a : List ℕ} {s : ℕ} (k : ℤ[x]/ p) → Size a s → s ≤ 0 → ◌∣◌ (𝓩[x]/ p) k (poly p a)
divides_nothing {p} {a} k size l = rw nothing (divides_zero (𝓩[x]/ p) k)
  where
    nothing : poly p a ≡ 𝟎
    nothing = below_zero (below_up l (below_size p size))

module _ {p d : ℕ} {a b : List ℕ} {w : Rows} {f : Row} (combined : Combined p a b w) (formed : Formed p d w)
    (monic : MonicRow p (d + 1 - w.terms) (w.terms - 1) w.former f) where
  -- the latter remainder is 0: the former, made monic, is the gcd
  pub gcd_former : w.size ≤ 0 → GcdOf p a b d f.remainder (w.terms - 1)
  gcd_former l =
      gcd_of_multiple monic.remainder (omega (arith, formed.limit)) (λ k h. combined.common k h (divides_nothing k formed.size l))
      (λ k left right.
      divides_congruent (𝓩[x]/ p)
      (congruent_sym (𝓩[x]/ p) (divides_trans (𝓩[x]/ p) right combined.former))
      (divides_mul (𝓩[x]/ p) (poly p w.former.cofactor) left))

  pub cofactor_former : CofactorOf p a b d f.remainder f.cofactor
  cofactor_former = record {
    reduced = monic.reduced.cofactor;
    small = below_up (omega (arith, formed.fewer)) monic.reduced.small;
    combination = leaves_monic a b monic combined.former;
  }

pub gcd_of_remainders : {p d c : ℕ} {a b g : List ℕ} {w : Remainders} → Reached p a b d w → w.size ≤ 0
    → MonicMultipleOf p w.former (w.terms - 1) g c → GcdOf p a b d g (w.terms - 1)
gcd_of_remainders h l m =
    gcd_of_multiple m (omega (arith, h.limit)) (λ k f. h.same.up k f (divides_nothing k h.successive.size l))
    (λ k left right. (h.same.down k left right).0)
