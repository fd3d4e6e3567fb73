-- What `radical_of` finds: `RadicalOf p a n r`, the p-th root of a (`RootHeld`), or a divisor without square factors; `DivisorOf p a n r`, a monic divisor
-- (`DivisorHeld`).
-- Proves that the quotient by a gcd is such a divisor; that an array is the p-th root, where the derivative is 𝟎; and `RadicalOf` of every divisor of the
-- quotient by the gcd with the derivative, where it is not. Assumes nothing.
use Rattle.std.specs.Prelude.{◌≡◌, refl, List, ◌≢◌, ℕ, ◌≤◌, ◌<◌, ◌/◌, ◌-◌, ◌+◌, ◌*◌}
use Rattle.std.proofs.Common.{sym, ◌∙◌, ap, zero-mul, pos_of_ne-zero, div-le_self, le_refl, arith}
use Rattle.algebra.specs.Divisibility.{◌∣◌, divides_refl, divides_trans}
use Rattle.algebra.specs.PolynomialRing.{◌·◌, 𝟎}
use Rattle.algebra.specs.Degree.{Below, Monic}
use Rattle.algebra.specs.Leading.{monic_cofactor}
use Rattle.algebra.specs.Fields.{Prime, residue_field, residue_discrete}
use Rattle.algebra.specs.CoefficientLists.{ℤ[x]/, 𝓩[x]/, poly, Reduced}
use Rattle.arrays.specs.Represents.{Represents}
use Rattle.arrays.specs.Sizes.{Size, size_zero, size_nonzero}
use Rattle.arrays.specs.declared.MonicPoly.{MonicPoly}
use Rattle.factorisation.specs.MonicDivisors.{divisor_below}
use Rattle.factorisation.specs.SquareFree.{SquareFree, squarefree_divisor}
use Rattle.frobenius.specs.FrobeniusPowers.{◌^ᴿ◌}
use Rattle.frobenius.specs.Derivatives.{derivative, below_derivative}
use Rattle.frobenius.specs.PowerRoots.{degree_multiple, root_monic}
use Rattle.frobenius.proofs.SquareFreeQuotients.{quotient_squarefree}
use Rattle.division.specs.DivisionLoop.{DividedBy, divided_exactly}
use Rattle.modp_euclid.specs.CommonDivisors.{GcdOf}
use Rattle.modp_radical.specs.declared.Radical.{Radical}
use Rattle.modp_radical.specs.declared.Radical.TheVariants.{Root, Divisor}

-- f, of degree d, is the p-th root of a, which is monic of degree n
pub record RootHeld (p : ℕ) (a : ℤ[x]/ p) (n : ℕ) (f : List ℕ) (d : ℕ) : Type 0 where
  pub positive : 0 < d
  pub fits : d ≤ n
  pub reduced : Reduced p 33 f
  pub monic : Monic d (poly p f)
  pub power : poly p f ^ᴿ p ≡ a
  pub degrees : d * p ≡ n

-- f, of degree d, is a monic divisor of a, which is of degree n, of degree 1 or more
pub record DivisorHeld (p : ℕ) (a : ℤ[x]/ p) (n : ℕ) (f : List ℕ) (d : ℕ) : Type 0 where
  pub positive : 0 < d
  pub fits : d ≤ n
  pub reduced : Reduced p 33 f
  pub monic : Monic d (poly p f)
  pub divides : ◌∣◌ (𝓩[x]/ p) (poly p f) a

-- the p-th root of a, which is of degree n; else a divisor of a without square factors
abbrev pub RadicalOf : (p : ℕ) → ℤ[x]/ p → ℕ → Radical → Type 0
RadicalOf p a n (Root r) = RootHeld p a n r.coefs r.degree × (r.n ≡ p)
RadicalOf p a n (Divisor r) = DivisorHeld p a n r.coefs r.degree × SquareFree (poly p r.coefs) × (r.n ≡ p)

-- a monic divisor of a, which is of degree n, not told as a root
abbrev pub DivisorOf : (p : ℕ) → ℤ[x]/ p → ℕ → Radical → Type 0
DivisorOf p a n (Root r) = ⊥
DivisorOf p a n (Divisor r) = DivisorHeld p a n r.coefs r.degree × (r.n ≡ p)

-- the polynomial itself
pub divisor_whole : (z : MonicPoly) → 0 < z.degree → DivisorOf z.n (poly z.n z.coefs) z.degree (Divisor z)
divisor_whole z pos = (whole, refl)
  where
    whole : DivisorHeld z.n (poly z.n z.coefs) z.degree z.coefs z.degree
    whole = record {
      positive = pos;
      fits = le_refl z.degree;
      reduced = z.monic.reduced;
      monic = z.monic.monic;
      divides = divides_refl (𝓩[x]/ z.n) (poly z.n z.coefs);
    }

-- a divisor of a divisor without square factors
radical_divisor : {p : ℕ} {a : ℤ[x]/ p} {n : ℕ} {z : List ℕ} {d : ℕ} → DivisorHeld p a n z d → SquareFree (poly p z)
    → (r : Radical) → DivisorOf p (poly p z) d r → RadicalOf p a n r
radical_divisor {p} {a} {n} Z free (Divisor f) (R, same) = (further, squarefree_divisor R.divides free, same)
  where
    further : DivisorHeld p a n f.coefs f.degree
    further = record {
      positive = R.positive;
      fits = omega (arith, R.fits, Z.fits);
      reduced = R.reduced;
      monic = R.monic;
      divides = divides_trans (𝓩[x]/ p) R.divides Z.divides;
    }
radical_divisor Z free (Root f) R = absurd R

-- the quotient of a by its gcd with v
module _ {p n : ℕ} {a v g b r : List ℕ} {e : ℕ} (hg : GcdOf p v a n g e) (hb : DividedBy p a g e b r) where
  multiplies : poly p b · poly p g ≡ poly p a
  multiplies = ap (λ c. c · poly p g) (divided_exactly p a g hg.monic hb hg.right.0 hg.right.1).0 ∙ hg.right.1

  -- v has fewer terms than a, and is not 𝟎
  pub quotient_divisor : Prime p → Monic n (poly p a) → Below n (poly p v) → poly p v ≢ 𝟎 → DivisorHeld p (poly p a) n b (n - e)
  quotient_divisor P monic terms nonzero =
      go (monic_cofactor (residue_discrete p) (residue_field p P).one_ne_zero (poly p b) (poly p g) hg.monic (rw multiplies monic))
    where
      go : (j : ℕ) × Monic j (poly p b) × (j + e ≡ n) → DivisorHeld p (poly p a) n b (n - e)
      go (j, m, s) = record {
        positive = omega (arith, divisor_below terms nonzero hg.monic hg.left);
        fits = omega arith;
        reduced = hb.quotient;
        monic = rw (let q : n - e ≡ j = omega arith in q) m;
        divides = (poly p g, (𝓩[x]/ p).*_comm (poly p g) (poly p b) ∙ multiplies);
      }

-- the p-th root in an array
pub radical_root : {p n : ℕ} (a : List ℕ) {h : List ℕ} → Prime p → 0 < n → Monic n (poly p a) → derivative (poly p a) ≡ 𝟎 → Reduced p 33 h
    → poly p h ^ᴿ p ≡ poly p a → RootHeld p (poly p a) n h (n / p)
radical_root {p} {n} a P pos monic zero reduced power = record {
  positive = pos_of_ne-zero (λ z. omega (arith, pos, whole, ap (λ (k : ℕ). k * p) z, zero-mul p));
  fits = div-le_self n p;
  reduced = reduced;
  monic = root_monic P power monic whole;
  power = power;
  degrees = whole;
}
  where
    whole : n / p * p ≡ n
    whole = degree_multiple P monic zero

-- the derivative in an array
module _ {p : ℕ} (a : List ℕ) {v : List ℕ} (derived : Represents p v (derivative (poly p a))) where
  pub derivative_terms : {n : ℕ} → Monic n (poly p a) → Below n (poly p v)
  derivative_terms m = rw derived.is (below_derivative m.below)

  pub derivative_zero : {z : ℕ} → Size v z → z ≡ 0 → derivative (poly p a) ≡ 𝟎
  derivative_zero size e = sym derived.is ∙ size_zero size e

module _ {p n : ℕ} (P : Prime p) (a : List ℕ) (monic : Monic n (poly p a)) {v : List ℕ} (derived : Represents p v (derivative (poly p a)))
    {z : ℕ} (size : Size v z) (nonzero : z ≢ 0) {g b r : List ℕ} {e : ℕ} (hg : GcdOf p v a n g e) (hb : DividedBy p a g e b r) where
  pub derivative_quotient : DivisorHeld p (poly p a) n b (n - e)
  derivative_quotient = quotient_divisor hg hb P monic (derivative_terms a derived monic) (size_nonzero derived.reduced size nonzero)

  -- the quotient has no square factor, nor has a divisor of it
  pub radical_quotient : (q : Radical) → DivisorOf p (poly p b) (n - e) q → RadicalOf p (poly p a) n q
  radical_quotient =
      radical_divisor derivative_quotient
      (quotient_squarefree P monic (multiplies hg hb) (rw derived.is at hg.greatest))
