-- Coprime factors by a splitting element: `Halvable`, what is given, `HalvesOf`, what comes of it, and `CoprimeTo`, what the loop has seen of each
-- constant.
-- Proves that what is given is so in one way, what v − c is, that a gcd of degree 1 or more splits Q, and that one of the constants has such a gcd.
-- Assumes nothing.
use Rattle.std.specs.Prelude.{◌≡◌, List, ◌≢◌, ℕ, ◌≤◌, ◌<◌, ◌-◌, ◌+◌}
use Rattle.std.proofs.Common.{sym, ◌∙◌, ap, subst, inl, pos_of_ne-zero, arith}
use Rattle.std.proofs.Math.Path.{Σ_path}
use Rattle.std.proofs.Props.{props}
use mathlib.Core.HLevel.{is_prop→PathP}
use Rattle.algebra.specs.Ring.{CommRing, mul_one}
use Rattle.algebra.specs.Divisibility.{◌∣◌, Coprime, divides_mul, divides_add, coprime_common}
use Rattle.algebra.specs.Residues.{ℤ/, residue, Residues, residue_value, value_below}
use Rattle.algebra.specs.PolynomialRing.{◌+ᴿ◌, ◌·◌, -ᴿ◌, 𝟎, 𝟏, constant, constant_zero}
use Rattle.algebra.specs.Monomials.{x^}
use Rattle.algebra.specs.Degree.{Below, Monic, below_add, below_neg, below_up, below_constant, below_zero, below_𝟎, monic_zero, monic_one_lem, monic_mul_lem}
use Rattle.algebra.specs.Fields.{Prime, prime_pos, residue_field, residue_nontrivial}
use Rattle.algebra.specs.Division.{divided_unique}
use Rattle.algebra.specs.Bezout.{MonicBezout, bezout_monic}
use Rattle.algebra.specs.CoefficientLists.{ℤ[x]/, poly, Reduced, 𝓩[x]/}
use Rattle.arrays.specs.Represents.{Represents}
use Rattle.factorisation.specs.MonicDivisors.{monic_antisym, monic_degree, monic_nonzero, divisor_degree}
use Rattle.frobenius.specs.SplittingElements.{CoprimeFactors, SplittingElement, splitting_constant, splitting_factors}
use Rattle.modular.specs.Multiples.{multiple_taken_off}
use Rattle.division.specs.DivisionLoop.{DividedBy, divided_exactly}
use Rattle.modp_euclid.specs.CommonDivisors.{GcdOf}

-- Q is monic of degree d, and v is a splitting element of it
pub record Halvable (p : ℕ) (q : List ℕ) (d : ℕ) (v : List ℕ) : Type 0 where
  pub prime : Prime p
  pub byte : p < 256
  pub fits : d < 33
  pub reduced : Reduced p 33 q
  pub monic : Monic d (poly p q)
  pub element : Reduced p 33 v
  pub splits : SplittingElement p d (poly p q) (poly p v)

-- a monic polynomial has one quotient at most
divides_prop : {p d : ℕ} {Q : ℤ[x]/ p} → Monic d Q → (a : ℤ[x]/ p) → IsProp (◌∣◌ (𝓩[x]/ p) Q a)
divides_prop {p} {d} {Q} m a s t = Σ_path same (is_prop→PathP (λ i. same i · Q ≡ a) (λ i. (𝓩[x]/ p).is_set (same i · Q) a) s.1 t.1)
  where
    same : s.0 ≡ t.0
    same = (divided_unique m s.0 𝟎 t.0 𝟎 (below_𝟎 d) (below_𝟎 d) (ap (λ b. b +ᴿ 𝟎) (s.1 ∙ sym t.1))).0

pub halvable_prop : (p : ℕ) (q : List ℕ) (d : ℕ) (v : List ℕ) → IsProp (Halvable p q d v)
halvable_prop p q d v s = let all : IsProp (Halvable p q d v) = Prim.hlevel (props, divides_prop s.monic) in all s

-- Q is a·b, and a, of degree i, is coprime to b
pub record HalvesOf (p : ℕ) (q : List ℕ) (d : ℕ) (a : List ℕ) (i : ℕ) (b : List ℕ) : Type 0 where
  pub first : Reduced p 33 a
  pub monic_first : Monic i (poly p a)
  pub second : Reduced p 33 b
  pub monic_second : Monic (d - i) (poly p b)
  pub positive : 1 ≤ i
  pub less : i < d
  pub coprime : Coprime (𝓩[x]/ p) (poly p a) (poly p b)
  pub multiplies : poly p a · poly p b ≡ poly p q

-- v + (p − c)·1, where one is the list of 1
pub less_constant : (p c : ℕ) (v one r : List ℕ) → 0 < p → c ≤ p → poly p one ≡ 𝟏
    → Represents p r (poly p v +ᴿ constant (residue p (p - c)) · (x^ 0 · poly p one)) → Represents p r (poly p v +ᴿ -ᴿ constant (residue p c))
less_constant p c v one r pos l e h = record {
  reduced = h.reduced;
  is = multiple_taken_off p pos l (poly p v) (poly p one) h
      ∙ ap (λ a. poly p v +ᴿ -ᴿ (constant (residue p c) · a)) e
      ∙ ap (λ a. poly p v +ᴿ -ᴿ a) (mul_one (𝓩[x]/ p) (constant (residue p c)));
}

-- the gcd is the one that Bézout finds
gcd_of_bezout : {p : ℕ} (P : Prime p) {w q g : List ℕ} {d e : ℕ} → GcdOf p w q d g e
    → (z : MonicBezout (residue_field p P) (poly p q) (poly p w)) → z.combined.gcd ≡ poly p g
gcd_of_bezout {p} P hg z =
    monic_antisym (residue_nontrivial P.large) z.monic hg.monic (hg.greatest z.combined.gcd z.combined.right z.combined.left)
    (rw (← z.combined.combination)
    (divides_add (𝓩[x]/ p) (divides_mul (𝓩[x]/ p) z.combined.u hg.right) (divides_mul (𝓩[x]/ p) z.combined.v hg.left)))

module _ {p : ℕ} {q v : List ℕ} {d : ℕ} (S : Halvable p q d v) where
  abbrev 𝓑 : CommRing (ℤ[x]/ p)
  𝓑 = 𝓩[x]/ p

  nontrivial : (Residues p).𝟙 ≢ (Residues p).𝟘
  nontrivial = residue_nontrivial S.prime.large

  -- v − c
  abbrev pub less : ℕ → ℤ[x]/ p
  less c = poly p v +ᴿ -ᴿ constant (residue p c)

  pub positive : 1 ≤ d
  positive =
      pos_of_ne-zero (λ e. S.splits.nonconstant (Residues p).𝟘
      (below_zero (rw e at S.splits.small) ∙ sym (constant_zero (Residues p))))

  pub less_small : (c : ℕ) → Below d (less c)
  less_small c = below_add S.splits.small (below_neg (below_up positive (below_constant (residue p c))))

  -- the gcd of Q and v − c is 1
  abbrev pub CoprimeTo : ℕ → Type 0
  CoprimeTo c = (z : MonicBezout (residue_field p S.prime) (poly p q) (less c)) → z.combined.gcd ≡ 𝟏

  module _ (c : ℕ) {w g : List ℕ} {e : ℕ} (hw : Represents p w (less c)) (hg : GcdOf p w q d g e) where
    same_gcd : (z : MonicBezout (residue_field p S.prime) (poly p q) (less c)) → z.combined.gcd ≡ poly p g
    same_gcd = subst (λ r. (z : MonicBezout (residue_field p S.prime) (poly p q) r) → z.combined.gcd ≡ poly p g) hw.is (gcd_of_bezout S.prime hg)

    not_one : 0 < e → poly p g ≢ 𝟏
    not_one l k = omega (arith, monic_degree nontrivial hg.monic (subst (Monic 0) (sym k) monic_one_lem))

    -- a gcd of degree 1 or more splits Q
    pub halves_of : {b r : List ℕ} → 0 < e → DividedBy p q g e b r → HalvesOf p q d g e b
    halves_of {b} {r} l h =
        let z = bezout_monic (residue_field p S.prime) (poly p q) (less c) (inl (monic_nonzero nontrivial S.monic)) in
        go (rw (same_gcd z) at (splitting_factors S.prime S.monic S.splits (residue p c) z (rw (same_gcd z) (not_one l))))
      where
        go : (b' : ℤ[x]/ p) × CoprimeFactors (poly p q) (poly p g) b' → HalvesOf p q d g e b
        go (b', F) = record {
          first = hg.reduced;
          monic_first = hg.monic;
          second = h.quotient;
          monic_second = rw same (subst (λ (k : ℕ). Monic k b') degree F.monic_b);
          positive = l;
          less = omega (arith, degrees, F.positive_b, same_degree);
          coprime = rw same F.coprime;
          multiplies = rw same F.multiplies;
        }
          where
            same : poly p b ≡ b'
            same = (divided_exactly p q g hg.monic h b' (𝓑.*_comm b' (poly p g) ∙ F.multiplies)).0

            same_degree : F.i ≡ e
            same_degree = monic_degree nontrivial F.monic_a hg.monic

            degrees : F.i + F.j ≡ d
            degrees =
                monic_degree nontrivial (monic_mul_lem F.monic_a F.monic_b) (rw F.multiplies S.monic)

            degree : F.j ≡ d - e
            degree = omega (arith, degrees, same_degree)

    -- a gcd of degree 0 is 1
    pub coprime_at : e ≤ 0 → CoprimeTo c
    coprime_at l z = same_gcd z ∙ monic_zero (rw (let k : e ≡ 0 = omega arith in k) at hg.monic)

  -- v − c has no factor in common with Q
  pub coprime_known : (c : ℕ) → Coprime (𝓩[x]/ p) (poly p q) (less c) → CoprimeTo c
  coprime_known c h z =
      monic_zero (rw (let e : z.degree ≡ 0 = omega (arith, degree) in e) at z.monic)
    where
      degree : z.degree ≤ 0
      degree = divisor_degree nontrivial z.monic monic_one_lem (coprime_common (𝓩[x]/ p) h z.combined.left z.combined.right)

  pub not_all : ((c : ℕ) → c < p → CoprimeTo c) → ⊥
  not_all h = go (splitting_constant S.prime S.monic S.splits)
    where
      go : (c : ℤ/ p) × ((z : MonicBezout (residue_field p S.prime) (poly p q) (poly p v +ᴿ -ᴿ constant c)) → z.combined.gcd ≢ 𝟏) → ⊥
      go (c, n) =
          let z = bezout_monic (residue_field p S.prime) (poly p q) (poly p v +ᴿ -ᴿ constant c) (inl (monic_nonzero nontrivial S.monic)) in
          n z (subst (λ (k : ℤ/ p). (z : MonicBezout (residue_field p S.prime) (poly p q) (poly p v +ᴿ -ᴿ constant k)) → z.combined.gcd ≡ 𝟏)
          (residue_value p c) (h c.value (value_below p (prime_pos S.prime) c)) z)
