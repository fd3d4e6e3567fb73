-- A row of Euclid's algorithm reduced in place by another, f: `RowTakenOff p s e t r f z n`, where f is of degree e and leaves the row z, of size n, of r,
-- which has s terms; `TakingRow`, the loop of `take_row_off`.
-- Proves how the loop begins, goes on and ends, and that what u·a leaves modulo b stays so. Assumes nothing.
use Rattle.std.specs.Prelude.{◌≡◌, refl, List, ℕ, suc, ◌≤◌, ◌<◌, ◌-◌, ◌%◌, ◌+◌, ◌*◌, get_or, set, replicate}
use Rattle.std.proofs.Common.{sym, ◌∙◌, ap, ap₂, le_refl, arith}
use Rattle.std.proofs.Math.Nat.{sub-zero, mod_self}
use Rattle.algebra.specs.Ring.{linear1}
use Rattle.algebra.specs.Identities.{con, ◌⊕◌, ◌⊖◌, ◌⊗◌, ◌≈◌, solve}
use Rattle.algebra.specs.Residues.{residue}
use Rattle.algebra.specs.PolynomialRing.{◌+ᴿ◌, ◌·◌, -ᴿ◌, 𝟏, constant}
use Rattle.algebra.specs.Degree.{Below, below_up, below_add, below_mul, below_constant_mul, monic_pow_x}
use Rattle.algebra.specs.CoefficientLists.{ℤ[x]/, poly, Reduced, 𝓩[x]/}
use Rattle.algebra.specs.Congruence.{congruent_equal, congruent_add, congruent_mul, congruent_neg}
use Rattle.algebra.specs.Monomials.{x^}
use Rattle.arrays.specs.Represents.{Represents, zeros}
use Rattle.arrays.specs.Sizes.{Size}
use Rattle.arrays.specs.Terms.{term_set}
use Rattle.modular.specs.Multiples.{negative_multiple, nothing_represented}
use Rattle.division.specs.DivisionLoop.{MonicBy, DividedBy, PartialDivision, division_none, division_more, division_done}
use Rattle.modp_euclid.specs.RemainderRows.{Row, Leaves, ReducedRow}

-- r has s terms, f is of degree e, and the cofactors have t terms
pub record Operands (p s e t : ℕ) (r f : Row) : Type 0 where
  pub dividend : ReducedRow p t r
  pub terms : Below s (poly p r.remainder)
  pub divisor : ReducedRow p t f
  pub size : Size f.remainder (e + 1)

-- y is u less q·v, and has t terms
pub record CofactorTakenOff (p t : ℕ) (q u v y : List ℕ) : Type 0 where
  pub reduced : Reduced p 33 y
  pub small : Below t (poly p y)
  pub law : poly p y ≡ poly p u +ᴿ -ᴿ (poly p q · poly p v)

-- z is r less a multiple of f, and of lower degree than f; its cofactor may have s − 1 − e terms more, the degree of the quotient
pub record RowTakenOff (p s e t : ℕ) (r f z : Row) (n : ℕ) : Type 0 where
  pub quotient : List ℕ
  pub divided : DividedBy p r.remainder f.remainder e quotient z.remainder
  pub cofactor : CofactorTakenOff p (t + (s - 1 - e)) quotient r.cofactor f.cofactor z.cofactor
  pub size : Size z.remainder n

-- i terms are left
pub record TakingRow (p s e t : ℕ) (r f : Row) (i : ℕ) (z : Row) : Type 0 where
  pub limit : i ≤ s
  pub quotient : List ℕ
  pub division : PartialDivision p r.remainder f.remainder e i quotient z.remainder
  pub cofactor : CofactorTakenOff p (t + (s - 1 - e)) quotient r.cofactor f.cofactor z.cofactor

module _ {p s e t : ℕ} {r f : Row} where
  pub taking_row_none : s ≤ 33 → Operands p s e t r f → TakingRow p s e t r f s r
  taking_row_none l h = record {
    limit = le_refl s;
    quotient = replicate 33 0;
    division = division_none p r.remainder f.remainder l h.dividend.remainder h.terms;
    cofactor = record { reduced = h.dividend.cofactor; small = below_up (omega arith) h.dividend.small; law = nothing };
  }
    where
      nothing : poly p r.cofactor ≡ poly p r.cofactor +ᴿ -ᴿ (poly p (replicate 33 0) · poly p f.cofactor)
      nothing =
          solve (𝓩[x]/ p) 2 (λ u v. u ≈ u ⊖ con 0 ⊗ v) tt (poly p r.cofactor) (poly p f.cofactor)
          ∙ ap (λ q. poly p r.cofactor +ᴿ -ᴿ (q · poly p f.cofactor)) (sym (zeros p (omega (arith, h.dividend.remainder.low 0))).is)

  -- c·x^k·f goes away, where c is unit times the coefficient j = k + e, the top one
  module _ {unit : ℕ} (operands : Operands p s e t r f) (by : MonicBy p f.remainder e unit) {z : Row} {i j : ℕ} (k : ℕ) {c : ℕ} (next : i ≡ suc j)
      (degrees : j ≡ k + e) (is : c ≡ get_or z.remainder j 0 * unit % p) (low : c < p) (before : TakingRow p s e t r f i z) where
    pub taking_row_more : {a u : List ℕ} → Represents p a (poly p z.remainder +ᴿ constant (residue p (p - c)) · (x^ k · poly p f.remainder))
        → Represents p u (poly p z.cofactor +ᴿ constant (residue p (p - c)) · (x^ k · poly p f.cofactor))
        → TakingRow p s e t r f j (record { remainder = a; cofactor = u })
    taking_row_more {u = u} ha hu = record {
      limit = omega (arith, before.limit);
      quotient = set before.quotient k c;
      division = division_more p r.remainder f.remainder by before.quotient z.remainder i j k c next degrees is low before.division ha;
      cofactor = record {
        reduced = hu.reduced;
        small = rw hu.is (below_add before.cofactor.small (below_constant_mul (residue p (p - c)) shifted));
        law = law;
      };
    }
      where
        top : ℤ[x]/ p
        top = constant (residue p c)

        shifted : Below (t + (s - 1 - e)) (x^ k · poly p f.cofactor)
        shifted = rw ((𝓩[x]/ p).*_comm (x^ k) (poly p f.cofactor))
            (below_up (omega (arith, before.limit)) (below_mul operands.divisor.small (monic_pow_x k).below))

        term : Represents p (set before.quotient k c) (poly p before.quotient +ᴿ top · x^ k)
        term =
            term_set p k before.division.quotient (omega (arith, before.division.limit)) (before.division.free k (omega arith)) low

        law : poly p u ≡ poly p r.cofactor +ᴿ -ᴿ (poly p (set before.quotient k c) · poly p f.cofactor)
        law =
            hu.is
            ∙ ap₂ (λ y m. y +ᴿ m) before.cofactor.law (negative_multiple p (omega (arith, low)) (omega (arith, low)) (x^ k · poly p f.cofactor))
            ∙ solve (𝓩[x]/ p) 5 (λ u q v c x. u ⊖ q ⊗ v ⊖ c ⊗ (x ⊗ v) ≈ u ⊖ (q ⊕ c ⊗ x) ⊗ v) tt
            (poly p r.cofactor) (poly p before.quotient) (poly p f.cofactor) top (x^ k)
            ∙ ap (λ q. poly p r.cofactor +ᴿ -ᴿ (q · poly p f.cofactor)) (sym term.is)

    -- where c is 0 there is nothing to take away
    pub taking_row_passed : c ≡ 0 → TakingRow p s e t r f j z
    taking_row_passed none =
        taking_row_more (nothing_represented (p - c) (x^ k · poly p f.remainder) before.division.remainder nothing)
        (nothing_represented (p - c) (x^ k · poly p f.cofactor) before.cofactor.reduced nothing)
      where
        nothing : (p - c) % p ≡ 0
        nothing = rw (none, sub-zero) (mod_self p)

  pub taking_row_done : {i n : ℕ} {z : Row} → TakingRow p s e t r f i z → i ≤ e → Size z.remainder n → RowTakenOff p s e t r f z n
  taking_row_done h l size = record {
    quotient = h.quotient;
    divided = division_done p r.remainder f.remainder h.division l;
    cofactor = h.cofactor;
    size = size;
  }

-- (u − q·v)·a leaves what the one remainder less q times the other is
pub leaves_taken_off : (p : ℕ) (a b : List ℕ) {s e t n : ℕ} {r f z : Row} → RowTakenOff p s e t r f z n → Leaves p a b r → Leaves p a b f → Leaves p a b z
leaves_taken_off p a b {r = r} {f} {z} h hr hf =
    rw (h.cofactor.law, left, right)
    (congruent_add (𝓩[x]/ p) hr
    (congruent_neg (𝓩[x]/ p) (congruent_mul (𝓩[x]/ p) (congruent_equal (𝓩[x]/ p) refl) hf)))
  where
    left : (poly p r.cofactor +ᴿ -ᴿ (poly p h.quotient · poly p f.cofactor)) · poly p a
        ≡ poly p r.cofactor · poly p a +ᴿ -ᴿ (poly p h.quotient · (poly p f.cofactor · poly p a))
    left =
        solve (𝓩[x]/ p) 4 (λ u q v a. (u ⊖ q ⊗ v) ⊗ a ≈ u ⊗ a ⊖ q ⊗ (v ⊗ a)) tt
        (poly p r.cofactor) (poly p h.quotient) (poly p f.cofactor) (poly p a)

    right : poly p z.remainder ≡ poly p r.remainder +ᴿ -ᴿ (poly p h.quotient · poly p f.remainder)
    right =
        linear1 (𝓩[x]/ p) 𝟏 h.divided.law
        (solve (𝓩[x]/ p) 4 (λ q f w a. w ⊖ (a ⊖ q ⊗ f) ≈ con 1 ⊗ (q ⊗ f ⊕ w ⊖ a)) tt
        (poly p h.quotient) (poly p f.remainder) (poly p z.remainder) (poly p r.remainder))
