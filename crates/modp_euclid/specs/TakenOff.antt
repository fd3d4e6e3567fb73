-- An array reduced in place modulo another, g, which is of degree e: `TakenOff p a g e w r`, w is what g leaves of a, and r its size; `Taking`, the loop of
-- `take_off`, which has brought a down to i terms.
-- Proves how the loop begins, goes on and ends, and that the size falls. Assumes nothing.
use Rattle.std.specs.Prelude.{◌≡◌, List, ℕ, suc, ◌≤◌, ◌<◌, ◌-◌, ◌%◌, ◌+◌, ◌*◌, get_or, set, replicate}
use Rattle.std.proofs.Common.{arith}
use Rattle.algebra.specs.Residues.{residue}
use Rattle.algebra.specs.PolynomialRing.{◌+ᴿ◌, ◌·◌, constant}
use Rattle.algebra.specs.Degree.{Below}
use Rattle.algebra.specs.CoefficientLists.{poly, Reduced}
use Rattle.algebra.specs.Monomials.{x^}
use Rattle.arrays.specs.Represents.{Represents}
use Rattle.arrays.specs.Sizes.{Size, size_small}
use Rattle.division.specs.DivisionLoop.{MonicBy, DividedBy, PartialDivision, division_none, division_more, division_passed, division_done}

-- a is a multiple of g, and w, which is of lower degree than g
pub record TakenOff (p : ℕ) (a g : List ℕ) (e : ℕ) (w : List ℕ) (r : ℕ) : Type 0 where
  pub quotient : List ℕ
  pub divided : DividedBy p a g e quotient w
  pub size : Size w r

-- as in `divide_in_place`, but that no array holds the quotient
pub record Taking (p : ℕ) (a g : List ℕ) (e i : ℕ) (w : List ℕ) : Type 0 where
  pub quotient : List ℕ
  pub division : PartialDivision p a g e i quotient w

module _ {p : ℕ} {a g : List ℕ} {e : ℕ} where
  pub taking_none : {s : ℕ} → s ≤ 33 → Reduced p 33 a → Below s (poly p a) → Taking p a g e s a
  taking_none l ha h = record { quotient = replicate 33 0; division = division_none p a g l ha h }

  -- c·x^k·g goes away, where c is unit times the coefficient j = k + e, the top one
  module _ {unit : ℕ} (by : MonicBy p g e unit) {w : List ℕ} {i j : ℕ} (k : ℕ) {c : ℕ} (next : i ≡ suc j) (degrees : j ≡ k + e)
      (is : c ≡ get_or w j 0 * unit % p) (low : c < p) (before : Taking p a g e i w) where
    pub taking_more : {z : List ℕ} → Represents p z (poly p w +ᴿ constant (residue p (p - c)) · (x^ k · poly p g)) → Taking p a g e j z
    taking_more h = record {
      quotient = set before.quotient k c;
      division = division_more p a g by before.quotient w i j k c next degrees is low before.division h;
    }

    pub taking_passed : c ≡ 0 → Taking p a g e j w
    taking_passed none = record {
      quotient = set before.quotient k c;
      division = division_passed p a g by before.quotient w i j k c next degrees is low none before.division;
    }

  pub taking_done : {i r : ℕ} {w : List ℕ} → Taking p a g e i w → i ≤ e → Size w r → TakenOff p a g e w r
  taking_done t l size = record { quotient = t.quotient; divided = division_done p a g t.division l; size = size }

-- the divisor has n terms: the size of what is left is below n
pub fewer_left : {p n r : ℕ} {a g q w : List ℕ} → 0 < n → DividedBy p a g (n - 1) q w → Size w r → r < n
fewer_left pos divided size = omega (arith, size_small divided.remainder divided.small size)
