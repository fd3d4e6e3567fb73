-- Division of arrays by an array that a unit makes monic (`MonicBy`): `DividedBy`, what holds of quotient and remainder; the loop of `divide_in_place`.
-- Proves that the loop, which takes the highest term away turn by turn, ends as it should, what a division that comes out even gives, and that of monic
-- polynomials it gives a monic one. Assumes nothing.
use Rattle.std.specs.Prelude.{◌≡◌, List, ℕ, suc, ◌≤◌, ◌<◌, ◌-◌, ◌%◌, ◌+◌, ◌*◌, get_or, set, replicate}
use Rattle.std.proofs.Common.{sym, ◌∙◌, ap, ap₂, arith, get_or-set_other}
use Rattle.std.proofs.Math.Nat.{sub-zero, mod_self}
use Rattle.algebra.specs.Ring.{add_zero}
use Rattle.algebra.specs.Divisibility.{◌∣◌}
use Rattle.algebra.specs.Identities.{con, ◌⊕◌, ◌⊖◌, ◌⊗◌, ◌≈◌, solve}
use Rattle.algebra.specs.Residues.{residue, residue_mul, residue_mod}
use Rattle.algebra.specs.PolynomialRing.{◌+ᴿ◌, ◌·◌, -ᴿ◌, 𝟎, constant, constant_mul}
use Rattle.algebra.specs.Degree.{Below, Monic, below_𝟎, below_up, monic_mul_lem, monic_pow_x}
use Rattle.algebra.specs.Leading.{monic_cofactor}
use Rattle.algebra.specs.Fields.{residue_discrete, residue_nontrivial}
use Rattle.algebra.specs.Division.{below_top, divided_unique}
use Rattle.algebra.specs.CoefficientLists.{ℤ[x]/, poly, Reduced, coef_poly, 𝓩[x]/}
use Rattle.algebra.specs.ListShapes.{get_d_zeros}
use Rattle.algebra.specs.Monomials.{x^}
use Rattle.arrays.specs.Represents.{Represents, zeros}
use Rattle.arrays.specs.Terms.{term_set}
use Rattle.modular.specs.Multiples.{one_multiple, negative_multiple, nothing_represented}

-- unit·b is monic of degree d, and b has no term above d
pub record MonicBy (n : ℕ) (b : List ℕ) (d unit : ℕ) : Type 0 where
  pub below : Below (suc d) (poly n b)
  pub monic : Monic d (constant (residue n unit) · poly n b)

pub monic_by_one : {n : ℕ} {b : List ℕ} {d : ℕ} → Monic d (poly n b) → MonicBy n b d 1
monic_by_one {n} {b} m = record { below = m.below; monic = rw (one_multiple n (poly n b)) m }

-- q and r are the arrays of the quotient and of the remainder of a by b, which is of degree d
pub record DividedBy (n : ℕ) (a b : List ℕ) (d : ℕ) (q r : List ℕ) : Type 0 where
  pub quotient : Reduced n 33 q
  pub remainder : Reduced n 33 r
  pub law : poly n q · poly n b +ᴿ poly n r ≡ poly n a
  pub small : Below d (poly n r)

-- what is left has i terms, and the quotient none yet below i − d
pub record PartialDivision (n : ℕ) (a b : List ℕ) (d i : ℕ) (q w : List ℕ) : Type 0 where
  pub limit : i ≤ 33
  pub quotient : Reduced n 33 q
  pub free : (k : ℕ) → k + d < i → get_or q k 0 ≡ 0
  pub remainder : Reduced n 33 w
  pub law : poly n q · poly n b +ᴿ poly n w ≡ poly n a
  pub small : Below i (poly n w)

module _ (n : ℕ) (a b : List ℕ) where
  pub division_none : {d s : ℕ} → s ≤ 33 → Reduced n 33 a → Below s (poly n a) → PartialDivision n a b d s (replicate 33 0) a
  division_none l ha h = record {
    limit = l;
    quotient = (zeros n pos).reduced;
    free = λ k l. get_d_zeros 33 k;
    remainder = ha;
    law = ap (λ q. q · poly n b +ᴿ poly n a) (zeros n pos).is
        ∙ solve (𝓩[x]/ n) 2 (λ b a. con 0 ⊗ b ⊕ a ≈ a) tt (poly n b) (poly n a);
    small = h;
  }
    where
      pos : 0 < n
      pos = omega (arith, ha.low 0)

  -- c·x^k goes into the quotient and c·x^k·b away from what is left, where c is unit times the coefficient j = k + d, the top one
  module _ {d unit : ℕ} (by : MonicBy n b d unit) (q w : List ℕ) (i j k c : ℕ) (next : i ≡ suc j) (degrees : j ≡ k + d)
      (is : c ≡ get_or w j 0 * unit % n) (low : c < n) where
    abbrev top : ℤ[x]/ n
    top = constant (residue n c)

    abbrev multiple : ℤ[x]/ n
    multiple = x^ k · poly n b

    -- the multiple taken off is that of unit·b by the top coefficient
    same : top · multiple ≡ constant ((poly n w).coef j) · (x^ k · (constant (residue n unit) · poly n b))
    same =
        ap (λ e. e · multiple)
        (ap constant (ap (residue n) is ∙ residue_mod n (omega (arith, low)) (get_or w j 0 * unit) ∙ residue_mul n (get_or w j 0) unit)
        ∙ constant_mul (residue n (get_or w j 0)) (residue n unit))
        ∙ solve (𝓩[x]/ n) 4 (λ t u x b. t ⊗ u ⊗ (x ⊗ b) ≈ t ⊗ (x ⊗ (u ⊗ b))) tt
        (constant (residue n (get_or w j 0))) (constant (residue n unit)) (x^ k) (poly n b)
        ∙ ap (λ e. constant e · (x^ k · (constant (residue n unit) · poly n b))) (sym (coef_poly n w j))

    pub division_more : {u : List ℕ} → PartialDivision n a b d i q w → Represents n u (poly n w +ᴿ constant (residue n (n - c)) · (x^ k · poly n b))
        → PartialDivision n a b d j (set q k c) u
    division_more {u} p hu = record {
      limit = omega (arith, p.limit);
      quotient = term.reduced;
      free = λ m l. get_or-set_other q k m c 0 (omega arith) ∙ p.free m (omega arith);
      remainder = hu.reduced;
      law = ap₂ (λ y z. y · poly n b +ᴿ z) term.is left_is
          ∙ solve (𝓩[x]/ n) 5 (λ q c y b w. (q ⊕ c ⊗ y) ⊗ b ⊕ (w ⊖ c ⊗ (y ⊗ b)) ≈ q ⊗ b ⊕ w) tt
          (poly n q) top (x^ k) (poly n b) (poly n w)
          ∙ p.law;
      small = rw (left_is, same, degrees) fewer;
    }
      where
        term : Represents n (set q k c) (poly n q +ᴿ top · x^ k)
        term = term_set n k p.quotient (omega (arith, p.limit)) (p.free k (omega arith)) low

        left_is : poly n u ≡ poly n w +ᴿ -ᴿ (top · multiple)
        left_is = hu.is ∙ ap (λ c. poly n w +ᴿ c) (negative_multiple n (omega (arith, low)) (omega (arith, low)) multiple)

        fewer : Below (k + d) (poly n w +ᴿ -ᴿ (constant ((poly n w).coef (k + d)) · (x^ k · (constant (residue n unit) · poly n b))))
        fewer = below_top (monic_mul_lem (monic_pow_x k) by.monic) (poly n w) (below_up (omega arith) p.small)

    -- where c is 0 there is nothing to take away
    pub division_passed : c ≡ 0 → PartialDivision n a b d i q w → PartialDivision n a b d j (set q k c) w
    division_passed e p = division_more p (nothing_represented (n - c) (x^ k · poly n b) p.remainder (rw (e, sub-zero) (mod_self n)))

  pub division_done : {d i : ℕ} {q w : List ℕ} → PartialDivision n a b d i q w → i ≤ d → DividedBy n a b d q w
  division_done p l = record { quotient = p.quotient; remainder = p.remainder; law = p.law; small = below_up l p.small }

  -- a is k·b
  pub divided_exactly : {d : ℕ} {q r : List ℕ} → Monic d (poly n b) → DividedBy n a b d q r → (k : ℤ[x]/ n) → k · poly n b ≡ poly n a
      → (poly n q ≡ k) × (poly n r ≡ 𝟎)
  divided_exactly {d} {q} {r} m h k e =
      divided_unique m (poly n q) (poly n r) k 𝟎 h.small (below_𝟎 d) (h.law ∙ sym e ∙ sym (add_zero (𝓩[x]/ n) (k · poly n b)))

  -- b divides a
  module _ {e : ℕ} {q r : List ℕ} (monic : Monic e (poly n b)) (divides : ◌∣◌ (𝓩[x]/ n) (poly n b) (poly n a)) (h : DividedBy n a b e q r) where
    multiplies : poly n q · poly n b ≡ poly n a
    multiplies = ap (λ c. c · poly n b) (divided_exactly monic h divides.0 divides.1).0 ∙ divides.1

    pub exact_division : DividedBy n a b e q (replicate 33 0)
    exact_division = record {
      quotient = h.quotient;
      remainder = nothing.reduced;
      law = ap (λ r. poly n q · poly n b +ᴿ r) nothing.is ∙ add_zero (𝓩[x]/ n) (poly n q · poly n b) ∙ multiplies;
      small = rw nothing.is (below_𝟎 e);
    }
      where
        nothing : Represents n (replicate 33 0) 𝟎
        nothing = zeros n (omega (arith, h.quotient.low 0))

    pub quotient_monic : {d : ℕ} → 1 < n → Monic d (poly n a) → (e ≤ d) × Monic (d - e) (poly n q)
    quotient_monic {d} large ma =
        go (monic_cofactor (residue_discrete n) (residue_nontrivial large) (poly n q) (poly n b) monic (rw multiplies ma))
      where
        go : (j : ℕ) × Monic j (poly n q) × (j + e ≡ d) → (e ≤ d) × Monic (d - e) (poly n q)
        go (j, m, s) = (omega (arith, s), rw (let k : d - e ≡ j = omega (arith, s) in k) m)
