-- Remainders modulo a monic polynomial: `Remainder n q d r p`, the array r holds the remainder of p by q, of degree d.
-- Proves that a congruent polynomial has the same remainder, that a remainder is one array only, that it is 𝟎 only where q divides, and that division
-- leaves it. Assumes nothing.
use Rattle.std.specs.Prelude.{◌≡◌, List, ◌≢◌, ℕ}
use Rattle.algebra.specs.Divisibility.{◌∣◌, divides_zero}
use Rattle.algebra.specs.PolynomialRing.{𝟎}
use Rattle.algebra.specs.Degree.{Below, Monic}
use Rattle.algebra.specs.CoefficientLists.{ℤ[x]/, poly, Reduced, 𝓩[x]/, same_list}
use Rattle.algebra.specs.Congruence.{Congruent, congruent_sym, congruent_trans, congruent_remainder, congruent_unique, divides_congruent}
use Rattle.division.specs.DivisionLoop.{DividedBy}

-- r is congruent to p modulo q and has d terms
pub record Remainder (n : ℕ) (q : List ℕ) (d : ℕ) (r : List ℕ) (p : ℤ[x]/ n) : Type 0 where
  pub reduced : Reduced n 33 r
  pub small : Below d (poly n r)
  pub congruent : Congruent (𝓩[x]/ n) (poly n q) (poly n r) p

module _ (n : ℕ) {q : List ℕ} {d : ℕ} where
  -- a congruent polynomial has the same remainder
  pub remainder_as : {r : List ℕ} {p p' : ℤ[x]/ n} → Remainder n q d r p
      → Congruent (𝓩[x]/ n) (poly n q) p p' → Remainder n q d r p'
  remainder_as h c = record {
    reduced = h.reduced;
    small = h.small;
    congruent = congruent_trans (𝓩[x]/ n) h.congruent c;
  }

  pub one_remainder : Monic d (poly n q) → {r s : List ℕ} {p : ℤ[x]/ n} → Remainder n q d r p → Remainder n q d s p → r ≡ s
  one_remainder m hr hs =
      same_list hr.reduced hs.reduced
      (congruent_unique m hr.small hs.small (congruent_trans (𝓩[x]/ n) hr.congruent (congruent_sym (𝓩[x]/ n) hs.congruent)))

  -- q does not divide p
  pub remainder_nonzero : {r : List ℕ} {p : ℤ[x]/ n} → Remainder n q d r p → ¬ (◌∣◌ (𝓩[x]/ n) (poly n q) p) → poly n r ≢ 𝟎
  remainder_nonzero h stops e =
      stops (divides_congruent (𝓩[x]/ n) (congruent_sym (𝓩[x]/ n) h.congruent) (rw e (divides_zero (𝓩[x]/ n) (poly n q))))

  pub remainder_divided : {a t r : List ℕ} → DividedBy n a q d t r → Remainder n q d r (poly n a)
  remainder_divided {t = t} {r} h = record {
    reduced = h.remainder;
    small = h.small;
    congruent = congruent_sym (𝓩[x]/ n)
        (congruent_remainder (record { quotient = poly n t; remainder = poly n r; law = h.law; small = h.small }));
  }
