-- What lifts a division modulo p with remainder h to one modulo p² without: `Correction p h a i c n t y`, t·a = c·y + h.
-- Proves that h·u modulo c, where u is the inverse of a modulo c, and the quotient of its product with a are such. Assumes nothing.
use Rattle.std.specs.Prelude.{◌≡◌, refl, List, ℕ}
use Rattle.std.proofs.Common.{sym, ◌∙◌, ap, add_comm}
use Rattle.algebra.specs.Ring.{CommRing, mul_one}
use Rattle.algebra.specs.PolynomialRing.{◌+ᴿ◌, ◌·◌}
use Rattle.algebra.specs.Degree.{Below, below_mul}
use Rattle.algebra.specs.CoefficientLists.{ℤ[x]/, poly, Reduced, 𝓩[x]/}
use Rattle.algebra.specs.Congruence.{
  Congruent,
  congruent_equal,
  congruent_sym,
  congruent_trans,
  congruent_mul,
  congruent_remainder,
  congruent_unique,
}
use Rattle.quotients.specs.Remainder.{Remainder}
use Rattle.part_lift.specs.Inverses.{CoprimePair, Inverse}
use Rattle.part_lift.specs.Quotients.{Quotient, quotient_below}

-- modulo p, where a is of degree i and c of degree n, t of lower degree than c, and y than a
pub record Correction (p : ℕ) (h a : List ℕ) (i : ℕ) (c : List ℕ) (n : ℕ) (t y : List ℕ) : Type 0 where
  pub part : Reduced p 33 t
  pub small_part : Below n (poly p t)
  pub rest : Reduced p 33 y
  pub small_rest : Below i (poly p y)
  pub law : poly p y · poly p c +ᴿ poly p h ≡ poly p t · poly p a

module _ {p : ℕ} {a c : List ℕ} {i n : ℕ} (C : CoprimePair p a i c n) (h : List ℕ) {u t y : List ℕ} (small : Below n (poly p h)) (hu : Inverse p a c n u)
    (ht : Remainder p c n t (poly p h · poly p u)) (hy : Quotient p c n y (poly p t · poly p a)) where
  abbrev 𝓑 : CommRing (ℤ[x]/ p)
  𝓑 = 𝓩[x]/ p

  -- t·a = h modulo c
  same : Congruent 𝓑 (poly p c) (poly p t · poly p a) (poly p h)
  same =
      congruent_trans 𝓑 (congruent_mul 𝓑 ht.congruent (congruent_equal 𝓑 refl))
      (congruent_trans 𝓑 (congruent_equal 𝓑 (𝓑.*_assoc (poly p h) (poly p u) (poly p a)))
      (congruent_trans 𝓑 (congruent_mul 𝓑 (congruent_equal 𝓑 refl) hu.inverts) (congruent_equal 𝓑 (mul_one 𝓑 (poly p h)))))

  -- so the division of t·a by c leaves h
  leaves : hy.left ≡ poly p h
  leaves =
      congruent_unique C.monic_second hy.small small
      (congruent_trans 𝓑
      (congruent_sym 𝓑 (congruent_remainder (record { quotient = poly p y; remainder = hy.left; law = hy.law; small = hy.small })))
      same)

  pub correction_is : Correction p h a i c n t y
  correction_is = record {
    part = ht.reduced;
    small_part = ht.small;
    rest = hy.reduced;
    small_rest = quotient_below C.monic_second i (poly p y) hy.left
        (rw (add_comm i n) (below_mul ht.small C.monic_first.below)) hy.small hy.law;
    law = ap (λ l. poly p y · poly p c +ᴿ l) (sym leaves) ∙ hy.law;
  }
