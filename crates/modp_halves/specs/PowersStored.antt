-- The loop of `powers`: `PowersStored p q d v i images power`, the first i images are the powers of v modulo Q, and the last of them is in hand.
-- Proves that the loop begins so, goes on so, and ends with all. Assumes nothing.
use Rattle.std.specs.Prelude.{◌≡◌, refl, List, ℕ, ◌<◌, ◌≤◌, ◌+◌, set, replicate}
use Rattle.std.proofs.Common.{sym, ◌∙◌, subst}
use Rattle.algebra.specs.Divisibility.{pow, pow_zero}
use Rattle.algebra.specs.PolynomialRing.{◌·◌, x}
use Rattle.algebra.specs.Degree.{below_up}
use Rattle.algebra.specs.CoefficientLists.{ℤ[x]/, poly, 𝓩[x]/}
use Rattle.algebra.specs.Congruence.{congruent_equal}
use Rattle.arrays.specs.MonomialArray.{IsMonomial, monomial_represents, monomial_monic}
use Rattle.quotients.specs.Remainder.{Remainder, remainder_as}
use Rattle.quotients.proofs.PowerTurns.{power_more}
use Rattle.modp_dependency.specs.RemainderImages.{RemainderImages, images_first, images_stored, images_done}

-- power is the last one stored
pub record PowersStored (p : ℕ) (q : List ℕ) (d : ℕ) (v : ℤ[x]/ p) (i : ℕ) (images : List (List ℕ)) (power : List ℕ) : Type 0 where
  pub stored : RemainderImages p q d (pow (𝓩[x]/ p) v) i images
  pub last : ℕ
  pub next : last + 1 ≡ i
  pub in_hand : Remainder p q d power (pow (𝓩[x]/ p) v last)

module _ {p : ℕ} {q : List ℕ} {d : ℕ} where
  pub powers_none : {v : ℤ[x]/ p} {one : List ℕ} → 1 < p → 1 ≤ d → IsMonomial 0 one → PowersStored p q d v 1 (replicate 33 one) one
  powers_none {v} {one} large l h = record { stored = images_first first; last = 0; next = refl; in_hand = first }
    where
      first : Remainder p q d one (pow (𝓩[x]/ p) v 0)
      first = record {
        reduced = (monomial_represents h large).reduced;
        small = below_up l (monomial_monic h large).monic.below;
        congruent = congruent_equal (𝓩[x]/ p) ((monomial_represents h large).is ∙ pow_zero (𝓩[x]/ p) x ∙ sym (pow_zero (𝓩[x]/ p) v));
      }

  pub powers_more : (v : List ℕ) {i : ℕ} {images : List (List ℕ)} {power next : List ℕ} → i < 33 → PowersStored p q d (poly p v) i images power
      → Remainder p q d next (poly p power · poly p v) → PowersStored p q d (poly p v) (i + 1) (set images i next) next
  powers_more v {i} {images} {power} {next} l h hn = record { stored = images_stored l h.stored more; last = i; next = refl; in_hand = more }
    where
      more : Remainder p q d next (pow (𝓩[x]/ p) (poly p v) i)
      more =
          subst (λ k. Remainder p q d next (pow (𝓩[x]/ p) (poly p v) k)) h.next
          (power_more p q (poly p v) h.last h.in_hand
          (remainder_as p hn (congruent_equal (𝓩[x]/ p) ((𝓩[x]/ p).*_comm (poly p power) (poly p v)))))

  pub powers_done : {v : ℤ[x]/ p} {i count : ℕ} {images : List (List ℕ)} {power : List ℕ} → i ≤ count → count ≤ i → PowersStored p q d v i images power
      → RemainderImages p q d (pow (𝓩[x]/ p) v) count images
  powers_done l u h = images_done l u h.stored
