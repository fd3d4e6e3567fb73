-- Item 5: h bar from the array of part − g^m.
-- Proves that its entries divided by p are the specification's h bar, with what is said of it. Assumes nothing.
use mathlib.Core.Path.{◌≡◌, refl, sym, ◌∙◌, ap, ap₂, subst}
use mathlib.Core.List.{List, map}
use Prim.Native.Nat.{ℕ, ◌<◌, ◌/◌, ◌*◌}
use native.Mathlib.Nat.{zero-div, div-lt_iff_lt-mul}
use native.Mathlib.Omega.{arith}
use lib.ListN.{get_or, length, length-map}
use Rattle.specification.specs.Polynomials as spec
use Rattle.specification.specs.Parts.{h_bar}
use Rattle.specification.specs.Limits.{◌²}
use Rattle.algebra.specs.Numbers.{square_large}
use Rattle.algebra.specs.TakenPrimes.{is_prime_lem}
use Rattle.algebra.specs.Divisibility.{pow}
use Rattle.algebra.specs.PolynomialRing.{◌+ᴿ◌, -ᴿ◌}
use Rattle.algebra.specs.Degree.{Below}
use Rattle.algebra.specs.CoefficientLists.{poly, Reduced, poly_reduce, poly_sub, poly_pow, 𝓩[x]/}
use Rattle.algebra.specs.ListShapes.{get_d_map, low_reduce}
use Rattle.arrays.specs.Represents.{Represents}
use Rattle.arrays.specs.SameEntries.{same_entries, same_poly}
use Rattle.arrays.specs.Listed.{listed}
use Rattle.arrays.specs.Held.{Held, MonicArray, poly_held, poly_monic}
use Rattle.items.specs.PartForm.{below_h}
use Rattle.items.specs.PartValues.{values}
use Rattle.part_values.specs.Given.{Given, Chosen, large, base_degree}
use Rattle.part_values.specs.ArrayValues.{IsHBar}

module _ {p : ℕ} (large : 1 < p) (g : List ℕ) (d m : ℕ) (part : List ℕ) (g-monic : MonicArray (p ²) d g) (part_held : Held (p ²) (m * d) part) where
  pos : 0 < p ²
  pos = omega (arith, square_large p large)

  -- the specification's part − g^m
  abbrev D : List ℕ
  D = spec.sub (p ²) (listed (m * d) part) (spec.pow (p ²) (listed d g) m)

  reduced : Reduced (p ²) (length D) D
  reduced = record { len = refl; low = unfold spec.sub spec.add in low_reduce (p ²) pos _ }

  is : poly (p ²) D ≡ poly (p ²) part +ᴿ -ᴿ pow (𝓩[x]/ (p ²)) (poly (p ²) g) m
  is =
      poly_sub (p ²) pos _ _
      ∙ ap₂ (λ a b. a +ᴿ -ᴿ b) (poly_held part_held)
      (poly_pow (p ²) pos (listed d g) m ∙ ap (λ a. pow (𝓩[x]/ (p ²)) a m) (poly_monic g-monic))

  -- q is the array of g^m, e that of part − g^m
  pub h_bar_lem : {q e : List ℕ} → Represents (p ²) q (pow (𝓩[x]/ (p ²)) (poly (p ²) g) m)
      → Represents (p ²) e (poly (p ²) part +ᴿ -ᴿ poly (p ²) q)
      → Represents p (map (λ v. v / p) e) (poly p (h_bar p (listed d g) m (listed (m * d) part)))
  unfolding h_bar
  h_bar_lem {q} {e} hq he = record {
    reduced = record { len = length-map e (λ v. v / p) ∙ he.reduced.len; low = λ j. rw (entry e j) (small j) };
    is = same_poly p _ _ (λ j. entry e j ∙ ap (λ (v : ℕ). v / p) (same j) ∙ sym (entry D j)) ∙ sym (poly_reduce p (omega (arith, large)) _);
  }
    where
      entry : (a : List ℕ) (j : ℕ) → get_or (map (λ v. v / p) a) j 0 ≡ get_or a j 0 / p
      entry a j = get_d_map (λ v. v / p) (zero-div p) a j

      small : (j : ℕ) → get_or e j 0 / p < p
      small j = let l : 0 < p = omega (arith, large) in (div-lt_iff_lt-mul l).1 (he.reduced.low j)

      same : (j : ℕ) → get_or e j 0 ≡ get_or D j 0
      same = same_entries he.reduced reduced (he.is ∙ ap (λ a. poly (p ²) part +ᴿ -ᴿ a) hq.is ∙ sym is)

-- with what the claims say of h bar
pub is_h_bar : {p : ℕ} {base g : List ℕ} {d m : ℕ} {part h : List ℕ} (given : Given p base d m part) (chosen : Chosen p base d g)
    → Represents p h (poly p (h_bar p (listed d g) m (listed (m * d) part))) → IsHBar p g d m part h
is_h_bar {p} {g = g} {d} {m} {part} given chosen is = record {
  is = is;
  holds = (values (is_prime_lem given.prime) given.over chosen.lift).h_holds;
  below = rw is.is
      (subst (λ (e : ℕ). Below (m * e) (poly p (h_bar p (listed d g) m (listed (m * d) part)))) (base_degree given)
      (below_h (large given) given.over chosen.lift));
}
