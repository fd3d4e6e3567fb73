-- The loop that multiplies a by a factor again and again: `Growing`, what the array holds after i turns.
-- Proves how the loop begins and goes on, and what it has made at its end. Assumes nothing.
use mathlib.Core.Path.{◌≡◌, refl, sym, ◌∙◌, ap, subst}
use Rattle.std.specs.Prelude.{Some}
use mathlib.Core.List.{List}
use Prim.Native.Nat.{ℕ, ◌≤◌, ◌+◌, ◌*◌}
use native.Mathlib.Numerals.{add-one}
use native.Mathlib.Omega.{arith}
use Rattle.specification.specs.Limits.{degree_limit}
use Rattle.algebra.specs.Ring.{CommRing, mul_one}
use Rattle.algebra.specs.Divisibility.{pow, pow_zero, pow_suc}
use Rattle.algebra.specs.PolynomialRing.{◌·◌}
use Rattle.algebra.specs.Degree.{Below, Monic, monic_mul_lem}
use Rattle.algebra.specs.CoefficientLists.{ℤ[x]/, poly, 𝓩[x]/}
use Rattle.arrays.specs.Represents.{Represents}
use Rattle.arrays.specs.Held.{MonicArray}
use Rattle.arrays.specs.declared.MonicPoly.{MonicPoly}
use Rattle.answer_reader.specs.declared.Factor.{Factor}
use Rattle.answer_reader.specs.FoundInBytes.{value, GrownBy}

-- one term more than the degree
pub below_monic : {n d : ℕ} {a : List ℕ} → MonicArray n d a → Below (d + 1) (poly n a)
below_monic m = rw add-one m.monic.below

module _ (a : MonicPoly) (f : Factor) where
  abbrev n : ℕ
  n = a.n

  abbrev 𝓐 : CommRing (ℤ[x]/ n)
  𝓐 = 𝓩[x]/ n

  pub record Growing (i : ℕ) (coefs : List ℕ) (degree : ℕ) : Type 0 where
    pub array : MonicArray n degree coefs
    pub degree_is : degree ≡ a.degree + f.poly.degree * i
    pub is : poly n coefs ≡ value n a · pow 𝓐 (value n f.poly) i

  pub growing_none : Growing 0 a.coefs a.degree
  growing_none = record {
    array = a.monic;
    degree_is = omega arith;
    is = sym (ap (λ c. value n a · c) (pow_zero 𝓐 (value n f.poly)) ∙ mul_one 𝓐 (value n a));
  }

  module _ {i : ℕ} {coefs : List ℕ} {degree : ℕ} (w : Growing i coefs degree) where
    pub growing_more : {v : List ℕ} → f.poly.n ≡ n → degree + f.poly.degree ≤ degree_limit → Represents n v (poly n coefs · value n f.poly)
        → Growing (i + 1) v (degree + f.poly.degree)
    growing_more {v} same l h = record {
      array = record {
        fits = omega arith;
        reduced = h.reduced;
        monic = subst (Monic (degree + f.poly.degree)) (sym h.is) (monic_mul_lem w.array.monic (rw same at f.poly.monic.monic));
      };
      degree_is = omega (arith, w.degree_is);
      is = h.is ∙ ap (λ c. c · value n f.poly) w.is ∙ 𝓐.*_assoc (value n a) (pow 𝓐 (value n f.poly) i) (value n f.poly)
          ∙ ap (λ c. value n a · c) (𝓐.*_comm (pow 𝓐 (value n f.poly) i) (value n f.poly) ∙ sym (pow_suc 𝓐 (value n f.poly) i)
          ∙ ap (pow 𝓐 (value n f.poly)) (sym (add-one i)));
    }

    pub grown_done : {g : MonicPoly} → g.n ≡ n → g.degree ≡ degree → g.coefs ≡ coefs → i ≤ f.times → f.times ≤ i → GrownBy a f (Some g)
    grown_done same d e l u = record { sound = (same, d ∙ rw s w.degree_is, ap (poly n) e ∙ rw s w.is); exact = λ room. refl }
      where
        s : f.times ≡ i
        s = omega arith
