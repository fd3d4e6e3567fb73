-- The array of a monomial: `IsMonomial i r`, the list of r is x to the power i, and past it there are zeros.
-- Proves it of zeros with a 1 at i, and that modulo any number such an array holds x^i, which is monic. Assumes nothing.
use Rattle.std.specs.Prelude.{◌≡◌, List, [], ◌∷◌, ◌++◌, ℕ, ◌<◌, length, get_or, set, take, replicate}
use Rattle.std.proofs.Common.{sym, ◌∙◌, ap, ap₂, subst, arith, length-set, ext_get_or, get_or-set_same, get_or-set_other, get_or-take, length-take-le, take-suc-set}
use Rattle.std.proofs.lemmas.List.{length-replicate}
use Rattle.specification.specs.Polynomials.{monomial}
use Rattle.algebra.specs.Ring.{zero_add, one_mul}
use Rattle.algebra.specs.PolynomialRing.{◌+ᴿ◌, ◌·◌}
use Rattle.algebra.specs.CoefficientLists.{constant_residue_one, 𝓩[x]/}
use Rattle.algebra.specs.ListShapes.{get_d_zeros}
use Rattle.algebra.specs.Monomials.{x^}
use Rattle.arrays.specs.Represents.{Represents, zeros}
use Rattle.arrays.specs.Terms.{term_set}
use Rattle.arrays.specs.Listed.{listed}
use Rattle.arrays.specs.Held.{Shaped, Held, MonicArray, same_array, leads_monic}

-- x to the power i
pub record IsMonomial (i : ℕ) (r : List ℕ) : Type 0 where
  pub shaped : Shaped i r
  pub is : listed i r ≡ monomial i

-- zeros with a 1 at i
module _ (i : ℕ) (fits : i < 33) where
  abbrev none : List ℕ
  none = replicate 33 0

  all : length none ≡ 33
  all = length-replicate {A = ℕ} 33 0

  zeros_listed : take i none ≡ replicate i 0
  zeros_listed = ext_get_or 0 (take i none) (replicate i 0) (long ∙ sym (length-replicate {A = ℕ} i 0)) at
    where
      long : length (take i none) ≡ i
      long = length-take-le i none (omega (arith, all))

      at : (k : ℕ) → k < length (take i none) → get_or (take i none) k 0 ≡ get_or (replicate i 0) k 0
      at k l = get_or-take i none k 0 (omega (arith, long)) ∙ get_d_zeros 33 k ∙ sym (get_d_zeros i k)

  pub monomial_set : IsMonomial i (set (replicate 33 0) i 1)
  monomial_set = record {
    shaped = record {
      fits = omega arith;
      len = length-set none i 1 ∙ all;
      above = λ k l. get_or-set_other none i k 1 0 (omega arith) ∙ get_d_zeros 33 k;
    };
    is = take-suc-set none i 1 (omega (arith, all)) ∙ ap (λ (f : List ℕ). f ++ (1 ∷ [])) zeros_listed;
  }

module _ {i : ℕ} {r : List ℕ} (m : IsMonomial i r) where
  inside : i < 33
  inside = omega (arith, m.shaped.fits)

  same : set (replicate 33 0) i 1 ≡ r
  same = same_array (monomial_set i inside).shaped m.shaped ((monomial_set i inside).is ∙ sym m.is)

  pub monomial_leads : get_or r i 0 ≡ 1
  monomial_leads = ap (λ (a : List ℕ). get_or a i 0) (sym same) ∙ get_or-set_same (replicate 33 0) i 1 0 (omega (arith, inside, length-replicate {A = ℕ} 33 0))

  module _ {n : ℕ} (large : 1 < n) where
    pub monomial_represents : Represents n r (x^ i)
    monomial_represents =
        let none = zeros n (omega arith) in
        let one = term_set n i none.reduced inside (get_d_zeros 33 i) large in
        subst (λ (a : List ℕ). Represents n a (x^ i)) same (record {
          reduced = one.reduced;
          is = one.is ∙ ap₂ (λ a c. a +ᴿ c · x^ i) none.is (constant_residue_one n)
              ∙ zero_add (𝓩[x]/ n) _ ∙ one_mul (𝓩[x]/ n) (x^ i);
        })

    pub monomial_held : Held n i r
    monomial_held = record { shaped = m.shaped; reduced = monomial_represents.reduced }

    pub monomial_monic : MonicArray n i r
    monomial_monic = leads_monic monomial_held monomial_leads
