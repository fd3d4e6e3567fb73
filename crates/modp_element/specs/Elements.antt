-- What `splitting_element` finds: `ElementFound`, a splitting element of q, or that there is none. `Known`: an element at hand, if there is one.
-- Proves the first of the least dependency of v^p − v, and that an element of q is one of each factor for which it is not constant. Assumes nothing.
use Rattle.std.specs.Prelude.{◌≡◌, List, Option, Some, IfSome, None, MatchOption, ℕ, ◌<◌}
use Rattle.std.proofs.Common.{arith}
use Rattle.algebra.specs.Ring.{CommRing}
use Rattle.algebra.specs.Divisibility.{◌∣◌, divides_trans}
use Rattle.algebra.specs.Degree.{Monic, below_constant}
use Rattle.algebra.specs.Fields.{Prime}
use Rattle.algebra.specs.CoefficientLists.{ℤ[x]/, poly, Reduced, 𝓩[x]/}
use Rattle.algebra.specs.Congruence.{congruent_add, congruent_neg, congruent_pow, divides_congruent}
use Rattle.arrays.specs.Sizes.{Size, size_small}
use Rattle.frobenius.specs.SplittingElements.{SplittingElement}
use Rattle.frobenius.specs.Unsplit.{Unsplit}
use Rattle.frobenius.specs.PowerDependencies.{dependency_splits, injective_unsplit}
use Rattle.quotients.specs.Remainder.{Remainder}
use Rattle.modp_dependency.specs.Dependency.{Least, Independent}
use Rattle.modp_dependency.specs.RemainderImages.{images_remainders}
use Rattle.modp_element.specs.Images.{PowerImages}

-- v is a splitting element of Q, which is of degree d
pub record Splits (p d : ℕ) (Q : ℤ[x]/ p) (v : List ℕ) : Type 0 where
  pub reduced : Reduced p 33 v
  pub splits : SplittingElement p d Q (poly p v)

abbrev pub ElementFound : (p d : ℕ) → List ℕ → Option (List ℕ) → Type 0
ElementFound p d q r = MatchOption r (Unsplit p d (poly p q)) (λ v. Splits p d (poly p q) v)

module _ {p : ℕ} (P : Prime p) {d : ℕ} {q : List ℕ} {images : List (List ℕ)} (m : Monic d (poly p q)) (h : PowerImages p q d d images) where
  pub element_found : {i : ℕ} {v : List ℕ} → Least p images 1 d i v → Splits p d (poly p q) v
  element_found a = record { reduced = a.reduced; splits = dependency_splits P m (images_remainders h) a.within a.least }

  pub none_found : Independent p images 1 d → Unsplit p d (poly p q)
  none_found a = injective_unsplit P m (images_remainders h) a

-- where one is known, it is a splitting element of Q; Q is of degree d
abbrev pub Known : (p d : ℕ) → ℤ[x]/ p → Option (List ℕ) → Type 0
Known p d Q e = IfSome e (λ v. Splits p d Q v)

pub element_known : (p d : ℕ) (q : List ℕ) {e : Option (List ℕ)} {v : List ℕ} → Known p d (poly p q) e → e ≡ Some v → ElementFound p d q (Some v)
element_known p d q h is = rw is at h

-- whatever Q may be of which v is a splitting element and which b divides; that r is some element is not promised: it only saves a search
abbrev pub ForFactor : (p d : ℕ) → List ℕ → ℕ → List ℕ → Option (List ℕ) → Type 0
ForFactor p d v j b r = (Q : ℤ[x]/ p) → SplittingElement p d Q (poly p v) → ◌∣◌ (𝓩[x]/ p) (poly p b) Q → Known p j (poly p b) r

-- none is known
pub element_none : (p d j : ℕ) (v b : List ℕ) → ForFactor p d v j b None
element_none p d j v b Q E D = tt

-- r is v modulo b, and has s terms
pub element_left : {p d j : ℕ} (v : List ℕ) {b r : List ℕ} {s : ℕ} → Remainder p b j r (poly p v) → Size r s → 1 < s → ForFactor p d v j b (Some r)
element_left {p} {d} {j} v {b} {r} {s} h z l Q E D = record { reduced = h.reduced; splits = splits }
  where
    𝓟 : CommRing (ℤ[x]/ p)
    𝓟 = 𝓩[x]/ p

    splits : SplittingElement p j (poly p b) (poly p r)
    splits = record {
      small = h.small;
      nonconstant = λ c e. absurd (omega (arith, l, size_small {k = 1} h.reduced (rw e (below_constant c)) z));
      fixed = divides_congruent 𝓟 (congruent_add 𝓟 (congruent_pow 𝓟 p h.congruent) (congruent_neg 𝓟 h.congruent)) (divides_trans 𝓟 D E.fixed);
    }
