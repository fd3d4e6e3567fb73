-- Term 3 of the list that items 4 to 9 give for the parts of f: of all of them, and of one. Over every monic f and every prime.
-- Proves `longest` and `part_longest`, and that the factors written are different ones. Assumes nothing.
use Rattle.std.specs.Prelude.{◌≡◌, ℕ, ◌<◌, ◌*◌, length}
use Rattle.std.proofs.Math.Path.{sym}
use Rattle.std.proofs.Common.{◌∙◌, subst}
use mathlib.Core.List.{List, [], ◌∷◌, flat_map, append-nil}
use Rattle.specification.specs.Polynomials as spec
use Rattle.specification.specs.Powers.{Power, powers, primary}
use Rattle.specification.specs.Parts.{part_of, parts_of}
use Rattle.specification.specs.Totals.{members, list_of, total, different}
use Rattle.specification.specs.Longest as claimed
use Rattle.specification.specs.Limits.{◌²}
use Rattle.algebra.specs.Numbers.{square_large}
use Rattle.algebra.specs.Ring.{CommRing}
use Rattle.algebra.specs.Divisibility.{product_one}
use Rattle.algebra.specs.Fields.{Prime}
use Rattle.algebra.specs.CoefficientLists.{ℤ[x]/, poly, poly_product, 𝓩[x]/}
use Rattle.lists.specs.Members.{◌∈◌, all_cons}
use Rattle.items.specs.MonicLists.{MonicList}
use Rattle.items.specs.MonicDivision.{monic_list_product}
use Rattle.items.specs.Factorisations.{monic_equal}
use Rattle.items.proofs.Items1to3Hold.{powers_are, items}
use Rattle.items.specs.PartShapes.{records}
use Rattle.items.specs.AllParts.{list_over, list_records}
use Rattle.items.specs.LongestHolds.{positive}
use Rattle.items.proofs.AllParts.{known}
use Rattle.items.proofs.LongestHolds.{different_over, longest_over}

module _ (p : ℕ) (prime : Prime p) {d : ℕ} {f : spec.Poly} (mf : MonicList (p ²) d f) where
  abbrev 𝓐 : CommRing (ℤ[x]/ (p ²))
  𝓐 = 𝓩[x]/ (p ²)

  abbrev large : 1 < p
  large = prime.large

  -- ---- all parts, and one

  pub longest : claimed.Longest (p ²) f (list_of (parts_of p f)) (total (parts_of p f)) (different (list_of (parts_of p f)))
  unfolding parts_of
  longest = longest_over p prime mf (powers p f) (known p prime mf) (powers_are p prime mf).in_order mf (items p prime mf).parts_multiply

  -- no two of the factors that are written are the same
  pub different_records : different (list_of (parts_of p f)) ≡ records (parts_of p f)
  unfolding parts_of
  different_records =
      different_over p prime mf (powers p f) (known p prime mf) (powers_are p prime mf).in_order mf (items p prime mf).parts_multiply
      ∙ sym (list_records p prime mf (powers p f) (known p prime mf))

  pub part_longest : (P : Power) → P ∈ powers p f
      → claimed.Longest (p ²) (primary p f P) (members (part_of p f P)) (length (members (part_of p f P))) (different (members (part_of p f P)))
  part_longest P i =
      let k = known p prime mf P i in
      subst (λ (l : List spec.Poly). claimed.Longest (p ²) (primary p f P) l (length l) (different l)) alone
      (longest_over p prime mf (P ∷ []) (all_cons k (λ Q j. elim j [ ])) ((λ Q j. elim j [ ]), tt) k.over.monic one)
    where
      alone : list_over p prime mf (P ∷ []) ≡ members (part_of p f P)
      alone = unfold list_of flat_map in append-nil (members (part_of p f P))

      one : spec.product (p ²) (primary p f P ∷ []) ≡ primary p f P
      one =
          let m = (known p prime mf P i).over.monic in
          let once = monic_list_product (square_large p large) (primary p f P ∷ []) (all_cons (P.exponent * spec.degree P.base, m) (λ q j. elim j [ ])) in
          monic_equal (square_large p large) once.1 m
          (poly_product (p ²) (positive p prime mf) (primary p f P ∷ []) ∙ product_one 𝓐 (poly (p ²) (primary p f P)))
