-- Term 3 of the list that items 4 to 9 give for some of the parts of f, over every monic f and every prime.
-- Proves from the theory of longest lists what the list multiplies to, and how many different members a list as long has (`many_different`).
-- That the list is a longest one: proofs/LongestHolds. Assumes nothing.
use Rattle.std.specs.Prelude.{◌≡◌, ℕ, ◌≤◌, ◌<◌, length}
use Rattle.std.proofs.Math.Path.{sym}
use Rattle.std.proofs.Common.{◌∙◌, ap, arith}
use mathlib.Core.List.{List, map, map-map}
use Rattle.std.proofs.lemmas.List.{length-map}
use Rattle.specification.specs.Polynomials as spec
use Rattle.specification.specs.Powers.{Power, primary}
use Rattle.specification.specs.Totals.{different}
use Rattle.specification.specs.Longest as claimed
use Rattle.specification.specs.Items1to3 as items1to3
use Rattle.specification.specs.Limits.{◌²}
use Rattle.algebra.specs.Numbers.{square_large}
use Rattle.algebra.specs.Ring.{CommRing}
use Rattle.algebra.specs.Divisibility.{product}
use Rattle.algebra.specs.Homomorphisms.{monic_map}
use Rattle.algebra.specs.Fields.{Prime, residue_nontrivial}
use Rattle.algebra.specs.CoefficientLists.{ℤ[x]/, poly, poly_product, 𝓩[x]/}
use Rattle.lists.specs.Members.{All, all_map}
use Rattle.lists.specs.Sums.{total as sum}
use Rattle.factorisation.specs.MonicDivisors.{IsMonic, monics}
use Rattle.factorisation.specs.Monics.{MonicMap}
use Rattle.factorisation.specs.LongestLists.{Part, Apart, FactorList, LongestList, Proper, whole}
use Rattle.factorisation.proofs.FewestDifferent.{different_at_least}
use Rattle.items.specs.MonicLists.{MonicList, monic_poly, from_claimed}
use Rattle.items.specs.Factorisations.{monic_equal, factorisation, factorisation_product}
use Rattle.items.specs.Reductions.{coefficients, barred, extension}
use Rattle.items.specs.ListExtension.{monic_proper}
use Rattle.items.specs.DifferentMembers.{decide, different_polys}
use Rattle.items.specs.AllParts.{Known, list_over, ring_parts, monic_parts, parts_apart, whole_is, list_product, list_size, list_monic}

module _ (p : ℕ) (prime : Prime p) {d : ℕ} {f : spec.Poly} (mf : MonicList (p ²) d f) where
  abbrev 𝓐 : CommRing (ℤ[x]/ (p ²))
  𝓐 = 𝓩[x]/ (p ²)

  abbrev large : 1 < p
  large = prime.large

  pub positive : 0 < p ²
  positive = omega (arith, square_large p large)

  -- ---- monic polynomials of degree 1 or more

  is_monic : {q : spec.Poly} → claimed.Monic (p ²) q → MonicList (p ²) (spec.degree q) q
  is_monic = from_claimed positive

  monic_map_of : MonicMap 𝓐 (𝓩[x]/ p) (barred p large) IsMonic IsMonic
  monic_map_of = record {
    above = monics (residue_nontrivial (square_large p large));
    below = monics (residue_nontrivial large);
    bar_monic = λ (e, m). (e, monic_map (coefficients p large).hom m);
  }

  -- ---- the parts over some powers, and their product F

  module _ (Ps : List Power) (h : All (Known p prime mf) Ps) (order : items1to3.InOrder Ps) {e : ℕ} {F : spec.Poly} (m_f : MonicList (p ²) e F)
      (law : spec.product (p ²) (map (primary p f) Ps) ≡ F) where
    abbrev Q : List (Part (extension p large))
    Q = ring_parts p prime mf Ps h

    pub apart : Apart (extension p large) Q
    apart = parts_apart p prime mf Ps h order

    whole_F : whole (extension p large) Q ≡ poly (p ²) F
    whole_F =
        whole_is p prime mf Ps h ∙ ap (product 𝓐) (sym (map-map (poly (p ²)) (primary p f) Ps))
        ∙ sym (poly_product (p ²) positive (map (primary p f) Ps)) ∙ ap (poly (p ²)) law

    -- a list that multiplies to F
    pub factors_F : {M : List spec.Poly} → claimed.Factorisation (p ²) F M → FactorList (extension p large) Q (map (poly (p ²)) M)
    factors_F {M} l = record {
      factors = factorisation_product (square_large p large) l ∙ sym whole_F;
      proper = all_map (Proper (extension p large)) (poly (p ²)) M (λ q i. monic_proper p large (l.monic q i));
    }

    -- the list of the definitions
    abbrev pub L : List spec.Poly
    L = list_over p prime mf Ps

    pub L_monic : All (claimed.Monic (p ²)) L
    L_monic = list_monic p prime mf Ps h

    pub L_list : claimed.Factorisation (p ²) F L
    L_list = factorisation (square_large p large) m_f L L_monic (list_product p prime mf Ps h ∙ whole_F)

    -- a list as long
    pub longest_list : {M : List spec.Poly} → claimed.Factorisation (p ²) F M → length M ≡ length L
        → LongestList (extension p large) Q (map (poly (p ²)) M)
    longest_list {M} l n = record { list = factors_F l; full = length-map M (poly (p ²)) ∙ n ∙ list_size p prime mf Ps h }

    -- how many different members the theory of longest lists gives
    abbrev pub z : ℕ
    z = sum (λ (q : Part (extension p large)). q.z) Q

    pub many_different : (M : List spec.Poly) → claimed.Factorisation (p ²) F M → length M ≡ length L → z ≤ different M
    many_different M l n =
        omega (
          arith,
          different_at_least (extension p large) monic_map_of apart (longest_list l n)
              (all_map IsMonic (poly (p ²)) M (λ q i. (spec.degree q, monic_poly (is_monic (l.monic q i)))))
              (monic_parts p prime mf Ps h) (decide (p ²)),
          different_polys (p ²) M (λ a b i j. monic_equal (square_large p large) (is_monic (l.monic a i)) (is_monic (l.monic b j))),
        )
