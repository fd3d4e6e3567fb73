-- Term 3 of the list that items 4 to 9 give for some of the parts of f, over every monic f and every prime.
-- Proves that it is a longest list, with the fewest different members among those as long (`longest_over`). Assumes nothing.
use Rattle.std.specs.Prelude.{◌≡◌, refl, ℕ, ◌<◌, length}
use Rattle.std.proofs.Math.Path.{sym}
use Rattle.std.proofs.Common.{◌∙◌, ap, arith}
use mathlib.Core.List.Memᴰ
use mathlib.Core.List.{List, map}
use Rattle.std.proofs.lemmas.List.{length-map}
use Rattle.specification.specs.Polynomials as spec
use Rattle.specification.specs.Powers.{Power, primary}
use Rattle.specification.specs.Totals.{different}
use Rattle.specification.specs.Longest as claimed
use Rattle.specification.specs.Items1to3 as items1to3
use Rattle.specification.specs.Limits.{◌²}
use Rattle.algebra.specs.Fields.{Prime}
use Rattle.algebra.specs.CoefficientLists.{poly, poly_mul}
use Rattle.lists.specs.Members.{All}
use Rattle.factorisation.proofs.LongestLists.{length_at_most, no_product_lem}
use Rattle.items.specs.MonicLists.{MonicList}
use Rattle.items.specs.Reductions.{extension}
use Rattle.items.specs.ListExtension.{monic_proper}
use Rattle.items.specs.AllParts.{Known, list_over, list_size, list_different}
use Rattle.items.specs.LongestHolds.{positive, apart, factors_F, L_monic, L_list, longest_list, z, many_different}

module _ (p : ℕ) (prime : Prime p) {d : ℕ} {f : spec.Poly} (mf : MonicList (p ²) d f) where
  abbrev large : 1 < p
  large = prime.large

  -- ---- the parts over some powers, and their product F

  module _ (Ps : List Power) (h : All (Known p prime mf) Ps) (order : items1to3.InOrder Ps) {e : ℕ} {F : spec.Poly} (m_f : MonicList (p ²) e F)
      (law : spec.product (p ²) (map (primary p f) Ps) ≡ F) where
    abbrev L : List spec.Poly
    L = list_over p prime mf Ps

    -- what is written has no more, and no fewer
    pub different_over : different L ≡ z p prime mf Ps h order m_f law
    different_over = omega (arith, list_different p prime mf Ps h, many_different p prime mf Ps h order m_f law L (L_list p prime mf Ps h order m_f law) refl)

    pub longest_over : claimed.Longest (p ²) F (list_over p prime mf Ps) (length (list_over p prime mf Ps)) (different (list_over p prime mf Ps))
    longest_over = record {
      multiplies = (L_list p prime mf Ps h order m_f law).multiplies;
      total = refl;
      different_total = refl;
      irreducible = λ q i. record {
        monic = L_monic p prime mf Ps h order m_f law q i;
        no_product = λ a b m n k.
            no_product_lem (extension p large) (apart p prime mf Ps h order m_f law)
            (longest_list p prime mf Ps h order m_f law (L_list p prime mf Ps h order m_f law) refl)
            (poly (p ²) q) (Memᴰ.map (poly (p ²)) i) (poly (p ²) a) (poly (p ²) b) (monic_proper p large m) (monic_proper p large n)
            (ap (poly (p ²)) (sym k) ∙ poly_mul (p ²) (positive p prime mf) a b);
      };
      longest = λ M l. omega (
        arith,
        length_at_most (extension p large) (apart p prime mf Ps h order m_f law) (factors_F p prime mf Ps h order m_f law l),
        length-map M (poly (p ²)),
        list_size p prime mf Ps h,
      );
      fewest = λ M l n. omega (arith, different_over, many_different p prime mf Ps h order m_f law M l n);
    }
