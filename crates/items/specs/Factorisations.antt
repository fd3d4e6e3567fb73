-- Lists of monic polynomials that multiply to a monic f modulo n, read as lists of polynomials over ℤ/n.
-- Proves that such a list multiplies to f exactly when its polynomials do, and that the last member may be taken first.
-- Assumes nothing.
use Rattle.std.specs.Prelude.{◌≡◌, List, [], ◌∷◌, map, ℕ, ◌<◌}
use Rattle.std.proofs.Common.{sym, ◌∙◌, ap, subst, arith}
use Rattle.specification.specs.Polynomials as spec
use Rattle.specification.specs.Longest as claimed
use Rattle.algebra.specs.Ring.{CommRing}
use Rattle.algebra.specs.Divisibility.{product, product_one, product_cons, product_map_append}
use Rattle.algebra.specs.Degree.{Monic}
use Rattle.algebra.specs.Fields.{residue_nontrivial}
use Rattle.algebra.specs.CoefficientLists.{poly, poly_product, 𝓩[x]/}
use Rattle.lists.specs.Members.{All}
use Rattle.factorisation.specs.MonicDivisors.{monic_degree}
use Rattle.items.specs.MonicLists.{MonicList, monic_poly, monic_same, from_claimed}
use Rattle.items.specs.MonicDivision.{monic_list_product}
use Rattle.lists.specs.Ends.{then}

module _ {n : ℕ} (large : 1 < n) where
  -- monic lists of one polynomial are equal
  pub monic_equal : {d e : ℕ} {f g : spec.Poly} → MonicList n d f → MonicList n e g → poly n f ≡ poly n g → f ≡ g
  monic_equal {d} {e} mf mg q =
      monic_same (monic_degree (residue_nontrivial large) (monic_poly mf) (subst (Monic e) (sym q) (monic_poly mg))) mf mg q

  pub factorisation : {d : ℕ} {f : spec.Poly} → MonicList n d f → (L : List spec.Poly) → All (claimed.Monic n) L
      → product (𝓩[x]/ n) (map (poly n) L) ≡ poly n f → claimed.Factorisation n f L
  factorisation mf L monic e = record {
    monic = monic;
    multiplies = monic_equal (monic_list_product large L (λ q i. (spec.degree q, from_claimed (omega arith) (monic q i)))).1 mf
        (poly_product n (omega arith) L ∙ e);
  }

  pub factorisation_product : {f : spec.Poly} {L : List spec.Poly} → claimed.Factorisation n f L
      → product (𝓩[x]/ n) (map (poly n) L) ≡ poly n f
  factorisation_product {L = L} l = sym (poly_product n (omega arith) L) ∙ ap (poly n) l.multiplies

pub product_then : {A R : Type 0} (𝓡 : CommRing R) (f : A → R) (xs : List A) (y : A) → product 𝓡 (map f (then xs y)) ≡ product 𝓡 (f y ∷ map f xs)
product_then 𝓡 f xs y =
    product_map_append 𝓡 f xs (y ∷ []) ∙ ap (𝓡.mul (product 𝓡 (map f xs))) (product_one 𝓡 (f y))
    ∙ 𝓡.*_comm (product 𝓡 (map f xs)) (f y) ∙ sym (product_cons 𝓡 (f y) (map f xs))
