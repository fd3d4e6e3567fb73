-- A list of factors written out, each as many times as it is repeated: its length and its product.
-- Proves that the product of monic factors is monic, of the degree that their degrees times repeats add up to, and what polynomial it is.
-- Assumes nothing.
use Rattle.std.specs.Prelude.{◌≡◌, refl, length, replicate}
use Rattle.std.proofs.Math.Path.{sym, ap, subst}
use Rattle.std.proofs.Common.{◌∙◌}
use mathlib.Core.List.{List, [], ◌∷◌, ◌++◌, map, flat_map}
use mathlib.Core.List.Memᴰ.{head as here}
use Rattle.std.proofs.lemmas.List.{length-replicate}
use Prim.Native.Nat.{ℕ, zero, suc, ◌<◌, ◌+◌, ◌*◌}
use native.Mathlib.Omega.{arith}
use Rattle.specification.specs.Polynomials as spec
use Rattle.specification.specs.Parts.{Factor}
use Rattle.specification.specs.Totals.{copies}
use Rattle.specification.specs.Longest as claimed
use Rattle.algebra.specs.Divisibility.{pow, pow_zero, pow_suc, product, product_nil, product_cons}
use Rattle.algebra.specs.PolynomialRing.{◌·◌}
use Rattle.algebra.specs.CoefficientLists.{ℤ[x]/, poly, poly_one, poly_mul, 𝓩[x]/}
use Rattle.lists.specs.Members.{All, all_tail}
use Rattle.lists.specs.Sums.{total, total_same}
use Rattle.lists.specs.FlatMaps.{length_flat_map}
use Rattle.items.specs.MonicLists.{MonicList, from_claimed, monic_list_mul}
use Rattle.items.specs.MonicDivision.{monic_list_one}

-- "the degrees of the factors, each times its repeats"
abbrev pub degrees : List Factor → ℕ
degrees qs = total (λ (q : Factor). spec.degree q.poly * q.times) qs

-- "factors .., with repeats"
abbrev pub repeats : List Factor → ℕ
repeats qs = total (λ (q : Factor). q.times) qs

pub length_members : (qs : List Factor) → length (flat_map copies qs) ≡ repeats qs
length_members qs = length_flat_map copies qs ∙ total_same (λ q. length (copies q)) (λ q. q.times) qs (λ q i. length-replicate q.times q.poly)

-- a repeated factor as a polynomial
abbrev pub powered : (n : ℕ) → Factor → ℤ[x]/ n
powered n q = pow (𝓩[x]/ n) (poly n q.poly) q.times

module _ {n : ℕ} (large : 1 < n) where
  copies_monic : {d e : ℕ} {q : spec.Poly} (L : List spec.Poly) → MonicList n d q → MonicList n e (spec.product n L) → (t : ℕ)
      → MonicList n (d * t + e) (spec.product n (replicate t q ++ L))
  unfolding spec.product
  copies_monic {d} {e} {q} L mq mL zero = subst (λ (k : ℕ). MonicList n k (spec.product n L)) (let s : e ≡ d * 0 + e = omega arith in s) mL
  copies_monic {d} {e} {q} L mq mL (suc t) =
      subst (λ (k : ℕ). MonicList n k (spec.product n (replicate (suc t) q ++ L))) (let s : d + (d * t + e) ≡ d * suc t + e = omega arith in s)
      (monic_list_mul large mq (copies_monic L mq mL t))

  pub members_monic : (qs : List Factor) → All (λ (q : Factor). claimed.Monic n q.poly) qs
      → MonicList n (degrees qs) (spec.product n (flat_map copies qs))
  unfolding flat_map total spec.product
  members_monic [] h = monic_list_one large
  members_monic (q ∷ qs) h = copies_monic (flat_map copies qs) (from_claimed (omega arith) (h q (here refl))) (members_monic qs (all_tail h)) q.times

  poly_copies : (q : spec.Poly) (L : List spec.Poly) (t : ℕ)
      → poly n (spec.product n (replicate t q ++ L)) ≡ pow (𝓩[x]/ n) (poly n q) t · poly n (spec.product n L)
  unfolding spec.product
  poly_copies q L zero =
      sym (ap (λ a. a · poly n (spec.product n L)) (pow_zero (𝓩[x]/ n) (poly n q)) ∙ (𝓩[x]/ n).*_one (poly n (spec.product n L)))
  poly_copies q L (suc t) =
      poly_mul n (omega arith) q (spec.product n (replicate t q ++ L)) ∙ ap (λ a. poly n q · a) (poly_copies q L t)
      ∙ sym ((𝓩[x]/ n).*_assoc (poly n q) (pow (𝓩[x]/ n) (poly n q) t) (poly n (spec.product n L)))
      ∙ ap (λ a. a · poly n (spec.product n L)) (sym (pow_suc (𝓩[x]/ n) (poly n q) t))

  pub poly_members : (qs : List Factor) → poly n (spec.product n (flat_map copies qs)) ≡ product (𝓩[x]/ n) (map (powered n) qs)
  unfolding flat_map spec.product
  poly_members [] = poly_one n ∙ sym (product_nil (𝓩[x]/ n))
  poly_members (q ∷ qs) =
      poly_copies q.poly (flat_map copies qs) q.times ∙ ap (λ a. powered n q · a) (poly_members qs)
      ∙ sym (product_cons (𝓩[x]/ n) (powered n q) (map (powered n) qs))
