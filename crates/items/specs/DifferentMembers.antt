-- How many different members a list of coefficient lists has: the specification's `different` counts the list without repeats.
-- Proves that, how it goes with ++ and with polynomials, and that a list of factors has at most as many different members as entries.
-- Assumes nothing.
use Rattle.std.specs.Prelude.{◌≡◌, refl, Bool, true, false, cond, length, T, ℕ, ◌+◌, ◌≤◌}
use Rattle.std.proofs.Common.{sym, ◌∙◌, arith}
use mathlib.Core.List.Memᴰ
use mathlib.Core.List.{List, [], ◌∷◌, ◌++◌, map, flat_map, List-discrete}
use Rattle.std.proofs.Math.Decide.{ℕ_discrete}
use Rattle.specification.specs.Lists.{any_passes, same}
use Rattle.specification.specs.Polynomials.{Poly}
use Rattle.specification.specs.Parts.{Factor}
use Rattle.specification.specs.Totals.{different, copies}
use Rattle.algebra.specs.Fields.{residue_discrete}
use Rattle.algebra.specs.Leading.{poly_discrete}
use Rattle.lists.specs.AllAny.{any_member, any_passes_lem}
use Rattle.lists.specs.SameLists.{same_equal, same_refl}
use Rattle.algebra.specs.CoefficientLists.{ℤ[x]/, poly}
use Rattle.lists.specs.Members.{◌∈◌}
use Rattle.lists.specs.Distinct.{member?, keep, distinct, distinct_append, distinct_replicate, distinct_map}

same_member : (f : Poly) (L : List Poly) → T (any_passes (same f) L) → f ∈ L
same_member f L t = let (g, i, s) = any_member (same f) L t in Memᴰ.cast (same_equal f g s) i

member_same : (f : Poly) (L : List Poly) → f ∈ L → T (any_passes (same f) L)
member_same f L i = any_passes_lem (same f) i (same_refl f)

-- the list without repeats
abbrev pub without_repeats : List Poly → List Poly
without_repeats = distinct (List-discrete ℕ_discrete)

pub different_is : (L : List Poly) → different L ≡ length (without_repeats L)
unfolding different distinct
different_is [] = refl
different_is (f ∷ L) = go (any_passes (same f) L) (member? (List-discrete ℕ_discrete) f L) (same_member f L) (member_same f L) (different_is L)
  where
    go : (b : Bool) (d : Dec (f ∈ L)) → (T b → f ∈ L) → (f ∈ L → T b) → different L ≡ length (without_repeats L)
        → cond b 0 1 + different L ≡ length (keep (List-discrete ℕ_discrete) f d (without_repeats L))
    go true (yes i) s t e = omega arith
    go true (no n) s t e = absurd (n (s tt))
    go false (yes i) s t e = absurd (t i)
    go false (no n) s t e = omega arith

few : (qs : List Factor) → length (without_repeats (flat_map copies qs)) ≤ length qs
unfolding distinct flat_map
few [] = omega arith
few (q ∷ qs) =
    omega (
      arith,
      distinct_append (List-discrete ℕ_discrete) (copies q) (flat_map copies qs),
      distinct_replicate (List-discrete ℕ_discrete) q.times q.poly,
      few qs,
    )

-- each factor adds one member at most
pub different_factors : (qs : List Factor) → different (flat_map copies qs) ≤ length qs
different_factors qs = rw (different_is (flat_map copies qs)) (few qs)

pub different_append : (L M : List Poly) → different (L ++ M) ≤ different L + different M
different_append L M =
    omega (arith, different_is (L ++ M), different_is L, different_is M, distinct_append (List-discrete ℕ_discrete) L M)

-- equality of polynomials over ℤ/n is decided
abbrev pub decide : (n : ℕ) → Discrete (ℤ[x]/ n)
decide n = poly_discrete (residue_discrete n)

-- lists that are found again from their polynomials
pub different_polys : (n : ℕ) (L : List Poly) → ((f g : Poly) → f ∈ L → g ∈ L → poly n f ≡ poly n g → f ≡ g)
    → different L ≡ length (distinct (decide n) (map (poly n) L))
different_polys n L h = different_is L ∙ sym (distinct_map (List-discrete ℕ_discrete) (decide n) (poly n) L h)
