-- Parts that were found, by whatever way: their bars are powers of different irreducibles, and they multiply to f.
-- Proves that each part is the primary one of item 2, by the powers of specs/PartsFound. Assumes nothing.
use Rattle.std.specs.Prelude.{◌≡◌, ℕ}
use mathlib.Core.List.Memᴰ
use mathlib.Core.List.{List, map, Pairwise}
use Rattle.specification.specs.Polynomials as spec
use Rattle.specification.specs.Powers.{Power, primary}
use Rattle.specification.specs.Limits.{◌²}
use Rattle.algebra.specs.Fields.{Prime}
use Rattle.algebra.specs.CoefficientLists.{poly, 𝓩[x]/}
use Rattle.lists.specs.Members.{All}
use Rattle.factorisation.specs.MemberProducts.{member_divides}
use Rattle.items.specs.MonicLists.{MonicList}
use Rattle.items.specs.PowersSame.{DifferentBases}
use Rattle.items.specs.PrimaryHolds.{part_only_lem}
use Rattle.items.specs.PartForm.{PartOver}
use Rattle.items.specs.PartsFound.{multiplied, powers_found}

module _ (p : ℕ) (prime : Prime p) {d : ℕ} {f : spec.Poly} (mf : MonicList (p ²) d f) {A : Type 0} (power : A → Power) (part : A → spec.Poly)
    (xs : List A) (over : All (λ x. PartOver p (power x).base (power x).exponent (part x)) xs)
    (different : Pairwise DifferentBases (map power xs)) (multiplies : spec.product (p ²) (map part xs) ≡ f) where
  abbrev n : ℕ
  n = p ²

  -- item 2
  pub parts_found : All (λ x. part x ≡ primary p f (power x)) xs
  parts_found x i = part_only_lem p prime mf (powers_found p prime mf power part xs over different multiplies) (power x) (Memᴰ.map power i) (part x) (record {
    monic = (over x i).monic;
    bar = (over x i).bar;
    divides = rw (multiplied p prime mf power part xs over different multiplies) at (member_divides (𝓩[x]/ n) (Memᴰ.map (poly n) (Memᴰ.map part i)));
  })
