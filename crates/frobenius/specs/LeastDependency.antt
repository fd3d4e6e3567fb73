-- The least dependency of a linear map that is given by images: for i = o, o + 1, .. the image of x^i is reduced by rows that are images
-- themselves; if 𝟎 is left, a monic v of degree i goes to 𝟎 and none of lower degree does; if not, what is left becomes a row.
-- Proves the first of these two cases, over any field; the second is in proofs/. Assumes nothing.
use Rattle.std.specs.Prelude.{◌≡◌, ℕ, ◌<◌}
use Rattle.std.proofs.Common.{◌∙◌}
use Rattle.algebra.specs.Ring.{CommRing}
use Rattle.algebra.specs.PolynomialRing.{Poly, 𝟎}
use Rattle.algebra.specs.Degree.{Monic}
use Rattle.frobenius.specs.LinearMaps.{apply}
use Rattle.frobenius.specs.RowReduction.{Between, Stage, Reducing}

module _ {R : Type 0} {𝓡 : CommRing R} (t : ℕ → Poly 𝓡) (m o : ℕ) where
  -- w is monic of degree i and goes to 𝟎, and nothing of lower degree does, but 𝟎
  pub record LeastDependency (i : ℕ) (w : Poly 𝓡) : Type 0 where
    pub monic : Monic i w
    pub base : (j : ℕ) → j < o → w.coef j ≡ 𝓡.𝟘
    pub kernel : apply t m w ≡ 𝟎
    pub least : (v : Poly 𝓡) → Between o i v → apply t m v ≡ 𝟎 → v ≡ 𝟎

-- m images, n slots
module _ {R : Type 0} {𝓡 : CommRing R} (t : ℕ → Poly 𝓡) (m n o : ℕ) where
  -- the image of x^i is reduced to u by the slots from κ on, and w goes to u
  module _ {r s : ℕ → Poly 𝓡} {i κ : ℕ} {u w : Poly 𝓡} (S : Stage t m n o r s i) (D : Reducing t m n o r i κ u w) where
    pub stage_found : u ≡ 𝟎 → LeastDependency t m o i w
    stage_found e = record { monic = D.monic; base = D.base; kernel = D.image ∙ e; least = S.injective }
