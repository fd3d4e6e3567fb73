-- `PartFound p f n r`: r is the part that f is, of degree n, split by items 4 to 9 with the g of item 5.
-- Proves that it is then split as Algorithm 4.5 is printed. Assumes nothing.
use Rattle.std.specs.Prelude.{◌≡◌, List, ℕ, ◌<◌}
use Rattle.std.proofs.Common.{sym, ◌∙◌, ap}
use Rattle.specification.specs.Polynomials.{Poly}
use Rattle.specification.specs.Parts as parts
use Rattle.specification.specs.Algorithm45.{algorithm45}
use Rattle.arrays.specs.Listed.{listed}
use Rattle.items.specs.Reductions.{digit_lift_lem}
use Rattle.items.specs.PartForm.{base_monic}
use Rattle.items.specs.AlgorithmOrder as order
use Rattle.items.specs.Recognised.{Found, FoundOver, split_found}
use Rattle.part_verdict.specs.declared.Part.{Part}
use Rattle.part_verdict.specs.AsPart.{as_part}
use Rattle.part_verdict.specs.PartHeld.{PartHeld}

-- `found` has G and m, and `over` that G is irreducible and G^m the bar of f
pub record PartFound (p : ℕ) (f : List ℕ) (n : ℕ) (r : Part) : Type 0 where
  pub found : Found
  pub over : FoundOver p found
  pub part_is : found.part ≡ listed n f
  pub is : split_found p found ≡ as_part r
  pub held : PartHeld p r

pub as_printed : {p : ℕ} {f : List ℕ} {n : ℕ} {r : Part} → 1 < p → (F : PartFound p f n r)
    → (as_part r).splitting
    ≡ algorithm45 p F.found.power.base (parts.digit_lift F.found.power.base) F.found.power.exponent (listed n f)
as_printed {p} large F =
    ap (λ (a : parts.Part). a.splitting) (sym F.is) ∙ order.as_printed large F.over (digit_lift_lem p large (base_monic large F.over))
    ∙ ap (λ (q : Poly). algorithm45 p F.found.power.base F.found.power.base F.found.power.exponent q) F.part_is
