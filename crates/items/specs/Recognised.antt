-- `Found`: a part that was found, by whatever way, with the power that is its bar. That a list of them is the definition's: proofs/Recognised.
-- Only definitions. Assumes nothing.
use Rattle.std.specs.Prelude.{ℕ}
use Rattle.specification.specs.Polynomials as spec
use Rattle.specification.specs.Powers.{Power}
use Rattle.specification.specs.Parts.{Part, part_over}
use Rattle.items.specs.PartForm.{PartOver}

-- a part, and the power that is its bar
pub record Found : Type 0 where
  pub power : Power
  pub part : spec.Poly

abbrev pub FoundOver : ℕ → Found → Type 0
FoundOver p F = PartOver p F.power.base F.power.exponent F.part

-- with the verdict and the factors of items 4 to 9
abbrev pub split_found : ℕ → Found → Part
split_found p F = part_over p F.power F.part
