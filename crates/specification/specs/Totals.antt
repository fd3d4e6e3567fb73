-- The list of f written out, and its three totals: "factors with repeats; different factors; free digits".
-- "Each total is counted from the list."
use Rattle.std.specs.Prelude.{ℕ, ◌+◌, ◌-◌, ◌*◌, cond, length, replicate}
use mathlib.Core.List.{List, [], ◌∷◌, flat_map}
use Rattle.specification.specs.Lists.{any_passes, same}
use Rattle.specification.specs.Polynomials.{Poly, degree}
use Rattle.specification.specs.Parts.{Factor, Part}

-- a factor, as many times as it is repeated
abbrev pub copies : Factor → List Poly
copies q = replicate q.times q.poly

-- a part's factors, "with repeats"
unfoldable pub members : Part → List Poly
members P = flat_map copies P.splitting.factors

-- the list of f: the parts in order, each with its factors
unfoldable pub list_of : List Part → List Poly
list_of Ps = flat_map members Ps

-- "factors with repeats"
abbrev pub total : List Part → ℕ
total Ps = length (list_of Ps)

-- "different factors": a member counts where none after it is the same
unfoldable pub different : List Poly → ℕ
different [] = 0
different (f ∷ fs) = cond (any_passes (same f) fs) 0 1 + different fs

-- "Free digits is the sum over the parts of d times (factors of that part, with repeats, minus 1)"
unfoldable pub free_digits : List Part → ℕ
free_digits [] = 0
free_digits (P ∷ Ps) = degree P.base * (length (members P) - 1) + free_digits Ps

-- the three of them, as an answer has them
pub record Totals : Type 0 where
  pub factors : ℕ
  pub different : ℕ
  pub free : ℕ

abbrev pub totals_of : List Part → Totals
totals_of Ps = record { factors = total Ps; different = different (list_of Ps); free = free_digits Ps }
