-- A sheet's bytes over the code's array, as they are written one after the other.
-- Proves what the head and the whole are, and that an area as long as the longest sheet has room for a good one. Assumes nothing.
use mathlib.Core.Path.{◌≡◌, sym, ◌∙◌, ap}
use mathlib.Core.List.{List, [], ◌∷◌, ◌++◌}
use Prim.Native.Nat.{ℕ, ◌≤◌}
use native.Mathlib.Omega.{arith}
use lib.ListN.{length, take}
use Rattle.specification.specs.Polynomials.{Poly}
use Rattle.specification.specs.Sheets as spec
use Rattle.specification.specs.Sheets.{sheet_bytes}
use Rattle.specification.specs.SheetClaims.{GoodSheet, sheet_limit}
use Rattle.arrays.specs.Listed.{degree_listed, lower_listed}
use Rattle.layouts.specs.CoefficientBytes.{coefficient_bytes}
use Rattle.layouts.specs.SheetLayout.{head_bytes, head_bytes_is, last_bytes, sheet_bytes_is}
use Rattle.layouts.specs.SheetSize.{sheet_fits, sheet_is_bytes}
use Rattle.commands.specs.declared.Sheet.{Sheet}
use Rattle.commands.specs.AsSheet.{as_sheet}
use Rattle.area.specs.Wrote.{Room}

module _ (s : Sheet) (long : length s.coefs ≡ 33) (l : s.degree ≤ 32) where
  -- 0x01 and 0x02
  pub head_is : 0x01 ∷ s.prime ∷ 0x02 ∷ s.degree ∷ [] ≡ head_bytes (as_sheet s)
  head_is =
      ap (λ (d : ℕ). 0x01 ∷ s.prime ∷ 0x02 ∷ d ∷ []) (sym (degree_listed s.degree s.coefs (omega arith))) ∙ sym (head_bytes_is (as_sheet s))

  -- head, coefficients below the top, and what follows them
  pub sheet_is : head_bytes (as_sheet s) ++ (coefficient_bytes s.prime 0 (take s.degree s.coefs) ++ last_bytes (as_sheet s)) ≡ sheet_bytes (as_sheet s)
  sheet_is =
      ap (λ (f : Poly). head_bytes (as_sheet s) ++ (coefficient_bytes s.prime 0 f ++ last_bytes (as_sheet s)))
      (sym (lower_listed s.degree s.coefs (omega arith)))
      ∙ sym (sheet_bytes_is (as_sheet s))

pub sheet_room : (s : spec.Sheet) → GoodSheet s → {area : List ℕ} → sheet_limit ≤ length area → Room area 0 (sheet_bytes s)
sheet_room s g l = record { fits = omega (arith, sheet_fits s g); low = sheet_is_bytes s g }
