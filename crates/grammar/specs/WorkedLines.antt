-- The checks of a line that is read, one equation for each way through them: 16, 4, 17, and the sheet.
-- Proves what `worked` and `valued` are where a test fails or all pass. Assumes nothing.
use Rattle.std.specs.Prelude.{◌≡◌, Bool, true, false, not, ◌||◌, ℕ, ltb}
use Rattle.specification.specs.Limits.{taken, number_limit}
use Rattle.specification.specs.Sheets.{sheet_bytes}
use Rattle.specification.specs.Calls.{success, refused}
use Rattle.specification.specs.Grammar.{Tree}
use Rattle.specification.specs.TypedLines.{meaning, any_part, is_large, is_high, is_pattern, valued, worked}
use Rattle.specification.specs.TypedClaims.{typed_sheet}

module _ (p : ℕ) (t : Tree) where
  -- 16 is its case, and 17 is
  abbrev pub too_large : Bool
  too_large = ltb number_limit p || any_part is_large t

  abbrev pub too_high : Bool
  too_high = any_part (is_high p) t || not (is_pattern (meaning p t))

  pub worked_large : too_large ≡ true → worked p t ≡ refused 16 0
  unfolding worked
  worked_large e = rw e

  pub worked_no_prime : too_large ≡ false → taken p ≡ false → worked p t ≡ refused 4 0
  unfolding worked
  worked_no_prime e f = rw (e, f)

  pub worked_prime : too_large ≡ false → taken p ≡ true → worked p t ≡ valued p t
  unfolding worked
  worked_prime e f = rw (e, f)

  pub valued_high : too_high ≡ true → valued p t ≡ refused 17 0
  unfolding valued
  valued_high e = rw e

  pub valued_sheet : too_high ≡ false → valued p t ≡ success (sheet_bytes (typed_sheet p t))
  unfolding valued
  valued_sheet e = rw e
