-- A test decides a fact: `Decides flag P`, the flag says whether P holds.
-- Assumes nothing.
use Rattle.std.specs.Prelude.{◌≡◌, Bool, true, false}

pub record Decides (flag : Bool) (P : Type 0) : Type 0 where
  pub yes : flag ≡ true → P
  pub no : flag ≡ false → ¬ P
