-- What the definitions need of lists: all, any, the first that passes a test, the numbers below n, and when two are the same.
-- General notions: no sentence of document 01 stands behind them.
use Rattle.std.specs.Prelude.{ℕ, zero, suc, Bool, true, false, ◌&&◌, ◌||◌, List, [], ◌∷◌, eqb}

module _ {A : Type 0} where
  -- every member passes the test
  unfoldable pub all_pass : (A → Bool) → List A → Bool
  all_pass test [] = true
  all_pass test (a ∷ l) = test a && all_pass test l

  -- some member passes the test
  unfoldable pub any_passes : (A → Bool) → List A → Bool
  any_passes test [] = false
  any_passes test (a ∷ l) = test a || any_passes test l

  -- the first member that passes the test, or the default
  unfoldable pub first : (A → Bool) → A → List A → A
  first test default [] = default
  first test default (a ∷ l) = elim (test a) [ true ↦ a | false ↦ first test default l ]

-- the k numbers from b on
unfoldable pub up_from : ℕ → ℕ → List ℕ
up_from b zero = []
up_from b (suc k) = b ∷ up_from (suc b) k

-- 0, 1, .., n - 1
unfoldable pub below : ℕ → List ℕ
below n = up_from 0 n

-- two lists of numbers have the same length and the same entries
unfoldable pub same : List ℕ → List ℕ → Bool
same [] [] = true
same [] (b ∷ g) = false
same (a ∷ f) [] = false
same (a ∷ f) (b ∷ g) = eqb a b && same f g
