-- Number 15's place from the machine, `Stopped`: it is not stuck after the bytes before that place, and stuck after the byte there. Assumes nothing.
use Rattle.std.specs.Prelude.{◌≡◌, ◌⊎◌, List, ℕ, suc, ◌≤◌, length}
use Rattle.specification.specs.Grammar.{Tree, At}
use Rattle.grammar.specs.Machine.{bottom, State, stuck, after}
use Rattle.grammar.specs.Runs.{ExpressionRun, alive}

-- a state in which no line ends
pub record Open (σ : State) : Type 0 where
  pub none : (p : ℕ) (t : Tree) → ExpressionRun (bottom p) t σ → ⊥

-- what the code shows at the place where it stops
pub record Stopped (s : List ℕ) (k : ℕ) : Type 0 where
  pub within : k ≤ length s
  pub living : alive (after s k) ≡ 1
  pub dead : after s (suc k) ≡ stuck
  pub at_end : k ≡ length s → Open (after s k) ⊎ ((j : ℕ) × (suc j ≡ k) × At s j 32)
