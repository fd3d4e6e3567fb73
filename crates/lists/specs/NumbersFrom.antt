-- The specification's `up_from b k`: b, b + 1, .., b + k − 1.
-- Proves how many numbers these are, and which. Assumes nothing.
use Rattle.std.specs.Prelude.{◌≡◌, refl, ℕ, zero, suc, ◌+◌, ◌<◌, ◌≤◌, length}
use Rattle.std.proofs.Common.{sym, ap, ⊎_elim, eq-or-lt_of_le, arith}
use mathlib.Core.List.Memᴰ.{head as here}
use mathlib.Core.List.Memᴰ.{tail as there}
use Rattle.specification.specs.Lists.{up_from}
use Rattle.lists.specs.Members.{◌∈◌}

pub up_from_length : (b k : ℕ) → length (up_from b k) ≡ k
unfolding up_from
up_from_length b zero = refl
up_from_length b (suc k) = ap suc (up_from_length (suc b) k)

pub up_from_member : (b k : ℕ) {a : ℕ} → a ∈ up_from b k → (b ≤ a) × (a < b + k)
unfolding up_from
up_from_member b zero i = elim i [ ]
up_from_member b (suc k) (here e) = (omega arith, omega arith)
up_from_member b (suc k) (there i) = let (l, u) = up_from_member (suc b) k i in (omega arith, omega arith)

pub up_from_has : (b k : ℕ) {a : ℕ} → b ≤ a → a < b + k → a ∈ up_from b k
unfolding up_from
up_from_has b zero l u = absurd (omega arith)
up_from_has b (suc k) l u = ⊎_elim (λ e. here (sym e)) (λ h. there (up_from_has (suc b) k h (omega arith))) (eq-or-lt_of_le l)
