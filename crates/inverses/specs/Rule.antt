-- The rule of the table of inverses, "entry times unit leaves 1": `Rule p a r` says it of the entry r for the unit a modulo p, and that no other number
-- below p serves; `keeps p a r` is the same as a test.
-- Proves that an entry that passes keeps the rule. Assumes nothing.
use Rattle.std.specs.Prelude.{◌≡◌, Bool, ◌&&◌, ℕ, ◌*◌, ◌%◌, ◌<◌, T, eqb, ltb}
use Rattle.std.proofs.Common.{eqb→eq, ltb→lt}
use Rattle.lists.specs.Tests.{left, right}
use Rattle.inverses.specs.Unique.{unique}

pub record Rule (p a r : ℕ) : Type 0 where
  pub below : r < p
  pub leaves_one : r * a % p ≡ 1
  pub only : (b : ℕ) → b < p → b * a % p ≡ 1 → b ≡ r

unfoldable pub keeps : ℕ → ℕ → ℕ → Bool
keeps p a r = ltb r p && eqb (r * a % p) 1

pub keeps_rule : (p a r : ℕ) → T (keeps p a r) → Rule p a r
unfolding keeps
keeps_rule p a r t =
    let small = ltb→lt r p (left (ltb r p) _ t) in
    let one = eqb→eq (r * a % p) 1 (right (ltb r p) _ t) in
    record { below = small; leaves_one = one; only = λ b l e. unique p a b r l small e one }
