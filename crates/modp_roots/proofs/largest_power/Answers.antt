-- `modp_roots::largest_power` meets its contract.
-- Assumes nothing.
use Rattle.std.proofs.Common.{ℕ, ◌≤◌, ◌<◌, ◌*◌, mul-le-mul, mul-le-mul_left, rules, arith}
use Rattle.modp_roots.specs.BinomialDivision.{power_none, power_more, power_positive}
use Rattle.modp_roots.proofs.largest_power.Goals as goal

width : (k p n : ℕ) → k ≤ n → p ≤ n → n < 33 → k * p ≤ 1024
width k p n l u s = mul-le-mul {n₂ = 32} {m₂ = 32} (omega arith) (omega arith)

pub loop-k-init : goal.loop-k-init
loop-k-init c = (power_none, c.requires.1)

pub overflow_mul-k : goal.overflow_mul-k
overflow_mul-k c = let pre = c.requires in omega (arith, width _ _ _ c.loop-k.invariant.1 pre.1 pre.2)

pub overflow_mul-k-in-loop-k : goal.overflow_mul-k-in-loop-k
overflow_mul-k-in-loop-k c = let pre = c.requires in omega (arith, width _ _ _ c.loop-k.invariant.1 pre.1 pre.2)

pub loop-k-smaller : goal.loop-k-smaller
loop-k-smaller c =
    let pre = c.requires in
    omega (arith, c.loop-k-test.true, power_positive pre.0 c.loop-k.invariant.0, mul-le-mul_left c.loop-k.k pre.0.large)

pub loop-k-preserved : goal.loop-k-preserved
loop-k-preserved c = (power_more c.loop-k.invariant.0, c.loop-k-test.true)

pub returns : goal.returns
returns c = record { power = c.loop-k.invariant.0; fits = c.loop-k.invariant.1; next = search rules }
