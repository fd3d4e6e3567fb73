-- `modp_halves::Splittable::halve` meets its contract.
-- Assumes nothing.
use Rattle.std.proofs.Common.{arith, below_more}
use Rattle.modp_halves.specs.Halves.{less_small, halves_of, coprime_at, coprime_known, not_all}
use Rattle.modp_halves.proofs.Splittable.halve.Goals as goal
use Rattle.modp_halves.proofs.Splittable.halve.Goals.{then-is_candidate+else-first-gt0, else-is_candidate}

pub common_divisor-first-requires : goal.common_divisor-first-requires
common_divisor-first-requires c =
    let S = c.args.self.halvable in
    let w = c.less_constant-w.ensures in
    (S.prime, w.reduced, rw w.is (less_small S c.loop-c.c))

pub quotient-second-requires : goal.quotient-second-requires
quotient-second-requires c =
    let (first, same) = c.common_divisor-first.ensures in
    (c.args.self.halvable.prime.large, same, first.right)

pub returns-then-first-gt0 : goal.returns-then-first-gt0
returns-then-first-gt0 c =
    let (first, same) = c.common_divisor-first.ensures in
    let (second, degree, n) = c.quotient-second.ensures in
    (halves_of c.args.self.halvable _ c.less_constant-w.ensures first (omega arith) second, degree, same, n)

pub loop-c-preserved : goal.loop-c-preserved
loop-c-preserved c =
    let S = c.args.self.halvable in
    below_more _ _ c.loop-c.invariant
    (elim c.if-is_candidate.branch [
      | then-is_candidate+else-first-gt0 w ↦ coprime_at S c.loop-c.c w.less_constant-w.ensures w.common_divisor-first.ensures.0 (omega arith)
      | else-is_candidate w ↦ coprime_known S c.loop-c.c (c.candidates-tries.ensures c.loop-c.c c.loop-c-test.true w.if-is_candidate.false)
    ])

pub unreachable-requires : goal.unreachable-requires
unreachable-requires c = not_all c.args.self.halvable (λ k l. c.loop-c.invariant k (omega arith))
