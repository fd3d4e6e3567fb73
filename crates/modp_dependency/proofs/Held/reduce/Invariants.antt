-- `modp_dependency::Held::reduce` meets its contract. Whatever the image was left of, what is in hand is left of that too.
-- Assumes nothing.
use Rattle.modp_dependency.specs.StoredRows.{row_images}
use Rattle.modp_dependency.specs.Reduction.{ReducedTo, Reducible}
use Rattle.modp_dependency.proofs.Held.reduce.Given as goal

abbrev pub invariant-loop-self : goal.invariant-loop-self
invariant-loop-self l =
    (h : Reducible l.p l.i l.rows l.fn.self.size l.fn.self.image l.fn.self.preimage)
    → ReducedTo l.p h.of h.least h.most h.terms l.i (row_images l.rows) l.self.size l.self.image l.self.preimage

abbrev pub decreases-loop-self : goal.decreases-loop-self
decreases-loop-self l = l.self.size
