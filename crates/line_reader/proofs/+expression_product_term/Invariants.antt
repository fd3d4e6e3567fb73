-- The measures of `line_reader::expression`, `product` and `term`, which call each other: the bytes left fall, and where they stay the rank does.
-- The loops keep what stands so far and the place of the first sign behind it. Assumes nothing.
use Rattle.std.proofs.Common.{◌+◌, ◌*◌, length, ◌-◌}
use Rattle.line_reader.specs.LineContracts.{FactorsStand, SummandsStand, Skipped}
use Rattle.line_reader.proofs.+expression_product_term.Given as goal

abbrev pub decreases-expression : goal.decreases-expression
decreases-expression l = (length l.s.now - l.at) * 3 + 2

abbrev pub decreases-product : goal.decreases-product
decreases-product l = (length l.s.now - l.at) * 3 + 1

abbrev pub decreases-term : goal.decreases-term
decreases-term l = (length l.s.now - l.at) * 3

abbrev pub invariant-expression-loop-sign : goal.invariant-expression-loop-sign
invariant-expression-loop-sign l = record {
  stands : SummandsStand l.s l.p.value l.fn.at l.all.end l.all.value;
  blanks : Skipped l.s l.all.end l.place;
}

abbrev pub decreases-expression-loop-sign : goal.decreases-expression-loop-sign
decreases-expression-loop-sign l = length l.s - l.all.end

abbrev pub invariant-product-loop-p : goal.invariant-product-loop-p
invariant-product-loop-p l = record {
  stands : FactorsStand l.s l.p.value l.fn.at l.all.end l.all.value;
  blanks : Skipped l.s l.all.end l.sign;
}

abbrev pub decreases-product-loop-p : goal.decreases-product-loop-p
decreases-product-loop-p l = length l.s - l.all.end
