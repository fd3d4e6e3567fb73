-- `line_reader::read_digits` meets its contract.
-- Assumes nothing.
use Rattle.std.proofs.Common.{arith, sym, ◌∙◌}
use Rattle.line_reader.proofs.Bytes.{counted_one, counted_more, counted_bound}
use Rattle.line_reader.proofs.read_digits.Goals as goal

pub loop-d-init : goal.loop-d-init
loop-d-init c = let d = c.in_ok-value.ensures in counted_one d.0 (sym c.byte.ensures.is ∙ d.1)

pub appended-value-requires : goal.appended-value-requires
appended-value-requires c = (counted_bound c.loop-d.invariant, c.in-Some.ensures.0)

pub loop-d-smaller : goal.loop-d-smaller
loop-d-smaller c =
    let d = c.in-Some.ensures in
    let w = counted_more c.loop-d.invariant d.0 (sym c.byte-in-loop-d.ensures.is ∙ d.1) c.appended-value.ensures in
    omega (arith, w.within)

pub loop-d-preserved : goal.loop-d-preserved
loop-d-preserved c =
    let d = c.in-Some.ensures in
    counted_more c.loop-d.invariant d.0 (sym c.byte-in-loop-d.ensures.is ∙ d.1) c.appended-value.ensures

pub returns : goal.returns
returns c = (c.loop-d.invariant, rw (← c.byte-in-loop-d.ensures.is) c.in_default.ensures)
