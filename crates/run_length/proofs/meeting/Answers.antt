-- `run_length::meeting` meets its contract.
-- Assumes nothing.
use Rattle.std.proofs.Common.{sym, ◌∙◌, arith, zero-le}
use Rattle.std.proofs.lemmas.Bool.{eqb-false, eqb-true}
use Rattle.run_length.proofs.MeetingSearch.{none_marked, other_mark, none_at, met_at}
use Rattle.run_length.proofs.meeting.Goals as goal
use Rattle.run_length.proofs.meeting.Goals.{then-marks-i, else-marks-i}

pub returns-then-not-contains : goal.returns-then-not-contains
returns-then-not-contains c =
    let h = c.requires in
    none_marked h.3 h.4 h.2 c.mark-m.ensures (λ k l. eqb-false _ _ (c.if-not-contains.ensures.cases k 0 zero-le (omega (arith, h.2.long))))

pub returns-then-met : goal.returns-then-met
returns-then-met c =
    met_at (omega arith)
    (elim c.if-marks-i.branch [
      | then-marks-i w ↦ w.is_power-met.ensures.yes (sym w.met-is ∙ c.if-met.true)
      | else-marks-i w ↦ absurd (omega (arith, eqb-true _ _ (sym w.met-is ∙ c.if-met.true)))
    ])
    c.loop-i.invariant

pub loop-i-preserved : goal.loop-i-preserved
loop-i-preserved c =
    let h = c.requires in
    elim c.if-marks-i.branch [
      | then-marks-i w ↦ none_at (omega arith) (w.is_power-met.ensures.no (sym w.met-is ∙ c.if-met.false)) c.loop-i.invariant
      | else-marks-i w ↦ other_mark h.3 h.4 h.2 (omega arith) c.mark-m.ensures (λ e. omega (arith, e)) c.loop-i.invariant
    ]
