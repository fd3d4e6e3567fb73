-- `sheet_steps::run_at` meets its contract.
-- Assumes nothing.
use mathlib.Core.Path.{sym, ◌∙◌, subst}
use native.Mathlib.Nat.{zero-add}
use lib.Dec.{T}
use Rattle.refusals.specs.declared.Refusal.TheVariants as refusal
use Rattle.sheet_steps.specs.Steps.{flag_none, flag_there, flag_wrong}
use Rattle.sheet_steps.proofs.run_at.Goals as goal

pub returns-then-not-comes : goal.returns-then-not-comes
returns-then-not-comes c = flag_none _ _ _ c.comes.ensures c.requires.0 c.if-not-comes.true

pub returns-then-not-has_run : goal.returns-then-not-has_run
returns-then-not-has_run c =
    flag_wrong _ refusal.NoRun _ c.comes.ensures c.if-not-comes.false
    (λ t. subst T (sym c.has_run.ensures ∙ c.if-not-has_run.true) t) c.at.ensures (sym (zero-add _))

pub returns : goal.returns
returns c =
    flag_there _ _ _ c.comes.ensures c.if-not-comes.false (subst T (sym (sym c.has_run.ensures ∙ c.if-not-has_run.false)) tt)
