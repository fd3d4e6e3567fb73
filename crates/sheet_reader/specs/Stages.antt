-- From stage to stage of a sheet's reading: `LeftOf`, what is left to read at a place.
-- Proves how it begins, that the fault of a step is the answer's, what is read at the end, and that a step in a part is one of the sheet. Assumes nothing.
use Rattle.std.specs.Prelude.{◌≡◌, List, ℕ, ◌+◌, ◌-◌, ◌≤◌, ◌<◌, length, take, drop, Ok, Err}
use Rattle.std.specs.Result.{result_err}
use Rattle.std.proofs.Math.Path.{refl}
use Rattle.std.proofs.Common.{sym, ◌∙◌, ap, ap₂, subst, zero-le, zero-add, arith, length-drop, take_all, drop-drop}
use Rattle.std.proofs.Math.ListN.{drop_of_length-le}
use Rattle.std.proofs.Math.Seq.{drop-cons}
use Rattle.specification.specs.Reading.{Read, got, Reader, ◌>>=◌, done, with_operand}
use Rattle.specification.specs.Sheets as spec
use Rattle.layouts.specs.SheetStages.{after_prime, sheet_stages}
use Rattle.refusals.specs.declared.Refused.{Refused}
use Rattle.refusals.specs.Numbers.{number_of}
use Rattle.sheet_steps.specs.Steps.{Step, as_read, StepAs, StepInside, Left, left_stops}

-- ---- from stage to stage

-- `rest` is left of a sheet's reading
abbrev pub LeftOf : Read spec.Sheet → List ℕ → Reader spec.Sheet → ℕ → Type 0
LeftOf reading bytes = Left reading bytes 0

pub left_first : (bytes : List ℕ) → LeftOf (spec.sheet 0 bytes) bytes (◌>>=◌ (with_operand 0x01 spec.prime_operand) after_prime) 0
left_first bytes = record { reach = zero-le; same = ap (λ (r : Reader spec.Sheet). r 0 bytes) sheet_stages }

-- a step's fault is the answer's
pub left_refused : {V A : Type 0} (f : A → Reader spec.Sheet) {reading : Read spec.Sheet} {bytes : List ℕ} {at : ℕ} {meant : V → A} {r : Reader A}
    {Good : V → Type 0} {e : Refused} → LeftOf reading bytes (◌>>=◌ r f) at → StepAs meant r Good bytes 0 at (Err e)
    → spec.whole reading ≡ spec.fault (number_of e.why) e.place
unfolding spec.whole
left_refused f l w = rw (left_stops f l w) refl

-- ---- the end

module _ (s : spec.Sheet) {reading : Read spec.Sheet} {bytes : List ℕ} {end : ℕ} (l : LeftOf reading bytes (done s) end) where
  pub byte_follows : end < length bytes → spec.whole reading ≡ spec.fault 8 end
  unfolding spec.whole done
  byte_follows m = rw (l.same, drop-cons bytes end 0 m) (ap (spec.fault 8) (zero-add end))

  pub nothing_follows : length bytes ≤ end → spec.whole reading ≡ spec.accepted s
  unfolding spec.whole done
  nothing_follows m = rw (l.same, drop_of_length-le bytes {i = end} m) refl

-- ---- a part from a place on

abbrev pub part_from : List ℕ → ℕ → List ℕ
part_from bytes start = take (length bytes - start) (drop start bytes)

part_is_lem : (bytes : List ℕ) (start : ℕ) → part_from bytes start ≡ drop start bytes
part_is_lem bytes start = take_all (length bytes - start) (drop start bytes) (omega (arith, length-drop start bytes))

pub length_part : (bytes : List ℕ) (start : ℕ) → start ≤ length bytes → start + length (part_from bytes start) ≡ length bytes
length_part bytes start l = omega (arith, ap length (part_is_lem bytes start), length-drop start bytes)

-- a step in the part from `start` on, as a step of the sheet
abbrev pub moved : {V : Type 0} → ℕ → Step V → Step V
moved start (Ok t) = Ok (t.0, start + t.1)
moved start (Err e) = Err e

-- its refusal is the same
pub refusal_moved : {V : Type 0} (start : ℕ) (s : Step V) → result_err s ≡ result_err (moved start s)
refusal_moved start (Ok t) = refl
refusal_moved start (Err e) = refl

pub from_part : {V A : Type 0} {meant : V → A} {r : Reader A} {Good : V → Type 0} {bytes : List ℕ} {start : ℕ} {s : Step V} → start ≤ length bytes
    → StepAs meant r Good (part_from bytes start) start 0 s → StepAs meant r Good bytes 0 start (moved start s)
from_part {V} {A} {meant} {r} {Good} {bytes} {start} {s} l w =
    record { same = ap (λ (k : ℕ). r k (drop start bytes)) (omega arith) ∙ v.same ∙ same s; inside = inside s v.inside }
  where
    v : StepAs meant r Good (drop start bytes) start 0 s
    v = subst (λ (part : List ℕ). StepAs meant r Good part start 0 s) (part_is_lem bytes start) w

    same : (s : Step V) → as_read meant (drop start bytes) start s ≡ as_read meant bytes 0 (moved start s)
    same (Ok t) = ap₂ (got (meant t.0)) (sym (zero-add (start + t.1))) (drop-drop t.1 start bytes)
    same (Err e) = refl

    inside : (s : Step V) → StepInside Good (drop start bytes) 0 s → StepInside Good bytes start (moved start s)
    inside (Ok t) i = record { good = i.good; on = omega arith; reach = omega (arith, i.reach, length-drop start bytes) }
    inside (Err e) i = tt
