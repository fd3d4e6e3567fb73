-- The reader's steps: `StepOf reader limit part start at s`, the step s is what the specification's reader gives at a place of a part of the sheet.
-- Proves it of a byte, of a judged value, of a number of two bytes, of a command with its operand and of one that is there or not, what it means that a
-- command comes next, and how a reading goes on after a step. Assumes nothing.
use Rattle.std.specs.Prelude.{◌≡◌, refl, Bool, true, false, List, ◌∷◌, length, get_or, drop, T, eqb, Result, Ok, Err, IsErrAnd}
use Rattle.std.proofs.Common.{sym, ◌∙◌, ap, ap₂, subst, zero-add, drop_of_length-le, drop-cons, lt-ltb, eqb-true}
use Rattle.std.proofs.lemmas.Result.{err_from_is_err_and}
use Rattle.std.proofs.lemmas.Bool.{false≢true, eqb-false}
use Prim.Native.Nat.{ℕ, suc, ◌+◌, ◌*◌, ◌<◌, ◌≤◌}
use native.Mathlib.Omega.{arith}
use Rattle.specification.specs.Reading.{Read, got, stop, Reader, done, go_on, ◌>>=◌, judged, byte, is_byte, two_byte_number, command_byte, with_operand, flag}
use Rattle.lists.specs.Tests.{passes, fails}
use Rattle.layouts.specs.ReaderLaws as laws
use Rattle.layouts.specs.ReaderLaws.{Other, then_goes, then_stops}
use Rattle.refusals.specs.declared.Refusal.{Refusal}
use Rattle.refusals.specs.declared.Refused.{Refused}
use Rattle.refusals.specs.declared.Refusal.TheVariants as refusal
use Rattle.refusals.specs.Numbers.{number_of}

-- ---- what a step says

-- a reader at a place of a part that begins at the sheet's place `start`
abbrev pub read_at : {A : Type 0} → Reader A → List ℕ → ℕ → ℕ → Read A
read_at r part start at = r (start + at) (drop at part)

-- a value that is taken with the place after it in the part, or a refusal with its place in the sheet
abbrev pub Step : Type 0 → Type 0
Step V = Result (V × ℕ) Refused

-- a step as a reading, where a value that is taken means `meant` of it
abbrev pub as_read : {V A : Type 0} → (V → A) → List ℕ → ℕ → Step V → Read A
as_read meant part start (Ok t) = got (meant t.0) (start + t.1) (drop t.1 part)
as_read meant part start (Err e) = stop (number_of e.why) e.place

-- a value that is taken is good, and the place after it is in the part
pub record Inside {V : Type 0} (Good : V → Type 0) (part : List ℕ) (at : ℕ) (t : V × ℕ) : Type 0 where
  pub good : Good t.0
  pub on : at ≤ t.1
  pub reach : t.1 ≤ length part

abbrev pub StepInside : {V : Type 0} → (V → Type 0) → List ℕ → ℕ → Step V → Type 0
StepInside Good part at (Ok t) = Inside Good part at t
StepInside Good part at (Err e) = Unit {0}

-- the step is what the reader gives at the place
pub record StepAs {V A : Type 0} (meant : V → A) (r : Reader A) (Good : V → Type 0) (part : List ℕ) (start at : ℕ) (s : Step V) : Type 0 where
  pub same : read_at r part start at ≡ as_read meant part start s
  pub inside : StepInside Good part at s

-- of a reader of numbers, each below a limit
abbrev pub StepOf : Reader ℕ → ℕ → List ℕ → ℕ → ℕ → Step ℕ → Type 0
StepOf r limit = StepAs (λ v. v) r (λ v. v < limit)

module _ {V A : Type 0} {meant : V → A} {r : Reader A} {Good : V → Type 0} {part : List ℕ} {start at : ℕ} {s : Step V}
    (w : StepAs meant r Good part start at s) where
  pub step_inside : {t : V × ℕ} → s ≡ Ok t → Inside Good part at t
  step_inside e = subst (StepInside Good part at) e w.inside

  pub step_got : {t : V × ℕ} → s ≡ Ok t → read_at r part start at ≡ got (meant t.0) (start + t.1) (drop t.1 part)
  step_got e = w.same ∙ ap (as_read meant part start) e

  pub step_stops : {e : Refused} → s ≡ Err e → read_at r part start at ≡ stop (number_of e.why) e.place
  step_stops e = w.same ∙ ap (as_read meant part start) e

-- a fault is a step of whatever reader stops there
pub step_fault : {V A : Type 0} {meant : V → A} {r : Reader A} {Good : V → Type 0} {part : List ℕ} {start at : ℕ} {e : Refused}
    → read_at r part start at ≡ stop (number_of e.why) e.place → StepAs meant r Good part start at (Err e)
step_fault h = record { same = h; inside = tt }

-- the refusal that a `?` hands on
pub handed_on : {V A : Type 0} {meant : V → A} {r : Reader A} {Good : V → Type 0} {part : List ℕ} {start at : ℕ} {s : Step V} {e : Refused}
    → IsErrAnd s (λ y. y ≡ e) → StepAs meant r Good part start at (Err e) → StepAs meant r Good part start at s
handed_on {s = s} h w = let (y, is, same) = err_from_is_err_and s h in rw (is, same) w

-- what an exact reader takes is good
pub step_good : {r : Reader ℕ} {Good : ℕ → Type 0} {written : ℕ → List ℕ} {limit : ℕ} {part : List ℕ} {start at : ℕ} {t : ℕ × ℕ}
    → laws.Exact r Good written → StepOf r limit part start at (Ok t) → Good t.0
step_good {part = part} {start} {at} x w = (rw w.same at (x.sound (start + at) (drop at part))).0

-- ---- how a reading goes on

-- the reading goes on at a place of the part as the reader `rest` does there
pub record Left {B : Type 0} (reading : Read B) (part : List ℕ) (start : ℕ) (rest : Reader B) (at : ℕ) : Type 0 where
  pub reach : at ≤ length part
  pub same : reading ≡ read_at rest part start at

module _ {V A B : Type 0} (f : A → Reader B) {reading : Read B} {part : List ℕ} {start at : ℕ} {meant : V → A} {r : Reader A} {Good : V → Type 0}
    (l : Left reading part start (◌>>=◌ r f) at) where
  pub left_more : {t : V × ℕ} → StepAs meant r Good part start at (Ok t) → Left reading part start (f (meant t.0)) t.1
  left_more w = record { reach = w.inside.reach; same = l.same ∙ then_goes r f w.same }

  pub left_stops : {e : Refused} → StepAs meant r Good part start at (Err e) → reading ≡ stop (number_of e.why) e.place
  left_stops w = l.same ∙ then_stops r f w.same

-- ---- a byte

module _ {part : List ℕ} {start at : ℕ} where
  -- the byte b stands there
  pub byte_taken : {b : ℕ} → at < length part → b ≡ get_or part at 0 → b < 256 → StepOf byte 256 part start at (Ok (b, at + 1))
  unfolding byte
  byte_taken l is small = record {
    same = rw (is, drop-cons part at 0 l)
        (ap₂ (λ (x y : ℕ). got (get_or part at 0) x (drop y part))
        (let q : suc (start + at) ≡ start + (at + 1) = omega arith in q) (let q : suc at ≡ at + 1 = omega arith in q));
    inside = record { good = small; on = omega arith; reach = omega arith };
  }

  pub byte_missing : length part ≤ at → {e : Refused} → e ≡ record { why = refusal.SheetEnds; place = start + at } → StepOf byte 256 part start at (Err e)
  unfolding byte
  byte_missing l is = step_fault (rw (drop_of_length-le part {i = at} l, is) refl)

-- ---- whether a command comes next

pub record Comes (code : ℕ) (part : List ℕ) (at : ℕ) (r : Bool) : Type 0 where
  pub there : r ≡ true → (at < length part) × (drop at part ≡ code ∷ drop (at + 1) part)
  pub other : r ≡ false → Other code (drop at part)

module _ (code : ℕ) {part : List ℕ} {at : ℕ} where
  pub comes_byte : at < length part → Comes code part at (eqb (get_or part at 0) code)
  comes_byte l = record {
    there = λ e.
        (l, drop-cons part at 0 l ∙ ap₂ (λ (b k : ℕ). b ∷ drop k part) (eqb-true _ _ e) (let q : suc at ≡ at + 1 = omega arith in q));
    other = λ e. rw (drop-cons part at 0 l) (eqb-false _ _ e);
  }

  pub comes_none : length part ≤ at → Comes code part at false
  comes_none l = record { there = λ e. absurd (false≢true e); other = λ e. rw (drop_of_length-le part {i = at} l) tt }

-- ---- a command that is there or not

abbrev pub FlagOf : (code k : ℕ) (allowed : Bool) → List ℕ → ℕ → ℕ → Step Bool → Type 0
FlagOf code k allowed = StepAs (λ v. v) (flag code k allowed) (λ v. Unit {0})

module _ (code k : ℕ) (allowed : Bool) {part : List ℕ} {start at : ℕ} {r : Bool} (next : Comes code part at r) where
  pub flag_none : at ≤ length part → r ≡ false → FlagOf code k allowed part start at (Ok (false, at))
  flag_none l e = record {
    same = laws.flag_none code k allowed (start + at) (drop at part) (next.other e);
    inside = record { good = tt; on = omega arith; reach = l };
  }

  pub flag_there : r ≡ true → T allowed → FlagOf code k allowed part start at (Ok (true, at + 1))
  flag_there e t =
      let (l, bytes) = next.there e in
      record {
        same = rw bytes
            (laws.flag_there code k allowed (start + at) (drop (at + 1) part) t
            ∙ ap (λ (place : ℕ). got true place (drop (at + 1) part)) (let q : start + at + 1 ≡ start + (at + 1) = omega arith in q));
        inside = record { good = tt; on = omega arith; reach = omega arith };
      }

pub flag_wrong : (code : ℕ) (why : Refusal) (allowed : Bool) {part : List ℕ} {start at : ℕ} {r : Bool} → Comes code part at r → r ≡ true → (T allowed → ⊥)
    → {e : Refused} {place : ℕ} → e ≡ record { why = why; place = place } → place ≡ start + at → FlagOf code (number_of why) allowed part start at (Err e)
flag_wrong code why allowed {part} {start} {at} next e h is p =
    step_fault (rw (is, (next.there e).1) (laws.flag_stops code (number_of why) allowed (start + at) (drop (at + 1) part) h ∙ ap (stop (number_of why)) (sym p)))

-- ---- a judged value

module _ {r : Reader ℕ} {limit : ℕ} {part : List ℕ} {start at : ℕ} where
  module _ (k : ℕ) (good : ℕ → Bool) where
    -- it is good, and below another limit
    pub judged_taken : {t : ℕ × ℕ} {lower : ℕ} → StepOf r limit part start at (Ok t) → t.0 < lower → T (good t.0)
        → StepOf (judged k good r) lower part start at (Ok t)
    unfolding judged go_on
    judged_taken w l h = record {
      same = rw (w.same, passes (good _) h) refl;
      inside = record { good = l; on = w.inside.on; reach = w.inside.reach };
    }

    pub judged_ends : {lower : ℕ} {e : Refused} → StepOf r limit part start at (Err e) → StepOf (judged k good r) lower part start at (Err e)
    unfolding judged go_on
    judged_ends w = step_fault (rw w.same refl)

  pub judged_wrong : (why : Refusal) (good : ℕ → Bool) {t : ℕ × ℕ} {lower place : ℕ} {e : Refused} → StepOf r limit part start at (Ok t)
      → (T (good t.0) → ⊥) → e ≡ record { why = why; place = place } → place ≡ start + at
      → StepOf (judged (number_of why) good r) lower part start at (Err e)
  unfolding judged go_on
  judged_wrong why good w h is p = step_fault (rw (is, w.same, fails (good _) h) (ap (stop (number_of why)) (sym p)))

-- ---- a number of two bytes

module _ (k : ℕ) {part : List ℕ} {start at : ℕ} where
  pub two_none : {e : Refused} → StepOf byte 256 part start at (Err e) → StepOf (two_byte_number k) 65536 part start at (Err e)
  unfolding two_byte_number
  two_none w = step_fault (then_stops (judged k is_byte byte) _ (judged_ends k is_byte {lower = 256} w).same)

  -- the first is there, and the second is read
  module _ {t : ℕ × ℕ} (w : StepOf byte 256 part start at (Ok t)) where
    goes : {B : Type 0} (f : ℕ → Reader B) → read_at (◌>>=◌ (judged k is_byte byte) f) part start at ≡ read_at (f t.0) part start t.1
    goes f = then_goes (judged k is_byte byte) f (judged_taken k is_byte w small (rw (lt-ltb t.0 256 small) tt)).same
      where
        small : t.0 < 256
        small = w.inside.good

    pub two_half : {e : Refused} → StepOf byte 256 part start t.1 (Err e) → StepOf (two_byte_number k) 65536 part start at (Err e)
    unfolding two_byte_number
    two_half v = step_fault (goes _ ∙ then_stops byte _ v.same)

    pub two_taken : {u : ℕ × ℕ} → StepOf byte 256 part start t.1 (Ok u)
        → StepOf (two_byte_number k) 65536 part start at (Ok (t.0 + 256 * u.0, u.1))
    unfolding two_byte_number done
    two_taken v = record {
      same = goes _ ∙ then_goes byte _ v.same;
      inside = record {
        good = omega (arith, w.inside.good, v.inside.good);
        on = omega (arith, w.inside.on, v.inside.on);
        reach = v.inside.reach;
      };
    }

-- what is below a limit is below a higher one
pub step_below : {r : Reader ℕ} {limit higher : ℕ} {part : List ℕ} {start at : ℕ} (s : Step ℕ) → limit ≤ higher → StepOf r limit part start at s
    → StepOf r higher part start at s
step_below (Ok t) l w = let i = w.inside in record { same = w.same; inside = record { good = omega (arith, i.good); on = i.on; reach = i.reach } }
step_below (Err e) l w = record { same = w.same; inside = tt }

-- ---- a command with its operand

module _ (code : ℕ) {limit : ℕ} (r : Reader ℕ) {part : List ℕ} {start at : ℕ} where
  pub with_command_ends : {e : Refused} → StepOf (command_byte code) 256 part start at (Err e) → StepOf (with_operand code r) limit part start at (Err e)
  unfolding with_operand
  with_command_ends w = step_fault (then_stops (command_byte code) (λ c. r) w.same)

  pub with_operand_lem : {t : ℕ × ℕ} {s : Step ℕ} → StepOf (command_byte code) 256 part start at (Ok t) → StepOf r limit part start t.1 s
      → StepOf (with_operand code r) limit part start at s
  unfolding with_operand
  with_operand_lem {t} {s} w h = record { same = then_goes (command_byte code) (λ c. r) w.same ∙ h.same; inside = from s h.inside }
    where
      from : (s : Step ℕ) → StepInside (λ v. v < limit) part t.1 s → StepInside (λ v. v < limit) part at s
      from (Ok u) i = record { good = i.good; on = omega (arith, i.on, w.inside.on); reach = i.reach }
      from (Err e) i = tt

-- a command of the sheet is there: what is read at the place `next` after it is the answer, and the byte there gives the step t
pub record PastCommand (code : ℕ) (sheet : List ℕ) (at next : ℕ) (t : Step ℕ) : Type 0 where
  pub answer : (r : Reader ℕ) {limit : ℕ} {s : Step ℕ} → StepOf r limit sheet 0 next s → StepOf (with_operand code r) limit sheet 0 at s
  pub operand : StepOf byte 256 sheet 0 next t

-- the command is taken, and the byte after it is read
pub past_command : {code v next : ℕ} {sheet : List ℕ} {at : ℕ} {s t : Step ℕ} → StepOf (command_byte code) 256 sheet 0 at s → s ≡ Ok (v, next)
    → StepOf byte 256 sheet 0 next t → PastCommand code sheet at next t
past_command {code} w e o = record { answer = λ r. with_operand_lem code r (rw e at w); operand = o }

-- the command with its judged operand
module _ {code : ℕ} {sheet : List ℕ} {at next : ℕ} {t : Step ℕ} (w : PastCommand code sheet at next t) where
  module _ (k : ℕ) (good : ℕ → Bool) where
    pub operand_ends : {limit : ℕ} {e : Refused} → t ≡ Err e → StepOf (with_operand code (judged k good byte)) limit sheet 0 at (Err e)
    operand_ends e = w.answer _ (judged_ends k good (rw e at w.operand))

    pub operand_taken : {limit : ℕ} {u : ℕ × ℕ} → t ≡ Ok u → u.0 < limit → T (good u.0)
        → StepOf (with_operand code (judged k good byte)) limit sheet 0 at (Ok u)
    operand_taken e l h = w.answer _ (judged_taken k good (rw e at w.operand) l h)

  pub operand_wrong : (why : Refusal) (good : ℕ → Bool) {limit : ℕ} {u : ℕ × ℕ} {e : Refused} → t ≡ Ok u → (T (good u.0) → ⊥)
      → e ≡ record { why = why; place = next } → StepOf (with_operand code (judged (number_of why) good byte)) limit sheet 0 at (Err e)
  operand_wrong why good e h is = w.answer _ (judged_wrong why good (rw e at w.operand) h is (sym (zero-add next)))
