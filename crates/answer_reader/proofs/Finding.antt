-- The loop that looks for a code, command by command: `Searching`, no command before the place has it.
-- Proves how the loop begins and goes on, what it ends with, and what that says of the first command with the code and of whether there is one.
-- Assumes nothing.
use mathlib.Core.Path.{◌≡◌, refl, sym, ◌∙◌, ap}
use mathlib.Core.Bool.{true, false}
use mathlib.Core.List.{List, [], ◌∷◌, ◌++◌, append_assoc}
use mathlib.Core.Logic.{◌≢◌}
use Prim.Native.Nat.{ℕ, ◌+◌, ◌≤◌, ◌<◌}
use native.Mathlib.Nat.{le_refl}
use lib.ListN.{length, get_or}
use Rattle.std.specs.Prelude.{Option, Some, None, is_some}
use borrow.Author.Tests.{eq-eqb, ne_eqb}
use Rattle.specification.specs.Lists.{first, any_passes}
use Rattle.specification.specs.Commands.{Command, command, operand_count, commands, first_with, has}
use Rattle.lists.specs.Members.{all_cons, all_append}
use Rattle.layouts.specs.CommandsReadBack.{Without, PassesOver, first_with_past, has_past}
use Rattle.layouts.specs.CommandPlaces.{commands_from, command_at, place_after, commands_step, commands_end}
use Rattle.answer_reader.specs.FoundInBytes.{place_or_end, FoundAt}

-- the first command has the code
first_here : (code : ℕ) (c : Command) (cs : List Command) → c.code ≡ code → first_with code (c ∷ cs) ≡ c
unfolding first_with first
first_here code c cs e = rw (eq-eqb c.code code e, first) refl

-- ---- the loop

module _ (bytes : List ℕ) (code : ℕ) where
  pub record Searching (at : ℕ) : Type 0 where
    pub before : List Command
    pub cut : commands bytes ≡ before ++ commands_from bytes at
    pub others : Without code before

  pub searching_first : Searching 0
  searching_first = record { before = []; cut = refl; others = λ c i. elim i [ ] }

  module _ {at : ℕ} (w : Searching at) where
    pub searching_more : {k : ℕ} → at < length bytes → get_or bytes at 0 ≢ code → k ≡ operand_count (get_or bytes at 0) → Searching (at + (1 + k))
    searching_more {k} l h e = rw e (record {
      before = w.before ++ (command_at bytes at ∷ []);
      cut = w.cut ∙ ap (λ (cs : List Command). w.before ++ cs) (commands_step bytes at l)
          ∙ sym (append_assoc w.before (command_at bytes at ∷ []) (commands_from bytes (place_after bytes at)));
      others = all_append w.others (all_cons (ne_eqb (get_or bytes at 0) code h) (λ c i. elim i [ ]));
    })

    pub place_found : at < length bytes → get_or bytes at 0 ≡ code → FoundAt bytes code (Some at)
    place_found l e = record { before = w.before; cut = w.cut; others = w.others; here = (l, e) }

    pub code_missing : length bytes ≤ at → FoundAt bytes code None
    code_missing l = record {
      before = w.before;
      cut = w.cut ∙ ap (λ (cs : List Command). w.before ++ cs) (commands_end bytes at l ∙ sym (commands_end bytes (length bytes) (le_refl (length bytes))));
      others = w.others;
      here = tt;
    }

-- ---- what was found

module _ {bytes : List ℕ} {code : ℕ} {r : Option ℕ} (h : FoundAt bytes code r) {A : Type 0} (F : List Command → A) (past : PassesOver code F) where
  -- what is read off commands with the code is read from its place on
  from_place : F (commands bytes) ≡ F (commands_from bytes (place_or_end bytes r))
  from_place = ap F h.cut ∙ past h.before (commands_from bytes (place_or_end bytes r)) h.others

module _ {bytes : List ℕ} {code at : ℕ} (h : FoundAt bytes code (Some at)) where
  from_command : {A : Type 0} (F : List Command → A) → PassesOver code F
      → F (commands bytes) ≡ F (command_at bytes at ∷ commands_from bytes (place_after bytes at))
  from_command F past = from_place h F past ∙ ap F (commands_step bytes at h.here.0)

  pub first_found : first_with code (commands bytes) ≡ command_at bytes at
  first_found =
      from_command (first_with code) (first_with_past code)
      ∙ first_here code (command_at bytes at) (commands_from bytes (place_after bytes at)) h.here.1

  has_found : has code (commands bytes) ≡ true
  has_found = from_command (has code) (has_past code) ∙ (unfold has any_passes in rw (eq-eqb (get_or bytes at 0) code h.here.1) refl)

module _ {bytes : List ℕ} {code : ℕ} (h : FoundAt bytes code None) where
  from_end : {A : Type 0} (F : List Command → A) → PassesOver code F → F (commands bytes) ≡ F []
  from_end F past = from_place h F past ∙ ap F (commands_end bytes (length bytes) (le_refl (length bytes)))

  pub first_missing : first_with code (commands bytes) ≡ command code []
  first_missing = from_end (first_with code) (first_with_past code) ∙ (unfold first_with first in refl)

  has_missing : has code (commands bytes) ≡ false
  has_missing = from_end (has code) (has_past code) ∙ (unfold has any_passes in refl)

-- it is there if its place is found
pub has_by_place : (bytes : List ℕ) (code : ℕ) (r : Option ℕ) → FoundAt bytes code r → is_some r ≡ has code (commands bytes)
has_by_place bytes code (Some at) h = sym (has_found h)
has_by_place bytes code None h = sym (has_missing h)
