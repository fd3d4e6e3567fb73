-- The commands from a place of the bytes on: `commands_from`, with the command that begins there, `command_at`, and the place after it.
-- Proves that bytes are walked command by command, cut ones included, what a command with all its operands says of their length, and where a factor's
-- operands are. Assumes nothing.
use Rattle.std.specs.Prelude.{◌≡◌, List, [], ◌∷◌, ℕ, suc, ◌+◌, ◌-◌, min, ◌≤◌, ◌<◌, length, get_or, take, drop}
use Rattle.std.proofs.Math.Path.{refl}
use Rattle.std.proofs.Common.{◌∙◌, ap, arith, length-take, length-drop, drop_of_length-le, drop-cons, drop-drop, get_or-take, get_or-drop}
use Rattle.std.proofs.Math.Dec.{lit<}
use Rattle.specification.specs.Lists.{first}
use Rattle.specification.specs.Commands.{Command, command, operand, operand_count, commands_after, commands}
use Rattle.layouts.specs.CommandsReadBack.{WellFormed, commands_cut, past_operands}

abbrev pub commands_from : List ℕ → ℕ → List Command
commands_from bytes at = commands (drop at bytes)

-- the operands of the command at a place; bytes may end before them
abbrev pub operands_at : List ℕ → ℕ → List ℕ
operands_at bytes at = take (operand_count (get_or bytes at 0)) (drop (at + 1) bytes)

abbrev pub command_at : List ℕ → ℕ → Command
command_at bytes at = command (get_or bytes at 0) (operands_at bytes at)

abbrev pub place_after : List ℕ → ℕ → ℕ
place_after bytes at = at + (1 + operand_count (get_or bytes at 0))

-- ---- commands, one by one

module _ (bytes : List ℕ) (at : ℕ) where
  pub commands_step : at < length bytes → commands_from bytes at ≡ command_at bytes at ∷ commands_from bytes (place_after bytes at)
  commands_step l =
      let b : ℕ = get_or bytes at 0 in
      let more : List ℕ = drop (at + 1) bytes in
      ap commands (drop-cons bytes at 0 l ∙ ap (λ (k : ℕ). b ∷ drop k bytes) (let e : suc at ≡ at + 1 = omega arith in e))
      ∙ commands_cut b more
      ∙ ap (λ (cs : List Command). command_at bytes at ∷ cs) (past_operands (operand_count b) more
      ∙ ap commands (drop-drop (operand_count b) (at + 1) bytes
      ∙ ap (λ (k : ℕ). drop k bytes) (let e : at + 1 + operand_count b ≡ place_after bytes at = omega arith in e)))

  pub commands_end : length bytes ≤ at → commands_from bytes at ≡ []
  commands_end l = ap commands (drop_of_length-le bytes l) ∙ (unfold commands_after in refl)

  -- its operands are all there
  count : length (operands_at bytes at) ≡ min (operand_count (get_or bytes at 0)) (length bytes - (at + 1))
  count =
      length-take (operand_count (get_or bytes at 0)) (drop (at + 1) bytes)
      ∙ ap (min (operand_count (get_or bytes at 0))) (length-drop (at + 1) bytes)

  pub operands_few : length (operands_at bytes at) ≤ operand_count (get_or bytes at 0)
  operands_few = omega (arith, count)

  pub operands_there : at < length bytes → WellFormed (command_at bytes at) → place_after bytes at ≤ length bytes
  operands_there l w = omega (arith, w, count)

  pub well_formed_there : place_after bytes at ≤ length bytes → WellFormed (command_at bytes at)
  well_formed_there l = omega (arith, count)

  -- an operand among them
  pub operand_at : (code j : ℕ) → get_or bytes at 0 ≡ code → j < operand_count code → operand (command_at bytes at) j ≡ get_or bytes (at + (1 + j)) 0
  operand_at code j e l =
      get_or-take (operand_count (get_or bytes at 0)) (drop (at + 1) bytes) j 0 (rw e l) ∙ get_or-drop (at + 1) bytes j 0
      ∙ ap (λ (k : ℕ). get_or bytes k 0) (let s : at + 1 + j ≡ at + (1 + j) = omega arith in s)

-- ---- the command of a factor: 0x12, its degree and its times

module _ (bytes : List ℕ) (at : ℕ) (code : get_or bytes at 0 ≡ 0x12) where
  pub factor_degree : operand (command_at bytes at) 0 ≡ get_or bytes (at + 1) 0
  factor_degree = operand_at bytes at 0x12 0 code (unfold operand_count first in lit< tt)

  pub factor_times : operand (command_at bytes at) 1 ≡ get_or bytes (at + 2) 0
  factor_times = operand_at bytes at 0x12 1 code (unfold operand_count first in lit< tt)

  pub factor_after : place_after bytes at ≡ at + 3
  unfolding operand_count first
  factor_after = rw code refl
