-- Commands: a code with its operands, written as bytes and cut from bytes again.
-- "Commands are one byte; each operand is one byte": bytes are cut by the number of operands, for an operand may look like a command.
use Rattle.std.specs.Prelude.{ℕ, zero, suc, ◌+◌, ◌*◌, ◌/◌, ◌%◌, Bool, cond, get_or, take, eqb}
use mathlib.Core.List.{List, [], ◌∷◌, flat_map}
use Rattle.specification.specs.Lists.{any_passes, first}

pub record Command : Type 0 where
  pub code : ℕ
  pub operands : List ℕ

-- a command, in the order of its bytes
abbrev pub command : ℕ → List ℕ → Command
command code operands = record { code = code; operands = operands }

-- an operand, counted from 0
abbrev pub operand : Command → ℕ → ℕ
operand c i = get_or c.operands i 0

-- ---- two bytes

-- a number as a "two-byte operand, low byte first"
abbrev pub two_bytes : ℕ → List ℕ
two_bytes n = n % 256 ∷ n / 256 ∷ []

-- the number that two such operands give
abbrev pub from_two_bytes : List ℕ → ℕ
from_two_bytes operands = get_or operands 0 0 + 256 * get_or operands 1 0

-- ---- written

-- a command's bytes
abbrev pub command_bytes : Command → List ℕ
command_bytes c = c.code ∷ c.operands

-- the bytes of commands, in order
unfoldable pub bytes_of : List Command → List ℕ
bytes_of cs = flat_map command_bytes cs

-- a command without operands, if it is asked for
abbrev pub flag_commands : ℕ → Bool → List Command
flag_commands code asked = cond asked (command code [] ∷ []) []

-- ---- cut from bytes

-- the table of commands: each with the number of its operands
abbrev pub operand_counts : List (ℕ × ℕ)
operand_counts = (0x01, 1) ∷ (0x02, 1) ∷ (0x03, 2) ∷ (0x04, 0) ∷ (0x05, 3) ∷ (0x0F, 0) ∷ (0x11, 3) ∷ (0x12, 2) ∷ (0x13, 3) ∷ (0x14, 2) ∷ []

-- how many operands a command has; a byte that is no command has none
unfoldable pub operand_count : ℕ → ℕ
operand_count code = (first (λ (row : ℕ × ℕ). eqb row.0 code) (code, 0) operand_counts).1

-- the commands of bytes that begin with k operands
unfoldable pub commands_after : ℕ → List ℕ → List Command
commands_after k [] = []
commands_after zero (b ∷ bytes) = command b (take (operand_count b) bytes) ∷ commands_after (operand_count b) bytes
commands_after (suc k) (b ∷ bytes) = commands_after k bytes

-- the commands of bytes, in order
abbrev pub commands : List ℕ → List Command
commands bytes = commands_after 0 bytes

-- the first command with a code; one without operands where there is none
unfoldable pub first_with : ℕ → List Command → Command
first_with code cs = first (λ (c : Command). eqb c.code code) (command code []) cs

-- there is a command with a code
unfoldable pub has : ℕ → List Command → Bool
has code cs = any_passes (λ (c : Command). eqb c.code code) cs
