-- The code of each command, and which bytes are codes: `code_of`, `GivenBy`. Assumes nothing.
use Rattle.std.specs.Prelude.{ℕ, ◌≡◌, ◌≢◌, Result, MatchResult}
use Rattle.commands.specs.declared.Command.{Command}
use Rattle.commands.specs.declared.Command.TheVariants as command
use Rattle.commands.specs.declared.NoCommand.{NoCommand}

abbrev pub code_of : Command → ℕ
code_of command.Prime = 0x01
code_of command.Degree = 0x02
code_of command.Coefficient = 0x03
code_of command.Run = 0x04
code_of command.WideCoefficient = 0x05
code_of command.End = 0x0F
code_of command.Part = 0x11
code_of command.Factor = 0x12
code_of command.Totals = 0x13
code_of command.RunLength = 0x14

-- the command with this code, or an error where no command has it
abbrev pub GivenBy : ℕ → Result Command NoCommand → Type 0
GivenBy byte given = MatchResult given (λ c. code_of c ≡ byte) (λ e. (c : Command) → code_of c ≢ byte)
