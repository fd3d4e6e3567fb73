-- The table of operand counts.
-- Proves how many operands a byte's command has, that a byte which is no command has none, and that no command has more than 255. Assumes nothing.
use mathlib.Core.Path.{◌≡◌, ap, refl}
use mathlib.Core.Logic.{◌≢◌}
use Prim.Native.Nat.{ℕ, ◌≤◌}
use native.Mathlib.Omega.{arith}
use lib.Dec.{eqb, leb, eqb→eq}
use borrow.Author.Tests.{leb-true}
use Rattle.specification.specs.Lists.{all_pass, first}
use Rattle.specification.specs.Commands.{operand_counts, operand_count}
use Rattle.lists.specs.Tests.{passes}
use Rattle.lists.specs.Members.{All, all_cons}
use Rattle.lists.specs.AllAny.{all_member}
use Rattle.lists.specs.Firsts.{first_none, first_holds}
use Rattle.commands.specs.Codes.{code_of}
use Rattle.commands.specs.declared.Command.{Command}
use Rattle.commands.specs.declared.Command.TheVariants as command

-- how many operands a command has
abbrev pub operands_of : Command → ℕ
operands_of command.Prime = 1
operands_of command.Degree = 1
operands_of command.Coefficient = 2
operands_of command.Run = 0
operands_of command.WideCoefficient = 3
operands_of command.End = 0
operands_of command.Part = 3
operands_of command.Factor = 2
operands_of command.Totals = 3
operands_of command.RunLength = 2

pub counted : (c : Command) → operand_count (code_of c) ≡ operands_of c
unfolding operand_count first
counted command.Prime = refl
counted command.Degree = refl
counted command.Coefficient = refl
counted command.Run = refl
counted command.WideCoefficient = refl
counted command.End = refl
counted command.Part = refl
counted command.Factor = refl
counted command.Totals = refl
counted command.RunLength = refl

pub no_command : {byte : ℕ} → ((c : Command) → code_of c ≢ byte) → operand_count byte ≡ 0
unfolding operand_count
no_command {byte} none =
    ap (λ (row : ℕ × ℕ). row.1)
    (first_none (λ (row : ℕ × ℕ). eqb row.0 byte) (byte, 0) operand_counts (λ row i t. absurd (rows row i (eqb→eq row.0 byte t))))
  where
    rows : All (λ (row : ℕ × ℕ). row.0 ≢ byte) operand_counts
    rows =
        all_cons (none command.Prime) (all_cons (none command.Degree) (all_cons (none command.Coefficient) (all_cons (none command.Run)
        (all_cons (none command.WideCoefficient) (all_cons (none command.End) (all_cons (none command.Part) (all_cons (none command.Factor)
        (all_cons (none command.Totals) (all_cons (none command.RunLength) (λ row i. elim i [ ]))))))))))

pub count_low : (code : ℕ) → operand_count code ≤ 255
unfolding operand_count all_pass
count_low code =
    first_holds (λ (row : ℕ × ℕ). eqb row.0 code) (λ (row : ℕ × ℕ). row.1 ≤ 255) (code, 0) operand_counts (omega arith)
    (λ row i. leb-true row.1 255 (passes (leb row.1 255) (all_member (λ (row : ℕ × ℕ). leb row.1 255) operand_counts tt i)))
