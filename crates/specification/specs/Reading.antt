-- Readers: what bytes say from a place on, or the number and the place of the first fault; and the numbers 2 and 3, which any command may meet.
-- A sheet's reader is made of them by `do`: "the first place at fault ends the reading". "Places count from 0."
use Rattle.std.specs.Prelude.{ℕ, suc, Bool, true, false, cond, List, [], ◌∷◌, eqb, ltb}
use Rattle.specification.specs.Commands.{from_two_bytes}

-- a value, with the place after its bytes and the bytes from there on; or the fault that ends the reading
pub data Read (A : Type 0) : Type 0 where
  got : (a : A) (after : ℕ) (rest : List ℕ) → Read A
  stop : (number place : ℕ) → Read A

-- a reader begins at a place, with the bytes from there on
abbrev pub Reader : Type 0 → Type 0
Reader A = ℕ → List ℕ → Read A

module _ {A : Type 0} where
  -- a value without bytes
  unfoldable pub done : A → Reader A
  done a at bytes = got a at bytes

  -- with what was read, go on
  unfoldable pub go_on : {B : Type 0} → Read A → (A → Reader B) → Read B
  go_on (got a after rest) f = f a after rest
  go_on (stop k place) f = stop k place

  -- one reader, then another: what `do` joins lines by
  unfoldable pub ◌>>=◌ : {B : Type 0} → Reader A → (A → Reader B) → Reader B
  ◌>>=◌ r f = λ at bytes. go_on (r at bytes) f

  abbrev pub ◌>>◌ : {B : Type 0} → Reader A → Reader B → Reader B
  ◌>>◌ r q = ◌>>=◌ r (λ a. q)

  -- a value that must be good; k, at the place where it begins, if it is not
  unfoldable pub judged : ℕ → (A → Bool) → Reader A → Reader A
  judged k good r = λ at bytes. go_on (r at bytes) λ a after rest. cond (good a) (got a after rest) (stop k at)

  -- one reader where a command comes next, another elsewhere; looking at the byte takes nothing
  unfoldable pub on_next : ℕ → Reader A → Reader A → Reader A
  on_next code r other at [] = other at []
  on_next code r other at (b ∷ bytes) = cond (eqb b code) (r at (b ∷ bytes)) (other at (b ∷ bytes))

-- 2: "The sheet ends where a command or operand is due; the place is the sheet's length"
unfoldable pub byte : Reader ℕ
byte at [] = stop 2 at
byte at (b ∷ bytes) = got b (suc at) bytes

-- 3: "A byte at a command's place is not a command allowed there"
unfoldable pub command_byte : ℕ → Reader ℕ
command_byte code = judged 3 (λ b. eqb b code) byte

-- what a byte holds; the lists of numbers that are read may hold more
abbrev pub is_byte : ℕ → Bool
is_byte b = ltb b 256

-- a number of two bytes, "low byte first". Among bytes it is read whole and never at fault; a low number that is no byte is k, or two lists would give one
-- number
unfoldable pub two_byte_number : ℕ → Reader ℕ
two_byte_number k = do
  low ← judged k is_byte byte
  high ← byte
  done (from_two_bytes (low ∷ high ∷ []))

-- a command with its operand
unfoldable pub with_operand : {A : Type 0} → ℕ → Reader A → Reader A
with_operand code operand = do
  command_byte code
  operand

-- whether a command without operands stands here; k, at its place, where it is not allowed
unfoldable pub flag : (code k : ℕ) (allowed : Bool) → Reader Bool
flag code k allowed = on_next code (do
  judged k (λ c. allowed) (command_byte code)
  done true) (done false)
