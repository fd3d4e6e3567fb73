-- What a program read and wrote where nothing failed: `AllRead`, `Written`. Assumes nothing.
use Rattle.std.specs.Prelude.{◌≡◌, ◌<◌, ◌≤◌, List, ℕ, take, length, Option}
use Rattle.std.specs.Io.KnownBytes.{Appends, Consumes, IsAtEnd}
use denote.Ref.{Bor, MutBor}

-- the first bytes of the buffer, so many, are those that the reader gave, and all that it had unless the buffer is full
pub record AllRead (old new : Option (List ℕ)) (buf : List ℕ) (count : ℕ) : Type 0 where
  pub fits : count ≤ length buf
  pub bytes : Consumes old new (take count buf)
  pub end : count < length buf → IsAtEnd new

-- a call at the bytes gave a count, and so many bytes of the area that it left are those that the writer got
pub record Written (call : MutBor (List ℕ) → Bor (List ℕ) → ℕ → MutBor (List ℕ) → Type 0) (bytes : List ℕ) (old new : Option (List ℕ)) : Type 0 where
  pub area : MutBor (List ℕ)
  pub read : Bor (List ℕ)
  pub count : ℕ
  pub left : MutBor (List ℕ)
  pub called : call area read count left
  pub bytes_are : read.now ≡ bytes
  pub written : Appends old new (take count left.now)
