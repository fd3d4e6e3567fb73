-- What is read at the places of a list, how many it has, and what a loop that counts down has shown of those that it passed. (A loop that counts up has
-- `below_none` and `below_more` of the kit's borrow.Author.Count.) Assumes nothing.
use Rattle.std.specs.Prelude.{◌≡◌, refl, List, [], ◌∷◌, ◌++◌, map, ℕ, zero, suc, ◌-◌, ◌≤◌, length, get_or, replicate}
use Rattle.std.proofs.Math.Decide.{ℕ_discrete}
use Rattle.std.proofs.Common.{arith}
use Rattle.std.proofs.lemmas.List.{length-map}
use Rattle.std.proofs.Math.ListN.{get_or-eq_default}

module _ {A : Type 0} (d : A) where
  -- past a list's end d is read
  pub from_end : (l : List A) (i : ℕ) → length l ≤ i → (k : ℕ) → i ≤ k → get_or l k d ≡ d
  from_end l i h k u = get_or-eq_default l d (omega arith)

  -- and d at every place of a list of it
  pub read_replicate : (m k : ℕ) → get_or (replicate m d) k d ≡ d
  read_replicate zero k = refl
  read_replicate (suc m) zero = refl
  read_replicate (suc m) (suc k) = read_replicate m k

  -- so such a list at the end changes nothing
  pub read_padded : (l : List A) (m k : ℕ) → get_or (l ++ replicate m d) k d ≡ get_or l k d
  read_padded [] m k = read_replicate m k
  read_padded (a ∷ l) m zero = refl
  read_padded (a ∷ l) m (suc k) = read_padded l m k

-- an array has as many places as what the kit reads of it; f is what it reads of an entry
pub has_room : {A B : Type 0} (f : A → B) (l : List A) {n k : ℕ} → length (map f l) ≡ k → n ≤ k → n ≤ length l
has_room f l long u = omega (arith, long, length-map l f)

-- what holds from i on and at i - 1 holds from i - 1 on
pub from_more : (P : ℕ → Type 0) (i : ℕ) → ((k : ℕ) → i ≤ k → P k) → P (i - 1) → (k : ℕ) → i - 1 ≤ k → P k
from_more P i all here k l = at (ℕ_discrete k (i - 1))
  where
    at : Dec (k ≡ i - 1) → P k
    at (yes e) = rw e here
    at (no e) = all k (omega (arith, e))
