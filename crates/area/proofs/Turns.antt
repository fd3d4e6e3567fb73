-- A loop that writes, `Turns bytes piece n whole`: of n turns, `bytes i` is what i have written and `piece i` what the next one adds; all is `whole`.
-- `Written` is the loop's invariant, and `Putting` that of a loop that writes through a cursor. Proves that they hold before the first turn, that the next
-- piece has room, that they hold after one turn more, and that they end with all; and what the turns are where a loop writes something for each entry of a
-- list. Assumes nothing.
use mathlib.Core.Path.{◌≡◌, refl, sym, ◌∙◌, ap, subst}
use mathlib.Core.List.{List, [], ◌++◌, flat_map}
use Prim.Native.Nat.{ℕ, zero, suc, ◌+◌, ◌≤◌, ◌<◌, ◌-◌, zero-le}
use native.Mathlib.Numerals.{add-one}
use native.Mathlib.Omega.{arith}
use lib.ListN.{length, get_or, take}
use lib.Seq.{take-length}
use Rattle.lists.specs.FlatMaps.{flat_map_next}
use Rattle.area.specs.declared.Cursor.{Cursor}
use Rattle.area.specs.Wrote.{Wrote, Room, wrote_none, wrote_more, wrote_as, room_as, room_first, room_next}
use Rattle.area.specs.Cursors.{Fits, Puts}

pub record Turns (bytes piece : ℕ → List ℕ) (n : ℕ) (whole : List ℕ) : Type 0 where
  pub none : bytes 0 ≡ []
  pub next : (i : ℕ) → i < n → bytes (suc i) ≡ bytes i ++ piece i
  pub all : bytes n ≡ whole

-- i turns of n have written their bytes from the place `at` on
pub record Written (bytes : ℕ → List ℕ) (n : ℕ) (old new : List ℕ) (at after i : ℕ) : Type 0 where
  pub wrote : Wrote old new at (bytes i) after
  pub within : i ≤ n

module _ {bytes piece : ℕ → List ℕ} {n : ℕ} {whole : List ℕ} (turns : Turns bytes piece n whole) {old : List ℕ} {at : ℕ} where
  room_some : (k i : ℕ) → i + k ≡ n → Room old at whole → Room old at (bytes i)
  room_some zero i e r = subst (λ (j : ℕ). Room old at (bytes j)) (let q : n ≡ i = omega arith in q) (room_as turns.all r)
  room_some (suc k) i e r = room_first (bytes i) (piece i) (subst (Room old at) (turns.next i (omega arith)) (room_some k (suc i) (omega arith) r))

  -- there is room for all bytes
  pub written_none : Room old at whole → Written bytes n old old at at 0
  written_none r = record { wrote = wrote_as (sym turns.none) (wrote_none old at (omega (arith, r.fits))); within = zero-le }

  module _ {new : List ℕ} {after i : ℕ} (w : Written bytes n old new at after i) where
    pub written_room : i < n → Room old at whole → Room new after (piece i)
    written_room l r = room_next (bytes i) (piece i) (subst (Room old at) (turns.next i l) (room_some (n - suc i) (suc i) (omega arith) r)) w.wrote

    pub written_more : i < n → {newer : List ℕ} {last : ℕ} → Wrote new newer after (piece i) last → Written bytes n old newer at last (i + 1)
    written_more l v = record { wrote = wrote_as (sym (ap bytes (add-one i) ∙ turns.next i l)) (wrote_more w.wrote v); within = omega arith }

    pub written_done : n ≤ i → Wrote old new at whole after
    written_done l = wrote_as (ap bytes (let q : i ≡ n = omega (arith, w.within) in q) ∙ turns.all) w.wrote

-- ---- through a cursor

-- i turns of n have written their bytes from the cursor's first place on
pub record Putting (bytes : ℕ → List ℕ) (n : ℕ) (old new : Cursor) (i : ℕ) : Type 0 where
  pub puts : Puts old new (bytes i)
  pub within : i ≤ n

module _ {bytes piece : ℕ → List ℕ} {n : ℕ} {whole : List ℕ} (turns : Turns bytes piece n whole) {old : Cursor} where
  -- there is room for all bytes
  pub putting_none : Fits old whole → Putting bytes n old old 0
  putting_none r = record { puts = record { wrote = (written_none turns r.room).wrote; same = refl; pointer = refl }; within = zero-le }

  module _ {new : Cursor} {i : ℕ} (w : Putting bytes n old new i) where
    written : Written bytes n old.area.now new.area.now old.at new.at i
    written = record { wrote = w.puts.wrote; within = w.within }

    pub putting_room : i < n → Fits old whole → Fits new (piece i)
    putting_room l r = record { room = written_room turns written l r.room }

    pub putting_more : i < n → {newer : Cursor} → Puts new newer (piece i) → Putting bytes n old newer (i + 1)
    putting_more l v = let u = written_more turns written l v.wrote in record {
      puts = record { wrote = u.wrote; same = v.same ∙ w.puts.same; pointer = v.pointer ∙ w.puts.pointer };
      within = u.within;
    }

    pub putting_done : n ≤ i → Puts old new whole
    putting_done l = record { wrote = written_done turns written l; same = w.puts.same; pointer = w.puts.pointer }

-- ---- the entries of a list, g of each; d is what is read past the list's end

module _ {A : Type 0} (g : A → List ℕ) (d : A) (xs : List A) where
  abbrev pub EachTurn : Type 0
  EachTurn = Turns (λ i. flat_map g (take i xs)) (λ i. g (get_or xs i d)) (length xs) (flat_map g xs)

  pub each_turn : EachTurn
  unfolding flat_map
  each_turn = record { none = refl; next = λ i u. flat_map_next g d xs i u; all = ap (flat_map g) (take-length xs) }
