-- What a writer asks and promises of the cursor that it is lent: `Fits c bytes`, the bytes have room from the cursor's place on; `Puts old new bytes`, they
-- are written there, and the cursor is past them, in the area that it had. Proves how one writing follows another. Assumes nothing.
use Rattle.std.specs.Prelude.{◌≡◌, refl, List, [], ◌∷◌, ◌++◌, ℕ, ◌≤◌, ◌<◌, length}
use Rattle.std.proofs.Common.{◌∙◌, subst}
use Rattle.area.specs.declared.Cursor.{Cursor}
use Rattle.area.specs.Wrote.{Wrote, Room, wrote_none, wrote_more, room_as, room_first, room_next, room_byte}

pub record Fits (c : Cursor) (bytes : List ℕ) : Type 0 where
  pub room : Room c.area.now c.at bytes

-- the last two say that the cursor still has the area that it had
pub record Puts (old new : Cursor) (bytes : List ℕ) : Type 0 where
  pub wrote : Wrote old.area.now new.area.now old.at bytes new.at
  pub same : new.area.ghost_name ≡ old.area.ghost_name
  pub pointer : new.area.ref_ptr ≡ old.area.ref_ptr

pub puts_none : (c : Cursor) → c.at ≤ length c.area.now → Puts c c []
puts_none c l = record { wrote = wrote_none c.area.now c.at l; same = refl; pointer = refl }

-- the bytes are known under another name
pub puts_as : {old new : Cursor} {bytes named : List ℕ} → bytes ≡ named → Puts old new bytes → Puts old new named
puts_as {old} {new} e w = subst (Puts old new) e w

module _ {old new : Cursor} {bytes : List ℕ} (w : Puts old new bytes) where
  pub puts_more : {newer : Cursor} {more : List ℕ} → Puts new newer more → Puts old newer (bytes ++ more)
  puts_more v = record { wrote = wrote_more w.wrote v.wrote; same = v.same ∙ w.same; pointer = v.pointer ∙ w.pointer }

-- ---- room

pub fits_as : {c : Cursor} {bytes named : List ℕ} → bytes ≡ named → Fits c named → Fits c bytes
fits_as e r = record { room = room_as e r.room }

module _ {old : Cursor} (bytes more : List ℕ) (r : Fits old (bytes ++ more)) where
  pub fits_first : Fits old bytes
  fits_first = record { room = room_first bytes more r.room }

  pub fits_next : {new : Cursor} → Puts old new bytes → Fits new more
  fits_next w = record { room = room_next bytes more r.room w.wrote }

-- one byte that comes last
pub fits_byte : (bytes : List ℕ) (b : ℕ) {old new : Cursor} → Fits old (bytes ++ (b ∷ [])) → Puts old new bytes → new.at < length new.area.now
fits_byte bytes b r w = room_byte bytes b r.room w.wrote
