-- Bytes written into a lent area: `Wrote old new at bytes after` says that they stand in the area from a place on, that the rest keeps its
-- values, and which place comes after. `Room` is what a writer asks for. Proves how one writing follows another. Assumes nothing.
use Rattle.std.specs.Prelude.{◌≡◌, List, [], ◌∷◌, ◌++◌, ℕ, ◌+◌, ◌≤◌, ◌<◌, length, take, drop, set}
use Rattle.std.proofs.Common.{sym, ◌∙◌, ap, ap₂, subst, append_assoc, append-nil, arith, add-zero, length-append, length-drop, take-append-drop, take_at, drop-drop, length-take-le}
use mathlib.Core.List.Memᴰ
use Rattle.std.proofs.Math.Seq.{drop-append-add}
use Rattle.std.proofs.lemmas.List.Edits.{sets-eq}
use Rattle.lists.specs.Members.{All}
use Rattle.layouts.specs.CommandBytes.{Byte}

pub record Wrote (old new : List ℕ) (at : ℕ) (bytes : List ℕ) (after : ℕ) : Type 0 where
  pub area : new ≡ take at old ++ bytes ++ drop (at + length bytes) old
  pub place : after ≡ at + length bytes
  pub fits : after ≤ length old

-- the bytes have room in the area from a place on, and each is one byte
pub record Room (area : List ℕ) (at : ℕ) (bytes : List ℕ) : Type 0 where
  pub fits : at + length bytes ≤ length area
  pub low : All Byte bytes

-- ---- writing nothing, a byte, and more

pub wrote_none : (area : List ℕ) (at : ℕ) → at ≤ length area → Wrote area area at [] at
wrote_none area at l = record {
  area = sym (ap₂ ◌++◌ (append-nil (take at area)) (ap (λ (k : ℕ). drop k area) (add-zero at)) ∙ take-append-drop at area);
  place = sym (add-zero at);
  fits = l;
}

pub wrote_one : (area : List ℕ) (at b : ℕ) → at < length area → Wrote area (set area at b) at (b ∷ []) (at + 1)
wrote_one area at b l = record { area = sets-eq (b ∷ []) area at (omega arith); place = omega arith; fits = omega arith }

module _ {old new : List ℕ} {at : ℕ} {bytes : List ℕ} {after : ℕ} (w : Wrote old new at bytes after) where
  -- the bytes up to the place after
  length_written : length (take at old ++ bytes) ≡ after
  length_written =
      omega (arith, length-append (take at old) bytes, length-take-le at old (omega (arith, w.place, w.fits)), w.place)

  -- the area keeps its length
  pub length_wrote : length new ≡ length old
  length_wrote =
      omega (
        arith,
        ap length w.area,
        length-append (take at old ++ bytes) (drop (at + length bytes) old),
        length_written,
        length-drop (at + length bytes) old,
        w.place,
        w.fits,
      )

  pub wrote_more : {newer more : List ℕ} {last : ℕ} → Wrote new newer after more last → Wrote old newer at (bytes ++ more) last
  wrote_more {newer} {more} {last} v = record {
    area = v.area ∙ ap₂ (λ (a b : List ℕ). a ++ more ++ b) first second ∙ ap (λ (l : List ℕ). l ++ drop (at + length (bytes ++ more)) old)
        (append_assoc (take at old) bytes more);
    place = omega (arith, v.place, w.place, length-append bytes more);
    fits = omega (arith, v.fits, length_wrote);
  }
    where
      first : take after new ≡ take at old ++ bytes
      first = ap (take after) w.area ∙ take_at (take at old ++ bytes) (drop (at + length bytes) old) after length_written

      second : drop (after + length more) new ≡ drop (at + length (bytes ++ more)) old
      second =
          ap₂ (λ (k : ℕ) (l : List ℕ). drop (k + length more) l) (sym length_written) w.area
          ∙ drop-append-add (take at old ++ bytes) (drop (at + length bytes) old) (length more)
          ∙ drop-drop (length more) (at + length bytes) old
          ∙ ap (λ (k : ℕ). drop k old) (let e : at + length bytes + length more ≡ at + length (bytes ++ more) = omega (arith, length-append bytes more) in e)

-- the bytes are known under another name
pub wrote_as : {old new : List ℕ} {at : ℕ} {bytes named : List ℕ} {after : ℕ} → bytes ≡ named → Wrote old new at bytes after → Wrote old new at named after
wrote_as {old} {new} {at} {after = after} e w = subst (λ (l : List ℕ). Wrote old new at l after) e w

-- "Answer bytes past that count keep their entry values"
pub wrote_from_start : {old new : List ℕ} {bytes : List ℕ} {after : ℕ} → Wrote old new 0 bytes after
    → (after ≡ length bytes) × (new ≡ bytes ++ drop (length bytes) old)
wrote_from_start {old} {new} {bytes} w = (
  omega (arith, w.place),
  w.area ∙ ap (λ (k : ℕ). bytes ++ drop k old) (let e : 0 + length bytes ≡ length bytes = omega arith in e),
)

pub from_start_wrote : {old new : List ℕ} {bytes : List ℕ} {after : ℕ} → after ≡ length bytes → new ≡ bytes ++ drop (length bytes) old
    → length bytes ≤ length old → Wrote old new 0 bytes after
from_start_wrote {old} {new} {bytes} e a l = record {
  area = a ∙ ap (λ (k : ℕ). bytes ++ drop k old) (let s : length bytes ≡ 0 + length bytes = omega arith in s);
  place = omega (arith, e);
  fits = omega (arith, e);
}

-- ---- room

pub room_as : {area : List ℕ} {at : ℕ} {bytes named : List ℕ} → bytes ≡ named → Room area at named → Room area at bytes
room_as {area} {at} e r = subst (Room area at) (sym e) r

module _ {area : List ℕ} {at : ℕ} (bytes more : List ℕ) (r : Room area at (bytes ++ more)) where
  pub room_first : Room area at bytes
  room_first = record { fits = omega (arith, r.fits, length-append bytes more); low = λ b i. r.low b (Memᴰ.append_left more i) }

  pub room_next : {new : List ℕ} {after : ℕ} → Wrote area new at bytes after → Room new after more
  room_next w = record {
    fits = omega (arith, r.fits, length-append bytes more, w.place, length_wrote w);
    low = λ b i. r.low b (Memᴰ.append_right bytes i);
  }

-- one byte that comes last
pub room_byte : (bytes : List ℕ) (b : ℕ) {area new : List ℕ} {at after : ℕ} → Room area at (bytes ++ (b ∷ [])) → Wrote area new at bytes after
    → after < length new
room_byte bytes b r w = omega (arith, (room_next bytes (b ∷ []) r w).fits)
