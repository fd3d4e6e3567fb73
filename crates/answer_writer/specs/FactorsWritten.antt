-- A part's one or two factors, written one after the other, g of each: a second if there is one.
-- Proves that each has room where both have, and that g of each is written then. Assumes nothing.
use Rattle.std.specs.Prelude.{◌≡◌, refl, ℕ, Option, Some, None}
use Rattle.std.proofs.Math.Path.{sym, ap}
use Rattle.std.proofs.Common.{◌∙◌}
use mathlib.Core.List.{List, [], ◌∷◌, ◌++◌, flat_map, append-nil}
use Rattle.specification.specs.Parts as parts
use Rattle.part_verdict.specs.declared.Factor.{Factor}
use Rattle.part_verdict.specs.AsPart.{as_factor, as_factors}
use Rattle.area.specs.declared.Cursor.{Cursor}
use Rattle.area.specs.Wrote.{Wrote, Room, wrote_more, wrote_as, room_as, room_first, room_next}
use Rattle.area.specs.Cursors.{Fits, Puts}

module _ (a : Factor) (second : Option Factor) where
  pub split_factors : {b : Factor} → second ≡ Some b → as_factors a second ≡ as_factor a ∷ as_factor b ∷ []
  split_factors e = ap (as_factors a) e

  pub other_factors : second ≡ None → as_factors a second ≡ as_factor a ∷ []
  other_factors e = ap (as_factors a) e

module _ (g : parts.Factor → List ℕ) (a : Factor) (second : Option Factor) where
  -- the first counts in any case
  first_and_rest : (rest : List ℕ) × (g (as_factor a) ++ rest ≡ flat_map g (as_factors a second))
  unfolding flat_map
  first_and_rest = go second
    where
      go : (s : Option Factor) → (rest : List ℕ) × (g (as_factor a) ++ rest ≡ flat_map g (as_factors a s))
      go None = ([], refl)
      go (Some b) = (flat_map g (as_factor b ∷ []), refl)

  pub first_room : {area : List ℕ} {at : ℕ} → Room area at (flat_map g (as_factors a second)) → Room area at (g (as_factor a))
  first_room r = let (rest, is) = first_and_rest in room_first _ rest (room_as is r)

  pub first_fits : {c : Cursor} → Fits c (flat_map g (as_factors a second)) → Fits c (g (as_factor a))
  first_fits r = record { room = first_room r.room }

  module _ {b : Factor} (e : second ≡ Some b) where
    both : g (as_factor a) ++ g (as_factor b) ≡ flat_map g (as_factors a second)
    unfolding flat_map
    both = sym (ap (flat_map g) (split_factors a second e) ∙ ap (λ (l : List ℕ). g (as_factor a) ++ l) (append-nil (g (as_factor b))))

    pub second_room : {old new : List ℕ} {at next : ℕ} → Room old at (flat_map g (as_factors a second)) → Wrote old new at (g (as_factor a)) next
        → Room new next (g (as_factor b))
    second_room r w = room_next (g (as_factor a)) (g (as_factor b)) (room_as both r) w

    pub two_written : {old new newer : List ℕ} {at next last : ℕ} → Wrote old new at (g (as_factor a)) next → Wrote new newer next (g (as_factor b)) last
        → Wrote old newer at (flat_map g (as_factors a second)) last
    two_written w u = wrote_as both (wrote_more w u)

    pub second_fits : {old new : Cursor} → Fits old (flat_map g (as_factors a second)) → Puts old new (g (as_factor a)) → Fits new (g (as_factor b))
    second_fits r w = record { room = second_room r.room w.wrote }

    pub two_put : {old new newer : Cursor} → Puts old new (g (as_factor a)) → Puts new newer (g (as_factor b))
        → Puts old newer (flat_map g (as_factors a second))
    two_put w u = record { wrote = two_written w.wrote u.wrote; same = u.same ∙ w.same; pointer = u.pointer ∙ w.pointer }

  pub one_written : second ≡ None → {old new : List ℕ} {at next : ℕ} → Wrote old new at (g (as_factor a)) next
      → Wrote old new at (flat_map g (as_factors a second)) next
  unfolding flat_map
  one_written e w = wrote_as (sym (ap (flat_map g) (other_factors a second e) ∙ append-nil (g (as_factor a)))) w

  pub one_put : second ≡ None → {old new : Cursor} → Puts old new (g (as_factor a)) → Puts old new (flat_map g (as_factors a second))
  one_put e w = record { wrote = one_written e w.wrote; same = w.same; pointer = w.pointer }
