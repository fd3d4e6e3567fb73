-- A copy's bytes, item by item: the bytes of a pair, between the head and the end.
-- Proves the layout as an equation, so that the proofs about copies leave the definitions shut. Assumes nothing.
use Rattle.std.specs.Prelude.{◌≡◌, ℕ}
use Rattle.std.proofs.Common.{◌∙◌, ap}
use mathlib.Core.List.{List, [], ◌∷◌, ◌++◌, map, flat_map}
use Rattle.specification.specs.Commands.{command, command_bytes, bytes_of}
use Rattle.specification.specs.Copy.{Pair, Figures, pair_command, copy_commands, copy_of}
use Rattle.lists.specs.FlatMaps.{flat_map_map}
use Rattle.layouts.specs.CommandBytes.{bytes_of_append}

abbrev pub pair_bytes : Pair → List ℕ
pair_bytes a = 0x12 ∷ a.degree ∷ a.times ∷ []

pub copy_of_is : (g : Figures) → copy_of g ≡ (0x01 ∷ g.prime ∷ 0x02 ∷ g.degree ∷ []) ++ (flat_map pair_bytes g.pairs ++ (0x0F ∷ []))
unfolding copy_of copy_commands bytes_of flat_map
copy_of_is g =
    ap (λ (bytes : List ℕ). 0x01 ∷ g.prime ∷ 0x02 ∷ g.degree ∷ bytes)
    (bytes_of_append (map pair_command g.pairs) (command 0x0F [] ∷ [])
    ∙ ap (λ (bytes : List ℕ). bytes ++ (0x0F ∷ [])) (flat_map_map command_bytes pair_command g.pairs))
