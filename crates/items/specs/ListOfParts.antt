-- The list of some parts, written out: the copies of each factor, part by part.
-- Proves its clauses as equations, so that proofs leave the definitions shut. Assumes nothing.
use Rattle.std.specs.Prelude.{◌≡◌, refl, replicate}
use mathlib.Core.List.{List, ◌∷◌, ◌++◌, flat_map}
use Rattle.specification.specs.Parts.{Factor, Part}
use Rattle.specification.specs.Totals.{copies, members, list_of}

pub copies_cons : (q : Factor) (qs : List Factor) → flat_map copies (q ∷ qs) ≡ replicate q.times q.poly ++ flat_map copies qs
unfolding flat_map
copies_cons q qs = refl

pub list_of_cons : (P : Part) (Ps : List Part) → list_of (P ∷ Ps) ≡ flat_map copies P.splitting.factors ++ list_of Ps
unfolding list_of members flat_map
list_of_cons P Ps = refl
