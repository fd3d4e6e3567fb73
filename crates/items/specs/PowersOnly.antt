-- Items 1 and 3: lists of powers of irreducibles in the order of item 3.
-- Proves that their bases are different, and that only one such list has a given product. Assumes nothing.
use Rattle.std.specs.Prelude.{◌≡◌, ◌≢◌, ℕ}
use Rattle.std.proofs.Common.{sym, subst}
use mathlib.Core.HLevel.{¬_prop}
use mathlib.Core.List.{List, [], ◌∷◌, Pairwise}
use Rattle.specification.specs.Polynomials as spec
use Rattle.specification.specs.Powers.{Power}
use Rattle.specification.specs.Items1to3 as items1to3
use Rattle.specification.specs.Longest as claimed
use Rattle.algebra.specs.Fields.{Prime}
use Rattle.algebra.specs.CoefficientLists.{poly}
use Rattle.lists.specs.InOrder.{StrictOrder, InOrder, in_order_by, in_order_unique, from_in_order}
use Rattle.items.specs.ItemOrder.{item_3}
use Rattle.items.specs.PowersSame.{DifferentBases, same_base, same_powers}

-- item 3's order of the bases
abbrev BaseBefore : Power → Power → Type 0
BaseBefore P Q = items1to3.Before P.base Q.base

in_order : (Ps : List Power) → items1to3.InOrder Ps → InOrder BaseBefore Ps
in_order [] h = tt
in_order (P ∷ Ps) (first, h) = (first, in_order Ps h)

base_order : StrictOrder BaseBefore
base_order = record {
  irreflexive = λ {a = P} s. item_3.irreflexive {a = P.base} s;
  transitive = λ {a = P} {b = Q} {c = R} s t. item_3.transitive {a = P.base} {b = Q.base} {c = R.base} s t;
}

before_differs : {G H : spec.Poly} → items1to3.Before G H → G ≢ H
before_differs {G} b e = item_3.irreflexive {a = G} (subst (items1to3.Before G) (sym e) b)

pub in_order_different : (Ps : List Power) → items1to3.InOrder Ps → Pairwise DifferentBases Ps
in_order_different Ps h =
    from_in_order DifferentBases (λ P Q. ¬_prop) Ps
    (in_order_by BaseBefore DifferentBases Ps (λ P Q i j b. before_differs b) (in_order Ps h))

-- the order forgotten
pub any_order : {p : ℕ} {f : spec.Poly} {Ps : List Power} → items1to3.PowersOf p f Ps → items1to3.PowersInAnyOrder p f Ps
any_order {Ps = Ps} h = record {
  irreducible = h.irreducible;
  positive = h.positive;
  different = in_order_different Ps h.in_order;
  multiplies = h.multiplies;
}

module _ (p : ℕ) (prime : Prime p) where
  pub different_bases : {G H : spec.Poly} → claimed.Monic p G → claimed.Monic p H → items1to3.Before G H → poly p G ≢ poly p H
  different_bases m n b e = before_differs b (same_base p prime m n e)

  pub powers_only_lem : {f : spec.Poly} (Ps Qs : List Power) → items1to3.PowersOf p f Ps → items1to3.PowersOf p f Qs → Ps ≡ Qs
  powers_only_lem Ps Qs h k =
      in_order_unique base_order Ps Qs (in_order Ps h.in_order) (in_order Qs k.in_order)
      (same_powers p prime (any_order h) (any_order k)) (same_powers p prime (any_order k) (any_order h))
