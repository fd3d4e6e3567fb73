-- A list of primary pairwise coprime polynomials, each with its power.
-- Proves that the powers have different bases. Assumes nothing.
use Rattle.std.specs.Prelude.{◌≡◌, refl}
use Rattle.std.proofs.Common.{sym, ◌∙◌, ap}
use mathlib.Core.HLevel.{¬_prop}
use mathlib.Core.List.Pairwise
use mathlib.Core.List.{List, [], ◌∷◌, map, Pairwise}
use mathlib.Core.List.Memᴰ.{head as here}
use Prim.Native.Nat.{ℕ}
use Rattle.specification.specs.Polynomials as spec
use Rattle.specification.specs.Powers.{Power}
use Rattle.specification.specs.Items1to3 as items1to3
use Rattle.lists.specs.Members.{All, all_tail}
use Rattle.items.specs.PowersSame.{DifferentBases}
use Rattle.items.specs.PartsSame.{first_factor}

module _ (p : ℕ) where
  -- powers of one base are not coprime
  coprime_differ : {a b : spec.Poly} (P : items1to3.Primary p a) (Q : items1to3.Primary p b) → items1to3.Coprime p a b → DifferentBases P.power Q.power
  coprime_differ P Q c e =
      let (x, s) = first_factor p P.power.base P.power.exponent P.positive in
      let (y, t) = first_factor p P.power.base Q.power.exponent Q.positive in
      c P.power.base x y P.irreducible.monic (s ∙ sym P.bar)
      (t ∙ ap (λ G. spec.pow p G Q.power.exponent) e ∙ sym Q.bar)

  abbrev pub WithPower : Type 0
  WithPower = (q : spec.Poly) × items1to3.Primary p q

  abbrev pub part : WithPower → spec.Poly
  part x = x.0

  abbrev pub power : WithPower → Power
  power x = x.1.power

  pub with_powers : (L : List spec.Poly) → All (items1to3.Primary p) L → (xs : List WithPower) × (map part xs ≡ L)
  with_powers [] h = ([], refl)
  with_powers (q ∷ L) h = let (xs, e) = with_powers L (all_tail h) in ((q, h q (here refl)) ∷ xs, ap (λ M. q ∷ M) e)

  pub bases_differ : (xs : List WithPower) → Pairwise (items1to3.Coprime p) (map part xs) → Pairwise DifferentBases (map power xs)
  bases_differ xs c =
      Pairwise.map {S = DifferentBases} (λ P Q. ¬_prop) power (λ x y. coprime_differ x.1 y.1) {l = xs}
      (Pairwise.of_map' {S = items1to3.Coprime p} part {l = xs} c)
