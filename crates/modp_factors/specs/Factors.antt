-- The powers of irreducible polynomials that multiply to Q modulo p, in arrays: `PowerHeld`, one of them; `FactorsOf p Q r`, r holds them all, in the order of
-- item 3. Assumes nothing.
use Rattle.std.specs.Prelude.{◌≡◌, List, [], map, ℕ, ◌≤◌, length}
use Rattle.specification.specs.Items1to3.{Before}
use Rattle.lists.specs.Members.{All}
use Rattle.lists.specs.InOrder.{InOrder}
use Rattle.algebra.specs.Divisibility.{pow, product}
use Rattle.algebra.specs.CoefficientLists.{ℤ[x]/, poly, 𝓩[x]/}
use Rattle.arrays.specs.Listed.{listed}
use Rattle.arrays.specs.Held.{MonicArray}
use Rattle.factorisation.specs.Irreducible.{Irreducible}
use Rattle.modp_factors.specs.declared.Power.{Power}
use Rattle.few.specs.declared.Few.{Few}
use Rattle.few.specs.Few.{items}

-- the powers found, in the struct that holds them
abbrev pub Powers : Type 0
Powers = Few Power 32

abbrev pub held_powers : Powers → List Power
held_powers r = items r

-- the base, to its exponent
abbrev pub power_poly : (p : ℕ) → Power → ℤ[x]/ p
power_poly p x = pow (𝓩[x]/ p) (poly p x.base) x.exponent

-- item 3: the base of x comes before that of y
abbrev pub PowerBefore : Power → Power → Type 0
PowerBefore x y = Before (listed x.degree x.base) (listed y.degree y.base)

-- "powers of different monic irreducible G modulo p"
pub record PowerHeld (p : ℕ) (x : Power) : Type 0 where
  pub array : MonicArray p x.degree x.base
  pub irreducible : Irreducible (poly p x.base)
  pub positive : 1 ≤ x.exponent

pub record FactorsOf (p : ℕ) (Q : ℤ[x]/ p) (r : Powers) : Type 0 where
  pub few : length (held_powers r) ≤ 32
  pub held : All (PowerHeld p) (held_powers r)
  pub in_order : InOrder PowerBefore (held_powers r)
  pub multiplies : product (𝓩[x]/ p) (map (power_poly p) (held_powers r)) ≡ Q

-- what is read past an array's end
abbrev pub no_power : Power
no_power = record { base = []; degree = 0; exponent = 0 }
