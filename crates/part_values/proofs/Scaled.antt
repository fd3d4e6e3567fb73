-- Item 8: u = w/m modulo p, by an inverse of what m leaves modulo p.
-- Proves that such an inverse is the specification's inverse of m, and that w times it is u. Assumes nothing.
use mathlib.Core.Path.{◌≡◌, sym, ◌∙◌, ap}
use mathlib.Core.List.{List}
use mathlib.Core.Logic.{◌≢◌}
use Prim.Native.Nat.{ℕ, ◌<◌, ◌%◌, ◌*◌}
use native.Mathlib.Nat.{mul_comm}
use native.Mathlib.Omega.{arith}
use Rattle.specification.specs.Polynomials.{scale}
use Rattle.specification.specs.Inverses.{inverse}
use Rattle.specification.specs.Parts as parts
use Rattle.algebra.specs.Numbers.{mul_mod_mod}
use Rattle.algebra.specs.TakenPrimes.{is_prime_lem}
use Rattle.algebra.specs.Residues.{residue}
use Rattle.algebra.specs.PolynomialRing.{◌·◌, constant}
use Rattle.algebra.specs.Degree.{Below, below_constant_mul}
use Rattle.algebra.specs.CoefficientLists.{poly, poly_scale}
use Rattle.arrays.specs.Represents.{Represents}
use Rattle.arrays.specs.Listed.{listed}
use Rattle.items.specs.PartValues.{values}
use Rattle.inverses.specs.Unique.{inverse_is}
use Rattle.part_values.specs.Given as of
use Rattle.part_values.specs.Given.{Given, Chosen}
use Rattle.part_values.specs.ArrayValues.{AreM1AndW, IsU}

scaled_below : (p c : ℕ) (w : List ℕ) {s : ℕ} → 1 < p → Below s (poly p w) → Below s (poly p (scale p c w))
scaled_below p c w large h = rw (poly_scale p (omega arith) c w) (below_constant_mul (residue p c) h)

-- c is an inverse of what m leaves modulo p
module _ (p m c : ℕ) (large : 1 < p) (below : c < p) (unit : m % p * c % p ≡ 1) where
  -- so it is one of m
  inverse_of : inverse p m ≡ c
  inverse_of = inverse_is p m c below (sym (mul_mod_mod c m p) ∙ ap (λ (k : ℕ). k % p) (mul_comm c (m % p)) ∙ unit)

  -- w/m modulo p
  pub divided_by : (w : List ℕ) {r : List ℕ} → Represents p r (constant (residue p c) · poly p w)
      → Represents p r (poly p (scale p (inverse p m) w))
  divided_by w h = record {
    reduced = h.reduced;
    is = h.is ∙ ap (λ (a : ℕ). constant (residue p a) · poly p w) (sym inverse_of) ∙ sym (poly_scale p (omega arith) (inverse p m) w);
  }

-- item 8: "u = w/m modulo p"
pub is_u : {p : ℕ} {base g : List ℕ} {d m : ℕ} {part : List ℕ} {k : ℕ} {v r : List ℕ} (given : Given p base d m part) (chosen : Chosen p base d g)
    → AreM1AndW p base g d m part k v → m % p ≢ 0 → Below d (poly p v) → Represents p r (poly p (scale p (inverse p m) v))
    → IsU p base g d m part r
is_u {p} {base} {g} {d} {m} {part} {v = v} given chosen W unit low is = record {
  is = record { reduced = is.reduced; is = is.is ∙ same };
  holds = (values (is_prime_lem given.prime) given.over chosen.lift).u_holds unit;
  below = rw is.is (scaled_below p (inverse p m) v (of.large given) low);
}
  where
    same : poly p (scale p (inverse p m) v) ≡ poly p (parts.u p (listed d base) (listed d g) m (listed (m * d) part))
    same = unfold parts.u in
        poly_scale p (omega (arith, of.large given)) (inverse p m) v ∙ ap (λ a. constant (residue p (inverse p m)) · a) W.is.is
        ∙ sym (poly_scale p (omega (arith, of.large given)) (inverse p m) (parts.w p (listed d base) (listed d g) m (listed (m * d) part)))
