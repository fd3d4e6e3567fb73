-- Polynomials without square factors: `SquareFree a`, no square of an irreducible polynomial divides a.
-- Proves that their divisors have none. Assumes nothing.
use Rattle.algebra.specs.Ring.{CommRing}
use Rattle.algebra.specs.Divisibility.{◌∣◌, divides_trans}
use Rattle.algebra.specs.PolynomialRing.{Poly, PolyRing, ◌·◌}
use Rattle.factorisation.specs.Irreducible.{Irreducible}

module _ {R : Type 0} {𝓡 : CommRing R} where
  -- no G² divides a
  abbrev pub SquareFree : Poly 𝓡 → Type 0
  SquareFree a = (G : Poly 𝓡) → Irreducible G → ¬ (◌∣◌ (PolyRing 𝓡) (G · G) a)

  pub squarefree_divisor : {a b : Poly 𝓡} → ◌∣◌ (PolyRing 𝓡) b a → SquareFree a → SquareFree b
  squarefree_divisor e free G I d = free G I (divides_trans (PolyRing 𝓡) d e)
