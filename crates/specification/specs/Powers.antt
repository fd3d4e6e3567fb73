-- Items 1 to 3: the powers of irreducibles that make up the bar of f, and the primary part over each.
-- Both are looked for among all polynomials in the order of item 3. `Items1to3` says, with no search, what they are.
use Rattle.std.specs.Prelude.{ℕ, zero, suc, true, false}
use mathlib.Core.List.{List, [], ◌∷◌, ◌++◌, map, flat_map}
use Rattle.specification.specs.Lists.{first, below}
use Rattle.specification.specs.Polynomials.{Poly, degree, reduce, pow, lift, quotient, divides}
use Rattle.specification.specs.Limits.{◌²}

-- ---- all polynomials modulo p: "coefficients .. are compared from the highest power down, smaller first"

-- those of k coefficients: the constant changes first, the highest power last
unfoldable pub polynomials : ℕ → ℕ → List Poly
polynomials p zero = [] ∷ []
polynomials p (suc k) = flat_map (λ (f : Poly). map (λ (a : ℕ). a ∷ f) (below p)) (polynomials p k)

-- item 3: the monic ones of degree d
unfoldable pub monics : ℕ → ℕ → List Poly
monics p d = map (λ (f : Poly). f ++ (1 ∷ [])) (polynomials p d)

-- item 3: the monic ones of degree 1 to d, "lower first"
unfoldable pub monics_to : ℕ → ℕ → List Poly
monics_to p zero = []
monics_to p (suc d) = monics_to p d ++ monics p (suc d)

-- ---- items 1 and 3

-- the highest power of the monic g, up to the k-th, that divides f modulo n
unfoldable pub highest : ℕ → Poly → Poly → ℕ → ℕ
highest n g f zero = 0
highest n g f (suc k) = elim (divides n (pow n g (suc k)) f) [ true ↦ suc k | false ↦ highest n g f k ]

-- item 1: G to the m
pub record Power : Type 0 where
  pub base : Poly
  pub exponent : ℕ

-- a power, unless it is the zeroth
unfoldable pub listed : Poly → ℕ → List Power
listed G zero = []
listed G (suc m) = record { base = G; exponent = suc m } ∷ []

-- the powers of the candidates that make up f, each as high as it divides what those before it leave
-- (so one that divides is irreducible: its divisors of lower degree came before it, and none is left)
unfoldable pub powers_among : ℕ → List Poly → Poly → List Power
powers_among p [] f = []
powers_among p (G ∷ Gs) f =
    let m : ℕ = highest p G f (degree f) in
    listed G m ++ powers_among p Gs (quotient p (pow p G m) f)

-- items 1 and 3: "The bar of f is a product of powers of different monic irreducible G modulo p"
unfoldable pub powers : ℕ → Poly → List Power
powers p f = powers_among p (monics_to p (degree f)) (reduce p f)

-- ---- item 2

-- the monic polynomials modulo p² whose bar is the monic q
unfoldable pub lifts : ℕ → Poly → List Poly
lifts p q = map (lift p q) (polynomials p (degree q))

-- item 2: the "monic primary part modulo p² whose bar is G to the m": the one among these that divides f
unfoldable pub primary : ℕ → Poly → Power → Poly
primary p f P = first (λ (q : Poly). divides (p ²) q f) f (lifts p (pow p P.base P.exponent))
