-- Polynomials as lists of coefficients, constant first: over the numbers, and modulo n with each coefficient below n.
-- The list of a monic polynomial ends in its 1, so it has degree + 1 entries. Any other list may end in zeros.
use Rattle.std.specs.Prelude.{ℕ, zero, suc, ◌+◌, ◌-◌, ◌*◌, ◌%◌, Bool, List, [], ◌∷◌, ◌++◌, map, length, get_or, take, replicate, eqb}
use Rattle.specification.specs.Lists.{all_pass}
use Rattle.specification.specs.Limits.{◌²}

-- coefficients, "constant first"
abbrev pub Poly : Type 0
Poly = List ℕ

-- the degree, where the last coefficient is not 0
abbrev pub degree : Poly → ℕ
degree f = length f - 1

-- the coefficient at the degree
abbrev pub leading : Poly → ℕ
leading f = get_or f (degree f) 0

-- the coefficients "below the top"
abbrev pub lower : Poly → Poly
lower f = take (degree f) f

-- x to the power k: "leading coefficient 1, the rest 0"
abbrev pub monomial : ℕ → Poly
monomial k = replicate k 0 ++ (1 ∷ [])

-- every coefficient is 0
unfoldable pub is_zero : Poly → Bool
is_zero f = all_pass (λ (a : ℕ). eqb a 0) f

-- ---- over the numbers

-- f + g
unfoldable pub plus : Poly → Poly → Poly
plus [] g = g
plus (a ∷ f) [] = a ∷ f
plus (a ∷ f) (b ∷ g) = (a + b) ∷ plus f g

-- c times f
unfoldable pub multiple : ℕ → Poly → Poly
multiple c f = map (λ (a : ℕ). c * a) f

-- x times f; the empty list stays empty
unfoldable pub shift : Poly → Poly
shift [] = []
shift (a ∷ f) = 0 ∷ a ∷ f

-- f times g
unfoldable pub times : Poly → Poly → Poly
times [] g = []
times (a ∷ f) g = plus (multiple a g) (shift (times f g))

-- ---- modulo n

-- every coefficient modulo n: "a bar means reduction modulo p"
unfoldable pub reduce : ℕ → Poly → Poly
reduce n f = map (λ (a : ℕ). a % n) f

-- f + g
unfoldable pub add : ℕ → Poly → Poly → Poly
add n f g = reduce n (plus f g)

-- c times f
unfoldable pub scale : ℕ → ℕ → Poly → Poly
scale n c f = reduce n (multiple c f)

-- f - g; n - 1 stands for minus one
unfoldable pub sub : ℕ → Poly → Poly → Poly
sub n f g = add n f (scale n (n - 1) g)

-- f times g
unfoldable pub mul : ℕ → Poly → Poly → Poly
mul n f g = reduce n (times f g)

-- f to the power k
unfoldable pub pow : ℕ → Poly → ℕ → Poly
pow n f zero = 1 ∷ []
pow n f (suc k) = mul n f (pow n f k)

-- the product of a list
unfoldable pub product : ℕ → List Poly → Poly
product n [] = 1 ∷ []
product n (f ∷ fs) = mul n f (product n fs)

-- q + p·t modulo p²: it has the bar of q
unfoldable pub lift : ℕ → Poly → Poly → Poly
lift p q t = add (p ²) q (scale (p ²) p t)

-- ---- division by a monic polynomial g, modulo n

-- s less c times g, where c is the coefficient of s at the degree of g: what is left below that degree
unfoldable pub without_top : ℕ → Poly → Poly → Poly
without_top n g s = take (degree g) (sub n s (scale n (get_or s (degree g) 0) g))

-- "the one remainder that is zero or of lower degree": where f leaves r, a + x·f leaves what a + x·r does
unfoldable pub remainder : ℕ → Poly → Poly → Poly
remainder n g [] = replicate (degree g) 0
remainder n g (a ∷ f) = without_top n g (a ∷ remainder n g f)

-- the coefficients c of all these steps: the quotient, then a zero for each degree of g
unfoldable pub quotients : ℕ → Poly → Poly → Poly
quotients n g [] = []
quotients n g (a ∷ f) = get_or (a ∷ remainder n g f) (degree g) 0 ∷ quotients n g f

-- "the one quotient"
unfoldable pub quotient : ℕ → Poly → Poly → Poly
quotient n g f = take (length f - degree g) (quotients n g f)

-- g divides f
unfoldable pub divides : ℕ → Poly → Poly → Bool
divides n g f = is_zero (remainder n g f)
