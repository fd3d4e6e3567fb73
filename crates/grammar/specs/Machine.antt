-- A machine that reads a line byte by byte and builds its tree: a device of the proofs, and no part of the specification. `after s k` is its state after the
-- first k bytes; a state holds the tree so far, and in a context what waits for it: sums, products and open brackets. Assumes nothing.
use Rattle.std.specs.Prelude.{Bool, cond, ◌&&◌, List, ℕ, zero, suc, ◌+◌, ◌-◌, ◌*◌, leb, eqb, get_or}
use Rattle.specification.specs.Grammar as grammar
use Rattle.specification.specs.Grammar.{Tree}

-- what waits for the term that is due
pub data Context : Type 0 where
  bottom : ℕ → Context
  bracket : Context → Context
  sum : Context → Tree → Context
  difference : Context → Tree → Context
  product : Context → Tree → Context

pub data State : Type 0 where
  start : State
  prime : ℕ → State
  primed : ℕ → State
  wants : Context → State
  number : Context → ℕ → State
  term : Context → Tree → State
  wants_exponent : Context → Tree → State
  exponent : Context → Tree → ℕ → State
  powered : Context → Tree → State
  stuck : State

-- no product waits; neither a product nor a sum does
abbrev pub NoProduct : Context → Type 0
NoProduct (bottom p) = Unit
NoProduct (bracket K) = Unit
NoProduct (sum K a) = Unit
NoProduct (difference K a) = Unit
NoProduct (product K a) = ⊥

abbrev pub Fresh : Context → Type 0
Fresh (bottom p) = Unit
Fresh (bracket K) = Unit
Fresh (sum K a) = ⊥
Fresh (difference K a) = ⊥
Fresh (product K a) = ⊥

-- a context with what has come so far
abbrev pub Held : Type 0
Held = Context × Tree

-- the products that wait are done
unfoldable pub multiplied : Context → Tree → Held
multiplied (product K a) t = (K, grammar.times a t)
multiplied (bottom p) t = (bottom p, t)
multiplied (bracket K) t = (bracket K, t)
multiplied (sum K a) t = (sum K a, t)
multiplied (difference K a) t = (difference K a, t)

unfoldable pub added : Context → Tree → Held
added (sum K a) t = (K, grammar.plus a t)
added (difference K a) t = (K, grammar.minus a t)
added (bottom p) t = (bottom p, t)
added (bracket K) t = (bracket K, t)
added (product K a) t = (product K a, t)

-- and then the sums
unfoldable pub summed : Context → Tree → Held
summed K t = added (multiplied K t).0 (multiplied K t).1

-- a bracket is closed
unfoldable pub closed : Held → State
closed (bottom p, t) = stuck
closed (bracket K, t) = term K t
closed (sum K a, t) = stuck
closed (difference K a, t) = stuck
closed (product K a, t) = stuck

unfoldable pub is_digit : ℕ → Bool
is_digit b = leb 48 b && leb b 57

unfoldable pub after_prime : ℕ → ℕ → State
after_prime p b = cond (eqb b 32) (primed p) (cond (eqb b 58) (wants (bottom p)) stuck)

unfoldable pub after_power : Context → Tree → ℕ → State
after_power K t b =
    cond (eqb b 32) (powered K t)
    (cond (eqb b 42) (wants (product (multiplied K t).0 (multiplied K t).1))
    (cond (eqb b 43) (wants (sum (summed K t).0 (summed K t).1))
    (cond (eqb b 45) (wants (difference (summed K t).0 (summed K t).1)) (cond (eqb b 41) (closed (summed K t)) stuck))))

unfoldable pub after_term : Context → Tree → ℕ → State
after_term K t b = cond (eqb b 94) (wants_exponent K t) (cond (eqb b 32) (term K t) (after_power K t b))

unfoldable pub step : State → ℕ → State
step start b = cond (is_digit b) (prime (b - 48)) stuck
step (prime p) b = cond (is_digit b) (prime (p * 10 + (b - 48))) (after_prime p b)
step (primed p) b = after_prime p b
step (wants K) b =
    cond (is_digit b) (number K (b - 48))
    (cond (eqb b 32) (wants K) (cond (eqb b 120) (term K grammar.variable) (cond (eqb b 40) (wants (bracket K)) stuck)))
step (number K n) b = cond (is_digit b) (number K (n * 10 + (b - 48))) (after_term K (grammar.number n) b)
step (term K t) b = after_term K t b
step (wants_exponent K t) b = cond (is_digit b) (exponent K t (b - 48)) (cond (eqb b 32) (wants_exponent K t) stuck)
step (exponent K t n) b = cond (is_digit b) (exponent K t (n * 10 + (b - 48))) (after_power K (grammar.power t n) b)
step (powered K t) b = after_power K t b
step stuck b = stuck

unfoldable pub after : List ℕ → ℕ → State
after s zero = start
after s (suc k) = step (after s k) (get_or s k 0)
