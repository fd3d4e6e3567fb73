-- What a byte string is, a line or none with a place for number 15, computed by the machine: `read_line`; and when it is so, `Right`. Assumes nothing.
use Rattle.std.specs.Prelude.{true, false, cond, List, ℕ, zero, suc, ◌-◌, eqb, length, get_or}
use Rattle.specification.specs.Grammar as grammar
use Rattle.specification.specs.Grammar.{Tree, Line}
use Rattle.specification.specs.TypedLines.{NoLine}
use Rattle.grammar.specs.Machine.{bottom, bracket, sum, difference, product, Held, summed}
use Rattle.grammar.specs.Machine.{State, start, prime, primed, wants, number, term, wants_exponent, exponent, powered, stuck, after}
use Rattle.grammar.specs.Runs.{alive}

-- ---- what is found

pub data Found : Type 0 where
  is_line : ℕ → Tree → Found
  stops_at : ℕ → Found

abbrev pub Right : List ℕ → Found → Type 0
Right s (is_line p t) = Line s p t
Right s (stops_at k) = NoLine s k

-- behind the last byte, at place n: a whole expression is held, or something waits
unfoldable pub whole : ℕ → Held → Found
whole n (bottom p, t) = is_line p t
whole n (bracket K, t) = stops_at n
whole n (sum K a, t) = stops_at n
whole n (difference K a, t) = stops_at n
whole n (product K a, t) = stops_at n

unfoldable pub ending : ℕ → State → Found
ending n start = stops_at n
ending n (prime p) = stops_at n
ending n (primed p) = stops_at n
ending n (wants K) = stops_at n
ending n (number K m) = whole n (summed K (grammar.number m))
ending n (term K t) = whole n (summed K t)
ending n (wants_exponent K t) = stops_at n
ending n (exponent K t e) = whole n (summed K (grammar.power t e))
ending n (powered K t) = whole n (summed K t)
ending n stuck = stops_at n

-- from place k on, with n bytes left
unfoldable pub read_from : List ℕ → ℕ → ℕ → Found
read_from s k zero = cond (eqb (get_or s (k - 1) 0) 32) (stops_at k) (ending k (after s k))
read_from s k (suc n) = elim (eqb (alive (after s (suc k))) 0) [ true ↦ stops_at k | false ↦ read_from s (suc k) n ]

unfoldable pub read_line : List ℕ → Found
read_line s = read_from s 0 (length s)
