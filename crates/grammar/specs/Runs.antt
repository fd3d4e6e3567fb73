-- What the machine holds once the grammar has read a piece: a term or a power, `Ended`, with the products and the sums before it, `ProductRun` and
-- `ExpressionRun`; and where it is stuck, `alive`. Assumes nothing.
use Rattle.std.specs.Prelude.{◌≡◌, ℕ}
use Rattle.specification.specs.Grammar as grammar
use Rattle.specification.specs.Grammar.{Tree}
use Rattle.grammar.specs.Machine.{Context, multiplied, summed}
use Rattle.grammar.specs.Machine.{State, start, prime, primed, wants, number, term, wants_exponent, exponent, powered, stuck}

-- ---- the states in which a term or a power has been read

pub data EndedTerm : Context → Tree → State → Type 0 where
  term_number : {K : Context} {n : ℕ} → EndedTerm K (grammar.number n) (number K n)
  term_done : {K : Context} {t : Tree} → EndedTerm K t (term K t)

pub data Ended : Context → Tree → State → Type 0 where
  ended_term : {K : Context} {t : Tree} {σ : State} → EndedTerm K t σ → Ended K t σ
  ended_exponent : {K : Context} {t : Tree} {n : ℕ} → Ended K (grammar.power t n) (exponent K t n)
  ended_powered : {K : Context} {t : Tree} → Ended K t (powered K t)

-- a product in the context K has been read as t: the machine holds a power with the product before it
pub record ProductRun (K : Context) (t : Tree) (σ : State) : Type 0 where
  pub context : Context
  pub tree : Tree
  pub ended : Ended context tree σ
  pub is : multiplied context tree ≡ (K, t)

pub record ExpressionRun (K : Context) (t : Tree) (σ : State) : Type 0 where
  pub context : Context
  pub tree : Tree
  pub ended : Ended context tree σ
  pub is : summed context tree ≡ (K, t)

-- 0 where the machine is stuck
abbrev pub alive : State → ℕ
alive start = 1
alive (prime p) = 1
alive (primed p) = 1
alive (wants K) = 1
alive (number K n) = 1
alive (term K t) = 1
alive (wants_exponent K t) = 1
alive (exponent K t n) = 1
alive (powered K t) = 1
alive stuck = 0
