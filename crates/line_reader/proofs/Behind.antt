-- The machine behind a term or a power, over the blanks to the next sign; and where it is stuck.
-- Proves how it steps at that sign, and when the place is number 15's. Assumes nothing.
use mathlib.Core.Path.{◌≡◌, refl, sym, ap, ◌∙◌}
use mathlib.Core.Bool.{false}
use mathlib.Core.Logic.{◌⊎◌, ◌≢◌, inl, inr, ⊎_elim}
use mathlib.Core.List.{List}
use Prim.Native.Nat.{ℕ, ◌≤◌}
use native.Mathlib.Omega.{arith}
use borrow.Author.Tests.{ne_eqb}
use lib.ListN.{length, get_or}
use Rattle.specification.specs.Grammar.{Tree, number, power, Blanks}
use Rattle.grammar.specs.Machine as machine
use Rattle.grammar.specs.Machine.{Context, bottom, bracket, State, wants, wants_exponent, stuck, is_digit, step, after, after_term, after_power, after_prime}
use Rattle.grammar.proofs.Runs as runs
use Rattle.grammar.specs.Runs.{ExpressionRun, alive}
use Rattle.grammar.proofs.Runs.{PrimeRead}
use Rattle.grammar.specs.Stopping.{Open, Stopped}
use Rattle.grammar.proofs.Stopping.{holding, open_state, open_held}
use Rattle.line_reader.specs.LineContracts.{Skipped}

-- ---- over blanks

-- the state N up to place `end`, and T from the first blank on
Past : List ℕ → ℕ → State → State → ℕ → Type 0
Past s end N T k = ((k ≡ end) × (after s k ≡ N)) ⊎ (after s k ≡ T)

past : {s : List ℕ} {end place : ℕ} {N T : State} → step N 32 ≡ T → step T 32 ≡ T → after s end ≡ N → Blanks s end place → Past s end N T place
unfolding Past
past {s} {end} {N = N} {T} f g e w =
    runs.over_blanks (Past s end N T) w (inl (refl, e)) (λ k a h. inr (⊎_elim (λ l. runs.moves a l.1 f) (λ r. runs.moves a r g) h))

-- a state that reads digits, N, steps as D does where no digit comes, and so does the state T behind its blanks
module _ {s : List ℕ} {end place : ℕ} (w : Skipped s end place) where
  past_digits : {N T : State} (D : ℕ → State) → step N 32 ≡ T → step T 32 ≡ T → ((b : ℕ) → is_digit b ≡ false → step N b ≡ D b) → ((b : ℕ) → step T b ≡ D b)
      → after s end ≡ N → is_digit (get_or s end 0) ≡ false → step (after s place) (get_or s place 0) ≡ D (get_or s place 0)
  unfolding Past
  past_digits D f g n t e h =
      ⊎_elim (λ l. ap (λ y. step y (get_or s place 0)) l.1 ∙ n (get_or s place 0) (ap (λ m. is_digit (get_or s m 0)) l.0 ∙ h))
      (λ r. ap (λ y. step y (get_or s place 0)) r ∙ t (get_or s place 0)) (past f g e w.blanks)

-- ---- the states behind a number, an exponent, a term and the prime

number_blank : (K : Context) (n : ℕ) → step (machine.number K n) 32 ≡ machine.term K (number n)
unfolding step is_digit after_term
number_blank K n = refl

term_still : (K : Context) (t : Tree) → step (machine.term K t) 32 ≡ machine.term K t
unfolding step after_term
term_still K t = refl

exponent_blank : (K : Context) (t : Tree) (n : ℕ) → step (machine.exponent K t n) 32 ≡ machine.powered K (power t n)
unfolding step is_digit after_power
exponent_blank K t n = refl

powered_still : (K : Context) (t : Tree) → step (machine.powered K t) 32 ≡ machine.powered K t
unfolding step after_power
powered_still K t = refl

prime_blank : (p : ℕ) → step (machine.prime p) 32 ≡ machine.primed p
unfolding step after_prime is_digit
prime_blank p = refl

primed_still : (p : ℕ) → step (machine.primed p) 32 ≡ machine.primed p
unfolding step after_prime
primed_still p = refl

number_step : (K : Context) (n b : ℕ) → is_digit b ≡ false → step (machine.number K n) b ≡ after_term K (number n) b
unfolding step
number_step K n b h = rw h

exponent_step : (K : Context) (t : Tree) (n b : ℕ) → is_digit b ≡ false → step (machine.exponent K t n) b ≡ after_power K (power t n) b
unfolding step
exponent_step K t n b h = rw h

prime_step : (p b : ℕ) → is_digit b ≡ false → step (machine.prime p) b ≡ after_prime p b
unfolding step
prime_step p b h = rw h

term_step : (K : Context) (t : Tree) (b : ℕ) → step (machine.term K t) b ≡ after_term K t b
unfolding step
term_step K t b = refl

powered_step : (K : Context) (t : Tree) (b : ℕ) → step (machine.powered K t) b ≡ after_power K t b
unfolding step
powered_step K t b = refl

primed_step : (p b : ℕ) → step (machine.primed p) b ≡ after_prime p b
unfolding step
primed_step p b = refl

module _ {s : List ℕ} {end place : ℕ} (w : Skipped s end place) where
  abbrev Steps : (ℕ → State) → Type 0
  Steps D = step (after s place) (get_or s place 0) ≡ D (get_or s place 0)

  pub number_follows : {K : Context} {n : ℕ} → after s end ≡ machine.number K n → is_digit (get_or s end 0) ≡ false → Steps (after_term K (number n))
  number_follows {K} {n} = past_digits w (after_term K (number n)) (number_blank K n) (term_still K (number n)) (number_step K n) (term_step K (number n))

  pub exponent_follows : {K : Context} {t : Tree} {n : ℕ} → after s end ≡ machine.exponent K t n → is_digit (get_or s end 0) ≡ false
      → Steps (after_power K (power t n))
  exponent_follows {K} {t} {n} =
      past_digits w (after_power K (power t n)) (exponent_blank K t n) (powered_still K (power t n)) (exponent_step K t n) (powered_step K (power t n))

  pub prime_follows : {p : ℕ} → after s end ≡ machine.prime p → is_digit (get_or s end 0) ≡ false → Steps (after_prime p)
  prime_follows {p} = past_digits w (after_prime p) (prime_blank p) (primed_still p) (prime_step p) (primed_step p)

  pub term_follows : {K : Context} {t : Tree} → after s end ≡ machine.term K t → Steps (after_term K t)
  term_follows {K} {t} e = ap (λ y. step y (get_or s place 0)) (runs.still w.blanks (term_still K t) e) ∙ term_step K t (get_or s place 0)

-- ---- stuck

-- no line ends in an open bracket
open_bracket : {K : Context} {t : Tree} {σ : State} → ExpressionRun (bracket K) t σ → Open σ
open_bracket {K} {t} r = open_held r.ended (λ p u e. other p u (sym r.is ∙ e))
  where
    other : (p : ℕ) (u : Tree) → ◌≡◌ {A = machine.Held} (bracket K, t) (bottom p, u) → ⊥
    other p u e =
        let g : bracket K ≡ bottom p = ap (λ (h : machine.Held). h.0) e in
        let z : ◌≡◌ {A = ℕ} 0 1 = cc in
        omega arith

prime_alive : {p : ℕ} {σ : State} → PrimeRead p σ → (alive σ ≡ 1) × (holding σ ≡ 0)
prime_alive runs.prime_digits = (refl, refl)
prime_alive runs.prime_done = (refl, refl)

-- a state in which no line ends, and from which the byte at k leads nowhere
pub stopped_open : {s : List ℕ} {k : ℕ} {σ : State} → k ≤ length s → after s k ≡ σ → alive σ ≡ 1 → holding σ ≡ 0 → step σ (get_or s k 0) ≡ stuck → Stopped s k
stopped_open {s} {k} l e a o f = record {
  within = l;
  living = ap alive e ∙ a;
  dead = runs.after_suc s k ∙ ap (λ y. step y (get_or s k 0)) e ∙ f;
  at_end = λ _. inl (open_state (ap holding e ∙ o));
}

-- the prime has been read, and the byte at k is no colon
pub stopped_prime : {s : List ℕ} {k p : ℕ} → k ≤ length s → PrimeRead p (after s k) → step (after s k) (get_or s k 0) ≡ stuck → Stopped s k
stopped_prime {s} {k} l r f =
    record { within = l; living = (prime_alive r).0; dead = runs.after_suc s k ∙ f; at_end = λ _. inl (open_state (prime_alive r).1) }

-- an expression has been read in a bracket, and the byte at k does not close it
pub stopped_bracket : {s : List ℕ} {k : ℕ} {K : Context} {t : Tree} → k ≤ length s → ExpressionRun (bracket K) t (after s k)
    → step (after s k) (get_or s k 0) ≡ stuck → Stopped s k
stopped_bracket {s} {k} l r f =
    record { within = l; living = runs.ended_alive r.ended; dead = runs.after_suc s k ∙ f; at_end = λ _. inl (open_bracket r) }

-- ---- bytes with which nothing goes on

pub no_exponent : (K : Context) (t : Tree) (b : ℕ) → is_digit b ≡ false → b ≢ 32 → step (wants_exponent K t) b ≡ stuck
unfolding step
no_exponent K t b f h = rw (f, ne_eqb b 32 h)

pub no_term : (K : Context) (b : ℕ) → is_digit b ≡ false → b ≢ 32 → b ≢ 120 → b ≢ 40 → step (wants K) b ≡ stuck
unfolding step
no_term K b f g h i = rw (f, ne_eqb b 32 g, ne_eqb b 120 h, ne_eqb b 40 i)

pub no_prime : (b : ℕ) → is_digit b ≡ false → step machine.start b ≡ stuck
unfolding step
no_prime b f = rw f

pub no_colon : (p b : ℕ) → b ≢ 32 → b ≢ 58 → after_prime p b ≡ stuck
unfolding after_prime
no_colon p b g h = rw (ne_eqb b 32 g, ne_eqb b 58 h)
