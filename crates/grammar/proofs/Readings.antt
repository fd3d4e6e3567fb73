-- Every byte string is a line or has a place for number 15.
-- Proves that what `read_line` finds is so (`read_line_right`), the only reading, and the only place. Assumes nothing.
use Rattle.std.specs.Prelude.{◌≡◌, ◌⊎◌, Bool, true, false, cond, List, [], ◌∷◌, ℕ, zero, suc, ◌+◌, ◌-◌, ◌<◌, eqb, length, get_or}
use Rattle.std.proofs.Math.Path.{refl}
use Rattle.std.proofs.Common.{sym, ap, subst, ◌∙◌, inl, inr, le_refl, arith, eqb-true}
use Rattle.std.proofs.lemmas.Bool.{eqb-false}
use Rattle.std.proofs.Math.ListN.{get_or-eq_default}
use Rattle.specification.specs.Grammar.{Tree, At, Line}
use Rattle.specification.specs.TypedLines.{NoLine}
use Rattle.specification.specs.TypedClaims.{OneReading, LineOrPlace}
use Rattle.grammar.specs.Machine.{Context, bottom, bracket, sum, difference, product, Held, summed}
use Rattle.grammar.specs.Machine.{State, start, prime, primed, wants, number, term, wants_exponent, exponent, powered, stuck}
use Rattle.grammar.specs.Machine.{is_digit, after_prime, after_power, after_term, step, after}
use Rattle.grammar.specs.Runs.{Ended, ended_term, ended_exponent, ended_powered, term_number, term_done, alive}
use Rattle.grammar.specs.Stopping.{Open}
use Rattle.grammar.specs.Readings.{Found, is_line, stops_at, Right, whole, ending, read_from, read_line}
use Rattle.grammar.proofs.Runs.{after_none, after_suc, line_once}
use Rattle.grammar.proofs.Standing.{line_held}
use Rattle.grammar.proofs.Stopping.{holding, open_state, open_held, stopped_is, alive_or, dead_stuck, stops_once}

-- ---- at the line's end

-- past the last byte every state is stuck
step_zero : (σ : State) → step σ 0 ≡ stuck
unfolding step is_digit after_prime after_power after_term
step_zero start = refl
step_zero (prime p) = refl
step_zero (primed p) = refl
step_zero (wants K) = refl
step_zero (number K n) = refl
step_zero (term K t) = refl
step_zero (wants_exponent K t) = refl
step_zero (exponent K t n) = refl
step_zero (powered K t) = refl
step_zero stuck = refl

-- a list that ends in a blank has a member
blank_inside : (s : List ℕ) → get_or s (length s - 1) 0 ≡ 32 → 0 < length s
blank_inside [] e = absurd (omega (arith, e))
blank_inside (b ∷ s) e = omega arith

module _ (s : List ℕ) (living : alive (after s (length s)) ≡ 1) where
  end_dead : after s (suc (length s)) ≡ stuck
  end_dead = after_suc s (length s) ∙ ap (step (after s (length s))) (get_or-eq_default s 0 (le_refl (length s))) ∙ step_zero (after s (length s))

  open_stops : Open (after s (length s)) → NoLine s (length s)
  open_stops o = stopped_is (record { within = le_refl (length s); living = living; dead = end_dead; at_end = λ _. inl o })

  blank_stops : get_or s (length s - 1) 0 ≡ 32 → NoLine s (length s)
  blank_stops e =
      let l = blank_inside s e in
      stopped_is (record {
        within = le_refl (length s);
        living = living;
        dead = end_dead;
        at_end = λ _. inr (length s - 1, omega (arith, l), record { inside = omega (arith, l); is = e });
      })

-- 1 where nothing waits
abbrev done : Context → ℕ
done (bottom p) = 1
done (bracket K) = 0
done (sum K a) = 0
done (difference K a) = 0
done (product K a) = 0

module _ (s : List ℕ) (no_blank : (j : ℕ) → suc j ≡ length s → At s j 32 → ⊥) where
  module _ (living : alive (after s (length s)) ≡ 1) where
    waits : {K : Context} {t : Tree} (h : Held) → Ended K t (after s (length s)) → summed K t ≡ h → done h.0 ≡ 0 → NoLine s (length s)
    waits {K} {t} h w e d =
        open_stops s living
        (open_held w (λ p u f. let g : done h.0 ≡ 1 = ap (λ (y : Held). done y.0) (sym e ∙ f) in omega (arith, d, g)))

    whole_right : {K : Context} {t : Tree} (h : Held) → Ended K t (after s (length s)) → summed K t ≡ h → Right s (whole (length s) h)
    unfolding whole
    whole_right (bottom p, t) w e = line_held (record { context = _; tree = _; ended = w; is = e }) no_blank
    whole_right (bracket K, t) w e = waits (bracket K, t) w e refl
    whole_right (sum K a, t) w e = waits (sum K a, t) w e refl
    whole_right (difference K a, t) w e = waits (difference K a, t) w e refl
    whole_right (product K a, t) w e = waits (product K a, t) w e refl

    none_held : (σ : State) → after s (length s) ≡ σ → holding σ ≡ 0 → NoLine s (length s)
    none_held σ e h = open_stops s living (open_state (ap holding e ∙ h))

    held_right : {K : Context} {t : Tree} {σ : State} → after s (length s) ≡ σ → Ended K t σ → Right s (whole (length s) (summed K t))
    held_right {K} {t} e w = whole_right (summed K t) (rw e w) refl

    ending_right : (σ : State) → after s (length s) ≡ σ → Right s (ending (length s) σ)
    unfolding ending
    ending_right start e = none_held start e refl
    ending_right (prime p) e = none_held (prime p) e refl
    ending_right (primed p) e = none_held (primed p) e refl
    ending_right (wants K) e = none_held (wants K) e refl
    ending_right (number K n) e = held_right e (ended_term term_number)
    ending_right (term K t) e = held_right e (ended_term term_done)
    ending_right (wants_exponent K t) e = none_held (wants_exponent K t) e refl
    ending_right (exponent K t n) e = held_right e ended_exponent
    ending_right (powered K t) e = held_right e ended_powered
    ending_right stuck e = none_held stuck e refl

-- ---- the whole line

last_right : (s : List ℕ) → alive (after s (length s)) ≡ 1 → Right s (read_from s (length s) 0)
unfolding read_from
last_right s l = at (eqb (get_or s (length s - 1) 0) 32) refl
  where
    at : (r : Bool) → eqb (get_or s (length s - 1) 0) 32 ≡ r → Right s (cond r (stops_at (length s)) (ending (length s) (after s (length s))))
    at true e = blank_stops s l (eqb-true _ 32 e)
    at false e =
        ending_right s
        (λ j f a. eqb-false (get_or s (length s - 1) 0) 32 e (ap (λ (m : ℕ). get_or s m 0) (let z : length s - 1 ≡ j = omega (arith, f) in z) ∙ a.is)) l
        (after s (length s)) refl

from_right : (s : List ℕ) (k n : ℕ) → k + n ≡ length s → alive (after s k) ≡ 1 → Right s (read_from s k n)
unfolding read_from
from_right s k zero e l =
    let z : k ≡ length s = omega (arith, e) in
    subst (λ (m : ℕ). Right s (read_from s m 0)) (sym z) (last_right s (ap (λ (m : ℕ). alive (after s m)) (sym z) ∙ l))
from_right s k (suc n) e l =
    at (eqb (alive (after s (suc k))) 0) refl (λ h. from_right s (suc k) n (let z : suc k + n ≡ k + suc n = omega arith in z ∙ e) h)
  where
    living : (alive (after s (suc k)) ≡ 1) ⊎ (alive (after s (suc k)) ≡ 0) → (alive (after s (suc k)) ≡ 0 → ⊥) → alive (after s (suc k)) ≡ 1
    living (inl h) f = h
    living (inr h) f = absurd (f h)

    at : (r : Bool) → eqb (alive (after s (suc k))) 0 ≡ r → (alive (after s (suc k)) ≡ 1 → Right s (read_from s (suc k) n))
        → Right s (elim r as (λ _. Found) [ true ↦ stops_at k | false ↦ read_from s (suc k) n ])
    at true f h = stopped_is (record {
      within = omega (arith, e);
      living = l;
      dead = dead_stuck (after s (suc k)) (eqb-true _ 0 f);
      at_end = λ z. absurd (omega (arith, e, z));
    })
    at false f h = h (living (alive_or (after s (suc k))) (eqb-false _ 0 f))

-- what `read_line` finds is so
pub read_line_right : (s : List ℕ) → Right s (read_line s)
unfolding read_line
read_line_right s = from_right s 0 (length s) (omega arith) (ap alive (after_none s))

-- ---- the claims

pub one_reading : OneReading
one_reading s p q t u v w = line_once v w

pub line_or_place : LineOrPlace
line_or_place s = record { either = at (read_line s) (read_line_right s); one_place = λ j k v w. stops_once v w }
  where
    at : (f : Found) → Right s f → ((p : ℕ) × (t : Tree) × Line s p t) ⊎ ((k : ℕ) × NoLine s k)
    at (is_line p t) v = inl (p, t, v)
    at (stops_at k) w = inr (k, w)
