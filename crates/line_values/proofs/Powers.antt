-- What a power of a piece is worth, with its exponent as it is held.
-- Proves its contract from what the code finds: the exponent, the refusal of what is raised, or the size of its value and the array of the power.
-- Assumes nothing.
use mathlib.Core.Path.{◌≡◌, sym, ◌∙◌, ap, ap₂}
use mathlib.Core.Bool.{Bool, true, false, cond, ◌||◌, or-true}
use mathlib.Core.Logic.{◌⊎◌, inl, inr}
use mathlib.Core.List.{List}
use Rattle.std.specs.Prelude.{Ok, Err}
use Prim.Native.Nat.{ℕ, ◌-◌, ◌*◌, ◌<◌, ◌≤◌}
use native.Mathlib.Omega.{arith}
use lib.Dec.{ltb}
use borrow.Author.Tests.{lt-ltb, le-ltb, ltb-false}
use Rattle.specification.specs.Limits.{taken, ◌², number_limit, exponent_limit}
use Rattle.specification.specs.Grammar.{Tree, power}
use Rattle.specification.specs.TypedLines.{meaning, is_high}
use Rattle.lists.specs.Tests.{or_false}
use Rattle.algebra.specs.Numbers.{lt_or_le}
use Rattle.algebra.specs.TakenPrimes.{square_above_one}
use Rattle.algebra.specs.Divisibility.{pow}
use Rattle.algebra.specs.CoefficientLists.{𝓩[x]/, poly, poly_pow}
use Rattle.arrays.specs.Represents.{Represents}
use Rattle.arrays.specs.Sizes.{Size}
use Rattle.grammar.specs.Meanings.{high_power}
use Rattle.refusals.specs.declared.Refusal.{Refusal}
use Rattle.refusals.specs.declared.Refusal.TheVariants.{LineTooLarge, NoPattern}
use Rattle.line_values.specs.Worth.{held, judged, tree_number, Value, Worth, OfPower}
use Rattle.line_values.specs.HeldNumbers.{held_small, held_large}
use Rattle.line_values.proofs.Judging.{judged_none, judged_more, judged_high, some_number}
use Rattle.line_values.proofs.Pieces.{large, high, tree_number_lem, power_number, none, sized, back, unheld}

held_exponent : (j : ℕ) → ltb exponent_limit (held j) ≡ ltb exponent_limit j
held_exponent j = at (lt_or_le number_limit j)
  where
    at : (number_limit < j) ⊎ (j ≤ number_limit) → ltb exponent_limit (held j) ≡ ltb exponent_limit j
    at (inl l) = ap (ltb exponent_limit) (held_large j l) ∙ sym (lt-ltb exponent_limit j (omega arith))
    at (inr l) = ap (ltb exponent_limit) (held_small j l)

-- 16 for an exponent over 32, and 0 for any other
exponent_over : {l e : ℕ} → exponent_limit < e → l ≡ 16 → l ≡ judged (ltb exponent_limit e) false
unfolding judged
exponent_over {e = e} h q = q ∙ sym (ap (λ (b : Bool). judged b false) (lt-ltb exponent_limit e h))

exponent_within : {l e : ℕ} → e ≤ exponent_limit → l ≡ 0 → l ≡ judged (ltb exponent_limit e) false
unfolding judged
exponent_within {e = e} h q = q ∙ sym (ap (λ (b : Bool). judged b false) (le-ltb exponent_limit e h))

-- both, as a test of the exponent gives it
pub exponent_test : {l e : ℕ} → (exponent_limit < e → l ≡ 16) → (e ≤ exponent_limit → l ≡ 0) → l ≡ judged (ltb exponent_limit e) false
exponent_test {l} {e} over within = at (lt_or_le exponent_limit e)
  where
    at : (exponent_limit < e) ⊎ (e ≤ exponent_limit) → l ≡ judged (ltb exponent_limit e) false
    at (inl h) = exponent_over h (over h)
    at (inr h) = exponent_within h (within h)

pub exponent_small : {l e : ℕ} → l ≡ judged (ltb exponent_limit e) false → l ≡ 0 → e ≤ exponent_limit
exponent_small {l} {e} test z = ltb-false exponent_limit e (judged_none (ltb exponent_limit e) false (sym test ∙ z)).0

-- 16 wherever the exponent is over 32
pub power_large : {p e : ℕ} {a : Value} → exponent_limit < e → OfPower p a e (Err LineTooLarge)
unfolding judged
power_large {p} {e} l = record { power = λ t j h wt. back (sym (power_number p t j ∙ ap (λ (b : Bool). judged b (high p t || is_high p (power t j))) (over t j h))) }
  where
    over : (t : Tree) (j : ℕ) → e ≡ held j → (large t || ltb exponent_limit j) ≡ true
    over t j h = ap (λ (b : Bool). large t || b) (sym (held_exponent j) ∙ ap (ltb exponent_limit) (sym h) ∙ lt-ltb exponent_limit e l) ∙ or-true (large t)

module _ {e : ℕ} (small : e ≤ exponent_limit) where
  -- the exponent is the one that was read
  same : (j : ℕ) → e ≡ held j → j ≡ e
  same j h = unheld e j (omega (arith, small)) h

  few : (j : ℕ) → e ≡ held j → ltb exponent_limit j ≡ false
  few j h = ap (ltb exponent_limit) (same j h) ∙ le-ltb exponent_limit e small

module _ {p e : ℕ} (small : e ≤ exponent_limit) where
  -- the refusal of what is raised
  pub power_without : {why : Refusal} → OfPower p (Err why) e (Err why)
  power_without {why} = record {
    power = λ t j h wt.
        let q = wt.number ∙ tree_number_lem p t in
        back
        (q ∙ judged_more (large t) (high p t) (is_high p (power t j)) (λ z. some_number why (q ∙ z))
        ∙ ap (λ (b : Bool). judged b (high p t || is_high p (power t j))) (sym (ap (λ (b : Bool). large t || b) (few small j h) ∙ or_false (large t)))
        ∙ sym (power_number p t j));
  }

  module _ {f : List ℕ} (prime : taken p ≡ true) {s d : ℕ} (size : Size f s) (degree : d ≡ s - 1) where
    power_sized : {t : Tree} (j : ℕ) → e ≡ held j → Worth p t (Ok f) → tree_number p (power t j) ≡ cond (ltb 32 (e * d)) 17 0
    power_sized {t} j h wt =
        power_number p t j
        ∙ ap₂ judged (ap₂ ◌||◌ (none wt).0 (few small j h)) (ap (λ (b : Bool). b || is_high p (power t j)) (none wt).1)
        ∙ judged_high (is_high p (power t j))
        ∙ ap (λ (b : Bool). cond b 17 0)
        (high_power p t j ∙ ap₂ (λ (i m : ℕ). ltb 32 (i * m)) (same small j h) (ap (λ (i : ℕ). i - 1) (sized wt prime size) ∙ sym degree))

    pub power_high : 32 < e * d → OfPower p (Ok f) e (Err NoPattern)
    power_high l = record { power = λ t j h wt. back (sym (power_sized j h wt ∙ ap (λ (b : Bool). cond b 17 0) (lt-ltb 32 (e * d) l))) }

    pub power_with : {r : List ℕ} → e * d ≤ 32 → Represents (p ²) r (pow (𝓩[x]/ (p ²)) (poly (p ²) f) e) → OfPower p (Ok f) e (Ok r)
    unfolding meaning
    power_with l rep = record {
      power = λ t j h wt. record {
        number = sym (power_sized j h wt ∙ ap (λ (b : Bool). cond b 17 0) (le-ltb 32 (e * d) l));
        value = record {
          reduced = rep.reduced;
          is = rep.is ∙ ap₂ (pow (𝓩[x]/ (p ²))) wt.value.is (sym (same small j h))
              ∙ sym (poly_pow (p ²) (omega (arith, square_above_one p prime)) (meaning p t) j);
        };
      };
    }
