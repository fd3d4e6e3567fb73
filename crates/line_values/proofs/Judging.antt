-- The numbers 0, 16 and 17 of pieces, put together.
-- Proves which of two numbers comes first, when a number is 0, and that a part too high changes no number but 0. Assumes nothing.
use mathlib.Core.Path.{◌≡◌, refl, sym, ap, ◌∙◌, subst}
use mathlib.Core.Bool.{Bool, true, false, cond, ◌||◌}
use mathlib.Core.Logic.{◌≢◌}
use mathlib.Core.List.{List}
use Prim.Native.Nat.{ℕ}
use native.Mathlib.Omega.{arith}
use Rattle.std.specs.Prelude.{Result, Ok, Err, IsErrAnd}
use Rattle.refusals.specs.declared.Refusal.{Refusal}
use Rattle.refusals.specs.declared.Refusal.TheVariants.{LineTooLarge}
use Rattle.refusals.specs.Numbers.{number_of}
use Rattle.line_values.specs.Worth.{judged, Value, number_in, Worse, Both}

-- ---- 0, and what is not 0

pub judged_none : (large high : Bool) → judged large high ≡ 0 → (large ≡ false) × (high ≡ false)
unfolding judged
judged_none true high e = absurd (omega (arith, e))
judged_none false true e = absurd (omega (arith, e))
judged_none false false e = (refl, refl)

pub judged_more : (large high more : Bool) → judged large high ≢ 0 → judged large high ≡ judged large (high || more)
unfolding judged
judged_more true high more ne = refl
judged_more false true more ne = refl
judged_more false false more ne = absurd (ne refl)

pub judged_high : (high : Bool) → judged false high ≡ cond high 17 0
unfolding judged
judged_high high = refl

-- ---- the worse of two

-- the number of no refusal is 0, and 16 is that of a line that is too large alone
pub some_number : (why : Refusal) → number_of why ≢ 0
some_number why e = grind arith

pub only_large : (why : Refusal) → number_of why ≡ 16 → why ≡ LineTooLarge
only_large why e = grind arith

module _ {a b : ℕ} where
  -- the second is 16
  pub worse_second : b ≡ 16 → Worse a b 16
  unfolding judged
  worse_second e = record { none = λ z. absurd (omega (arith, z)); is = λ l h l₂ h₂ ea eb. at l h l₂ h₂ (sym eb ∙ e) }
    where
      at : (l h l₂ h₂ : Bool) → judged l₂ h₂ ≡ 16 → 16 ≡ judged (l || l₂) (h || h₂)
      at true h l₂ h₂ q = refl
      at false h true h₂ q = refl
      at false h false true q = absurd (omega (arith, q))
      at false h false false q = absurd (omega (arith, q))

  -- it is not, and the first is not 0
  pub worse_first : b ≢ 16 → a ≢ 0 → Worse a b a
  unfolding judged
  worse_first nb ne = record { none = λ z. absurd (ne z); is = λ l h l₂ h₂ ea eb. ea ∙ at l h l₂ h₂ (λ q. ne (ea ∙ q)) (λ q. nb (eb ∙ q)) }
    where
      at : (l h l₂ h₂ : Bool) → judged l h ≢ 0 → judged l₂ h₂ ≢ 16 → judged l h ≡ judged (l || l₂) (h || h₂)
      at true h l₂ h₂ k u = refl
      at false h true h₂ k u = absurd (u refl)
      at false true false h₂ k u = refl
      at false false false h₂ k u = absurd (k refl)

  -- the first is 0
  pub worse_none : a ≡ 0 → Worse a b b
  unfolding judged
  worse_none e = record { none = λ z. (e, z); is = λ l h l₂ h₂ ea eb. eb ∙ at l h l₂ h₂ (sym ea ∙ e) }
    where
      at : (l h l₂ h₂ : Bool) → judged l h ≡ 0 → judged l₂ h₂ ≡ judged (l || l₂) (h || h₂)
      at true h l₂ h₂ q = absurd (omega (arith, q))
      at false true l₂ h₂ q = absurd (omega (arith, q))
      at false false l₂ h₂ q = refl

-- ---- two values

pub not_large : (a : Value) → ¬ (a ≡ Err LineTooLarge) → number_in a ≢ 16
not_large (Ok f) n z = absurd (omega (arith, z))
not_large (Err w) n z = n (ap Err (only_large w z))

pub both_second : (a : Value) {b : Value} → b ≡ Err LineTooLarge → Both a b (Err LineTooLarge)
both_second a e = worse_second (ap number_in e)

module _ {a b : Value} where
  pub both_first_refused : {why : Refusal} → a ≡ Err why → ¬ (b ≡ Err LineTooLarge) → Both a b (Err why)
  both_first_refused {why} e ne = rw e (worse_first (not_large b ne) (some_number why))

  pub both_second_refused : {f : List ℕ} {why : Refusal} → a ≡ Ok f → b ≡ Err why → Both a b (Err why)
  both_second_refused {f} {why} e q = rw (e, q) (worse_none refl)

-- what the exit of a `?` gives back is the error that it met
pub passed_on : {T E : Type 0} (P : Result T E → Type 0) (r : Result T E) {e : E} → IsErrAnd r (λ x. x ≡ e) → P (Err e) → P r
passed_on P (Ok x) q h = elim q [ ]
passed_on {E = E} P (Err d) q h = subst (λ (x : E). P (Err x)) (sym q) h
