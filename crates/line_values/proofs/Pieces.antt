-- What pieces are worth: the numbers of trees by those of their parts, the size of a value, and a piece that is turned back.
-- Proves the contracts of a number and of x from the array that the code makes. Assumes nothing.
use mathlib.Core.Path.{◌≡◌, refl, sym, ◌∙◌, ap, ap₂, subst}
use mathlib.Core.Bool.{Bool, true, false, ◌||◌}
use mathlib.Core.List.{List, [], ◌∷◌}
use Rattle.std.specs.Prelude.{Ok, Err}
use mathlib.Core.Logic.{◌⊎◌, inl, inr}
use Prim.Native.Nat.{ℕ, ◌%◌, ◌<◌, ◌≤◌}
use native.Mathlib.Nat.{mod-lt}
use native.Mathlib.Omega.{arith}
use lib.Dec.{ltb}
use lib.ListN.{length, set, replicate}
use borrow.Author.Tests.{lt-ltb, le-ltb}
use Rattle.specification.specs.Limits.{taken, ◌², number_limit, exponent_limit}
use Rattle.specification.specs.Grammar.{Tree, number, variable, power, times, plus, minus}
use Rattle.specification.specs.TypedLines.{meaning, any_part, is_large, is_high}
use Rattle.lists.specs.Tests.{or_false}
use Rattle.algebra.specs.Numbers.{lt_or_le}
use Rattle.algebra.specs.TakenPrimes.{square_above_one}
use Rattle.algebra.specs.Divisibility.{pow_one}
use Rattle.algebra.specs.PolynomialRing.{x}
use Rattle.algebra.specs.CoefficientLists.{𝓩[x]/, poly, poly_x}
use Rattle.arrays.specs.Represents.{Represents}
use Rattle.arrays.specs.Sizes.{Size}
use Rattle.arrays.specs.Trimming.{length_trim, same_trim}
use Rattle.arrays.specs.Terms.{constant_set}
use Rattle.arrays.specs.MonomialArray.{IsMonomial, monomial_represents}
use Rattle.grammar.specs.Meanings.{terms, meaning_low}
use Rattle.refusals.specs.declared.Refusal.{Refusal}
use Rattle.refusals.specs.declared.Refusal.TheVariants.{LineTooLarge}
use Rattle.refusals.specs.Numbers.{number_of}
use Rattle.line_values.specs.Worth.{held, judged, tree_number, Value, number_in, Worth, Worse, OfNumber, OfX}
use Rattle.line_values.specs.HeldNumbers.{held_small, held_large}
use Rattle.line_values.proofs.Judging.{judged_none}

-- ---- the numbers of trees

abbrev pub large : Tree → Bool
large t = any_part is_large t

abbrev pub high : ℕ → Tree → Bool
high p t = any_part (is_high p) t

pub tree_number_lem : (p : ℕ) (t : Tree) → tree_number p t ≡ judged (large t) (high p t)
unfolding tree_number
tree_number_lem p t = refl

pub plus_number : (p : ℕ) (t u : Tree) → tree_number p (plus t u) ≡ judged (large t || large u) (high p t || high p u)
unfolding tree_number any_part is_large is_high
plus_number p t u = ap₂ judged (or_false (large t || large u)) (or_false (high p t || high p u))

pub minus_number : (p : ℕ) (t u : Tree) → tree_number p (minus t u) ≡ judged (large t || large u) (high p t || high p u)
unfolding tree_number any_part is_large is_high
minus_number p t u = ap₂ judged (or_false (large t || large u)) (or_false (high p t || high p u))

pub times_number : (p : ℕ) (t u : Tree) → tree_number p (times t u) ≡ judged (large t || large u) (high p t || high p u || is_high p (times t u))
unfolding tree_number any_part is_large
times_number p t u = ap (λ (l : Bool). judged l (high p t || high p u || is_high p (times t u))) (or_false (large t || large u))

pub power_number : (p : ℕ) (t : Tree) (k : ℕ) → tree_number p (power t k) ≡ judged (large t || ltb exponent_limit k) (high p t || is_high p (power t k))
unfolding tree_number any_part is_large
power_number p t k = refl

-- ---- a value

module _ {p : ℕ} {t : Tree} {f : List ℕ} (w : Worth p t (Ok f)) where
  pub none : (large t ≡ false) × (high p t ≡ false)
  none = judged_none (large t) (high p t) (sym (w.number ∙ tree_number_lem p t))

  -- the tree has as many terms as the array
  pub sized : taken p ≡ true → {s : ℕ} → Size f s → terms p t ≡ s
  sized prime size = ap length (sym (same_trim f (meaning p t) w.value.reduced.low (meaning_low p prime t) w.value.is)) ∙ length_trim size

-- a piece that is turned back
pub back : {p : ℕ} {t : Tree} {why : Refusal} → number_of why ≡ tree_number p t → Worth p t (Err why)
back e = record { number = e; value = tt }

-- the number of two pieces
pub joined : {p k : ℕ} {a b : Value} → Worse (number_in a) (number_in b) k → {t u : Tree} → Worth p t a → Worth p u b
    → k ≡ judged (large t || large u) (high p t || high p u)
joined {p} worse {t} {u} wt wu =
    worse.is (large t) (high p t) (large u) (high p u) (wt.number ∙ tree_number_lem p t) (wu.number ∙ tree_number_lem p u)

-- ---- a number, and x

-- a number that is held small is that number
pub unheld : (v j : ℕ) → v ≤ number_limit → v ≡ held j → j ≡ v
unheld v j l e = at (lt_or_le number_limit j)
  where
    at : (number_limit < j) ⊎ (j ≤ number_limit) → j ≡ v
    at (inl m) = absurd (omega (arith, e, held_large j m))
    at (inr m) = sym (held_small j m) ∙ sym e

number_number : (p k : ℕ) → tree_number p (number k) ≡ judged (ltb number_limit k) false
unfolding tree_number any_part is_large is_high
number_number p k = refl

variable_number : (p : ℕ) → tree_number p variable ≡ 0
unfolding tree_number any_part is_large is_high judged
variable_number p = refl

pub number_large : {p v : ℕ} → number_limit < v → OfNumber p v (Err LineTooLarge)
unfolding judged
number_large {p} {v} l = record {
  worth = λ k e. back (sym (number_number p k ∙ ap (λ (b : Bool). judged b false) (lt-ltb number_limit k (over k e (lt_or_le number_limit k)))));
}
  where
    over : (k : ℕ) → v ≡ held k → (number_limit < k) ⊎ (k ≤ number_limit) → number_limit < k
    over k e (inl m) = m
    over k e (inr m) = absurd (omega (arith, e, held_small k m))

pub number_small : {p v n : ℕ} → taken p ≡ true → v ≤ number_limit → n ≡ p ² → OfNumber p v (Ok (set (replicate 33 0) 0 (v % n)))
unfolding judged meaning
number_small {p} {v} {n = n} prime l square = record {
  worth = λ k e. record {
    number = sym (number_number p k ∙ ap (λ (b : Bool). judged b false) (le-ltb number_limit k (omega (arith, unheld v k l e))));
    value =
        subst (λ (m : ℕ). Represents (p ²) (set (replicate 33 0) 0 (v % m)) (poly (p ²) (k % p ² ∷ []))) (sym square)
        (subst (λ (j : ℕ). Represents (p ²) (set (replicate 33 0) 0 (v % p ²)) (poly (p ²) (j % p ² ∷ []))) (sym (unheld v k l e))
        (constant_set (p ²) (mod-lt v (omega (arith, square_above_one p prime)))));
  };
}

pub variable_with : {f : List ℕ} → IsMonomial 1 f → OfX (Ok f)
unfolding meaning
variable_with m = record {
  worth = λ p prime. record {
    number = sym (variable_number p);
    value =
        let h = monomial_represents m (square_above_one p prime) in
        record { reduced = h.reduced; is = h.is ∙ pow_one (𝓩[x]/ (p ²)) x ∙ sym (poly_x (p ²)) };
  };
}
