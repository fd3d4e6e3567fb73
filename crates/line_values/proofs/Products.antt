-- What a product of two pieces is worth.
-- Proves its contract from what the code finds: the refusal of the two, or the sizes of the values and the array of the product. Assumes nothing.
use mathlib.Core.Path.{◌≡◌, sym, ◌∙◌, ap, ap₂}
use mathlib.Core.Bool.{Bool, true, cond, ◌||◌}
use mathlib.Core.List.{List}
use Rattle.std.specs.Prelude.{Ok, Err}
use Prim.Native.Nat.{ℕ, ◌+◌, ◌<◌, ◌≤◌}
use native.Mathlib.Omega.{arith}
use lib.Dec.{ltb}
use borrow.Author.Tests.{lt-ltb, le-ltb}
use Rattle.specification.specs.Limits.{taken, ◌²}
use Rattle.specification.specs.Grammar.{Tree, times}
use Rattle.specification.specs.TypedLines.{meaning, is_high}
use Rattle.algebra.specs.TakenPrimes.{square_above_one}
use Rattle.algebra.specs.PolynomialRing.{◌·◌}
use Rattle.algebra.specs.CoefficientLists.{poly, poly_mul}
use Rattle.arrays.specs.Represents.{Represents}
use Rattle.arrays.specs.Sizes.{Size}
use Rattle.grammar.specs.Meanings.{terms, high_times}
use Rattle.refusals.specs.declared.Refusal.{Refusal}
use Rattle.refusals.specs.declared.Refusal.TheVariants.{NoPattern}
use Rattle.refusals.specs.Numbers.{number_of}
use Rattle.line_values.specs.Worth.{judged, tree_number, Value, number_in, Worth, Worse, OfProduct}
use Rattle.line_values.proofs.Judging.{judged_more, judged_high, some_number}
use Rattle.line_values.proofs.Pieces.{large, high, times_number, none, sized, back, joined}

pub product_without : {p : ℕ} {a b : Value} {why : Refusal} → Worse (number_in a) (number_in b) (number_of why) → OfProduct p a b (Err why)
product_without {p} {a} {b} {why} worse = record {
  product = λ t u wt wu.
      let e = joined worse wt wu in
      back (e ∙ judged_more (large t || large u) (high p t || high p u) (is_high p (times t u)) (λ q. some_number why (e ∙ q)) ∙ sym (times_number p t u));
}

module _ {p : ℕ} {f g : List ℕ} (prime : taken p ≡ true) {s₁ s₂ : ℕ} (size₁ : Size f s₁) (size₂ : Size g s₂) where
  -- the number by the sizes that the code finds
  times_sized : {t u : Tree} → Worth p t (Ok f) → Worth p u (Ok g) → tree_number p (times t u) ≡ cond (ltb 34 (s₁ + s₂)) 17 0
  times_sized {t} {u} wt wu =
      times_number p t u
      ∙ ap₂ judged (ap₂ ◌||◌ (none wt).0 (none wu).0) (ap₂ (λ (l m : Bool). l || m || is_high p (times t u)) (none wt).1 (none wu).1)
      ∙ judged_high (is_high p (times t u))
      ∙ ap (λ (l : Bool). cond l 17 0)
      (high_times p t u (omega (arith, same, size₁.limit)) (omega (arith, same₂, size₂.limit)) ∙ ap₂ (λ (i j : ℕ). ltb 34 (i + j)) same same₂)
    where
      same : terms p t ≡ s₁
      same = sized wt prime size₁

      same₂ : terms p u ≡ s₂
      same₂ = sized wu prime size₂

  pub product_high : 34 < s₁ + s₂ → OfProduct p (Ok f) (Ok g) (Err NoPattern)
  product_high l = record { product = λ t u wt wu. back (sym (times_sized wt wu ∙ ap (λ (c : Bool). cond c 17 0) (lt-ltb 34 (s₁ + s₂) l))) }

  pub product_with : {r : List ℕ} → s₁ + s₂ ≤ 34 → Represents (p ²) r (poly (p ²) f · poly (p ²) g) → OfProduct p (Ok f) (Ok g) (Ok r)
  unfolding meaning
  product_with l h = record {
    product = λ t u wt wu. record {
      number = sym (times_sized wt wu ∙ ap (λ (c : Bool). cond c 17 0) (le-ltb 34 (s₁ + s₂) l));
      value = record {
        reduced = h.reduced;
        is = h.is ∙ ap₂ ◌·◌ wt.value.is wu.value.is ∙ sym (poly_mul (p ²) (omega (arith, square_above_one p prime)) (meaning p t) (meaning p u));
      };
    };
  }
