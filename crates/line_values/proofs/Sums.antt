-- What a sum or a difference of two pieces is worth.
-- Proves its contract from what the code finds: the refusal of the two, or the array of the whole. Assumes nothing.
use mathlib.Core.Path.{◌≡◌, sym, ◌∙◌, ap₂}
use mathlib.Core.Bool.{false, ◌||◌}
use mathlib.Core.List.{List}
use Prim.Native.Nat.{ℕ, ◌<◌}
use Rattle.std.specs.Prelude.{Ok, Err}
use Rattle.specification.specs.Limits.{◌²}
use Rattle.specification.specs.Grammar.{Tree}
use Rattle.specification.specs.TypedLines.{meaning}
use Rattle.algebra.specs.PolynomialRing.{◌+ᴿ◌, -ᴿ◌}
use Rattle.algebra.specs.CoefficientLists.{poly, poly_add, poly_sub}
use Rattle.arrays.specs.Represents.{Represents}
use Rattle.refusals.specs.declared.Refusal.{Refusal}
use Rattle.refusals.specs.Numbers.{number_of}
use Rattle.line_values.specs.declared.Sign.{Sign}
use Rattle.line_values.specs.declared.Sign.TheVariants.{Plus, Minus}
use Rattle.line_values.specs.Worth.{tree_number, judged, Value, number_in, Worth, Worse, signed, SignedSum}
use Rattle.line_values.proofs.Judging.{judged_high}
use Rattle.line_values.proofs.Pieces.{large, high, plus_number, minus_number, none, back, joined}

signed_number : (p : ℕ) (sign : Sign) (t u : Tree) → tree_number p (signed sign t u) ≡ judged (large t || large u) (high p t || high p u)
signed_number p Plus t u = plus_number p t u
signed_number p Minus t u = minus_number p t u

pub sum_without : {p : ℕ} {a b : Value} {why : Refusal} (sign : Sign) → Worse (number_in a) (number_in b) (number_of why) → SignedSum p sign a b (Err why)
sum_without {p} sign worse = record { worth = λ t u wt wu. back (joined worse wt wu ∙ sym (signed_number p sign t u)) }

module _ {p : ℕ} (pos : 0 < p ²) {f g : List ℕ} where
  no_number : (sign : Sign) {t u : Tree} → Worth p t (Ok f) → Worth p u (Ok g) → 0 ≡ tree_number p (signed sign t u)
  no_number sign {t} {u} wt wu =
      sym (signed_number p sign t u ∙ ap₂ judged (ap₂ ◌||◌ (none wt).0 (none wu).0) (ap₂ ◌||◌ (none wt).1 (none wu).1) ∙ judged_high false)

  pub sum_with : {r : List ℕ} → Represents (p ²) r (poly (p ²) f +ᴿ poly (p ²) g) → SignedSum p Plus (Ok f) (Ok g) (Ok r)
  unfolding meaning
  sum_with h = record {
    worth = λ t u wt wu. record {
      number = no_number Plus wt wu;
      value = record {
        reduced = h.reduced;
        is = h.is ∙ ap₂ ◌+ᴿ◌ wt.value.is wu.value.is ∙ sym (poly_add (p ²) pos (meaning p t) (meaning p u));
      };
    };
  }

  pub difference_with : {r : List ℕ} → Represents (p ²) r (poly (p ²) f +ᴿ -ᴿ poly (p ²) g) → SignedSum p Minus (Ok f) (Ok g) (Ok r)
  unfolding meaning
  difference_with h = record {
    worth = λ t u wt wu. record {
      number = no_number Minus wt wu;
      value = record {
        reduced = h.reduced;
        is = h.is ∙ ap₂ (λ a b. a +ᴿ -ᴿ b) wt.value.is wu.value.is ∙ sym (poly_sub (p ²) pos (meaning p t) (meaning p u));
      };
    };
  }
