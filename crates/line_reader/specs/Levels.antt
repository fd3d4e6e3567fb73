-- How the machine goes on at the first sign that is no blank: `operators` behind a power, `products` and `sums` behind factors, `expressions` and `closing`
-- behind summands. Proves how each level comes from the one below. Assumes nothing.
use Rattle.std.specs.Prelude.{◌≡◌, Bool, true, false, cond, ℕ, eqb}
use Rattle.std.proofs.Math.Path.{refl}
use borrow.Author.Tests.{ne_eqb}
use Rattle.specification.specs.Grammar.{Tree, times, plus, minus}
use Rattle.grammar.specs.Machine.{Context, State, stuck, wants, sum, difference, product, bottom}
use Rattle.grammar.specs.Machine.{multiplied, added, summed, closed, after_power, after_term}

unfoldable pub closing : Context → Tree → ℕ → State
closing K t b = cond (eqb b 41) (closed (K, t)) stuck

-- behind a product that other signs than `*` end
unfoldable pub sums : Context → Tree → ℕ → State
sums K t b =
    cond (eqb b 43) (wants (sum (added K t).0 (added K t).1))
    (cond (eqb b 45) (wants (difference (added K t).0 (added K t).1)) (cond (eqb b 41) (closed (added K t)) stuck))

-- behind a power
unfoldable pub operators : Context → Tree → ℕ → State
operators K t b = cond (eqb b 42) (wants (product (multiplied K t).0 (multiplied K t).1)) (sums (multiplied K t).0 (multiplied K t).1 b)

-- behind the factors so far, in the context K
unfoldable pub products : Context → Tree → ℕ → State
products K t b = cond (eqb b 42) (wants (product K t)) (sums K t b)

-- behind the terms so far, in the context K
unfoldable pub expressions : Context → Tree → ℕ → State
expressions K t b = cond (eqb b 43) (wants (sum K t)) (cond (eqb b 45) (wants (difference K t)) (closing K t b))

module _ (K : Context) (t : Tree) (b : ℕ) where
  pub power_step : (b ≡ 32 → ⊥) → after_power K t b ≡ operators K t b
  unfolding after_power operators sums summed
  power_step h = rw (ne_eqb b 32 h)

  pub term_step : (b ≡ 94 → ⊥) → (b ≡ 32 → ⊥) → after_term K t b ≡ operators K t b
  unfolding after_term after_power operators sums summed
  term_step g h = rw (ne_eqb b 94 g, ne_eqb b 32 h)

  pub first_factor : multiplied K t ≡ (K, t) → operators K t b ≡ products K t b
  unfolding operators products
  first_factor e = rw e

  pub next_factor : (a : Tree) → operators (product K a) t b ≡ products K (times a t) b
  unfolding operators products multiplied
  next_factor a = refl

  pub factors_done : (b ≡ 42 → ⊥) → products K t b ≡ sums K t b
  unfolding products
  factors_done h = rw (ne_eqb b 42 h)

  pub first_part : added K t ≡ (K, t) → sums K t b ≡ expressions K t b
  unfolding sums expressions closing
  first_part e = rw e

  pub next_plus : (a : Tree) → sums (sum K a) t b ≡ expressions K (plus a t) b
  unfolding sums expressions added closing
  next_plus a = refl

  pub next_minus : (a : Tree) → sums (difference K a) t b ≡ expressions K (minus a t) b
  unfolding sums expressions added closing
  next_minus a = refl

  pub parts_done : (b ≡ 43 → ⊥) → (b ≡ 45 → ⊥) → expressions K t b ≡ closing K t b
  unfolding expressions
  parts_done g h = rw (ne_eqb b 43 g, ne_eqb b 45 h)

  pub not_closed : (b ≡ 41 → ⊥) → closing K t b ≡ stuck
  unfolding closing
  not_closed h = rw (ne_eqb b 41 h)

pub bottom_stuck : (p : ℕ) (t : Tree) (b : ℕ) → closing (bottom p) t b ≡ stuck
unfolding closing closed
bottom_stuck p t b = at (eqb b 41)
  where
    at : (z : Bool) → cond z stuck stuck ≡ stuck
    at true = refl
    at false = refl
