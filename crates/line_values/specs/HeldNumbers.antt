-- Numbers as the code holds them, and the numbers 0, 16 and 17 of a value.
-- Proves that a held number is the number itself up to 65,535, and grows by a digit as it does; that a value that is worth a tree has not 15, what its
-- number says of the tree, and that it is reduced.
-- Assumes nothing.
use Rattle.std.specs.Prelude.{◌≡◌, Bool, ◌≢◌, ℕ, ◌+◌, ◌*◌, ◌<◌, ◌≤◌, Ok, Err}
use Rattle.std.proofs.Math.Path.{refl}
use Rattle.std.proofs.Common.{sym, ◌∙◌, le_refl, arith, le-leb}
use Rattle.std.proofs.Math.Bool.{true, false}
use Rattle.std.proofs.Math.Decide.{dec_lt}
use Rattle.std.proofs.lemmas.Bool.{lt-leb}
use Rattle.specification.specs.Limits.{number_limit}
use Rattle.specification.specs.Grammar.{Tree}
use Rattle.specification.specs.TypedLines.{any_part, is_large, is_high}
use Rattle.line_values.specs.Worth.{held, judged, tree_number, Value, number_in, Worth, Sound}

pub held_small : (k : ℕ) → k ≤ number_limit → held k ≡ k
unfolding held
held_small k h = rw (le-leb k number_limit h)

pub held_large : (k : ℕ) → number_limit < k → held k ≡ 65536
unfolding held
held_large k h = rw (lt-leb k number_limit h)

pub held_bound : (k : ℕ) → held k ≤ 65536
held_bound k = at (dec_lt number_limit k)
  where
    at : Dec (number_limit < k) → held k ≤ 65536
    at (yes l) = rw (held_large k l) (le_refl 65536)
    at (no l) = rw (held_small k (omega (arith, l))) (omega (arith, l))

pub held_next : (k d : ℕ) → held (held k * 10 + d) ≡ held (k * 10 + d)
held_next k d = at (dec_lt number_limit k)
  where
    at : Dec (number_limit < k) → held (held k * 10 + d) ≡ held (k * 10 + d)
    at (yes l) = rw (held_large k l) (held_large (65536 * 10 + d) (omega arith) ∙ sym (held_large (k * 10 + d) (omega arith)))
    at (no l) = rw (held_small k (omega (arith, l)))

-- over the limit where the number is, and nowhere else
pub held_limit : (k : ℕ) → number_limit < held k → number_limit < k
held_limit k l = at (dec_lt number_limit k)
  where
    at : Dec (number_limit < k) → number_limit < k
    at (yes m) = m
    at (no m) = absurd (omega (arith, m, l, held_small k (omega (arith, m))))

pub held_under : (k : ℕ) → held k ≤ number_limit → k ≤ number_limit
held_under k l = at (dec_lt number_limit k)
  where
    at : Dec (number_limit < k) → k ≤ number_limit
    at (yes m) = absurd (omega (arith, l, held_large k m))
    at (no m) = omega (arith, m)

-- ---- the numbers of a tree

judged_read : (large high : Bool) → judged large high ≢ 15
unfolding judged
judged_read true high e = omega (arith, e)
judged_read false true e = omega (arith, e)
judged_read false false e = omega (arith, e)

-- the number of a value is not 15
pub worth_read : {p : ℕ} {t : Tree} {a : Value} → Worth p t a → number_in a ≢ 15
unfolding tree_number
worth_read {p} {t} w e = judged_read (any_part is_large t) (any_part (is_high p) t) (sym w.number ∙ e)

-- what stands for a polynomial is reduced
pub worth_sound : {p : ℕ} {t : Tree} (a : Value) → Worth p t a → Sound p a
worth_sound (Ok f) w = w.value.reduced
worth_sound (Err why) w = tt

-- 16 where a part is too large, and nowhere else; then 17 where one is too high; 0 where neither is
module _ {p : ℕ} {t : Tree} {a : Value} (w : Worth p t a) where
  pub number_large : number_in a ≡ 16 → any_part is_large t ≡ true
  unfolding tree_number judged
  number_large z = at (any_part is_large t) (any_part (is_high p) t) (sym w.number ∙ z)
    where
      at : (large high : Bool) → judged large high ≡ 16 → large ≡ true
      at true high q = refl
      at false true q = absurd (omega (arith, q))
      at false false q = absurd (omega (arith, q))

  pub number_small : number_in a ≢ 16 → any_part is_large t ≡ false
  unfolding tree_number judged
  number_small ne = at (any_part is_large t) (any_part (is_high p) t) (λ q. ne (w.number ∙ q))
    where
      at : (large high : Bool) → judged large high ≢ 16 → large ≡ false
      at true high q = absurd (q refl)
      at false high q = refl

  pub number_high : number_in a ≢ 16 → number_in a ≢ 0 → any_part (is_high p) t ≡ true
  unfolding tree_number judged
  number_high ne z = at (any_part is_large t) (any_part (is_high p) t) (λ q. ne (w.number ∙ q)) (λ q. z (w.number ∙ q))
    where
      at : (large high : Bool) → judged large high ≢ 16 → judged large high ≢ 0 → high ≡ true
      at true high q r = absurd (q refl)
      at false true q r = refl
      at false false q r = absurd (r refl)

  pub number_low : number_in a ≡ 0 → any_part (is_high p) t ≡ false
  unfolding tree_number judged
  number_low z = at (any_part is_large t) (any_part (is_high p) t) (sym w.number ∙ z)
    where
      at : (large high : Bool) → judged large high ≡ 0 → high ≡ false
      at true high q = absurd (omega (arith, q))
      at false true q = absurd (omega (arith, q))
      at false false q = refl
