-- Bytes of a line as the code looks at them: signs, blanks and digits.
-- Proves where a sign stands, that blanks end at one place, what is between two signs, and how a number grows by a digit. Assumes nothing.
use mathlib.Core.Path.{◌≡◌, sym, ap, ◌∙◌}
use mathlib.Core.Bool.{false, and-false}
use mathlib.Core.List.{List}
use Prim.Native.Nat.{ℕ, suc, ◌+◌, ◌*◌, ◌<◌, ◌≤◌}
use native.Mathlib.Decide.{dec_lt}
use native.Mathlib.Numerals.{add-one}
use native.Mathlib.Omega.{arith}
use borrow.Author.Tests.{lt-leb}
use lib.Dec.{leb}
use lib.ListN.{length, get_or, get_or-eq_default}
use Rattle.specification.specs.Grammar.{At, Blanks, Between, first_digit, next_digit}
use Rattle.grammar.proofs.Standing as blanks
use Rattle.grammar.specs.Machine.{is_digit}
use Rattle.line_values.specs.declared.Sign.{Sign}
use Rattle.line_values.specs.declared.Sign.TheVariants.{Plus, Minus}
use Rattle.line_values.specs.Worth.{held}
use Rattle.line_values.specs.HeldNumbers.{held_small, held_bound, held_next}
use Rattle.line_reader.specs.LineContracts.{ByteAt, Skipped, Counted, sign_byte}

-- ---- signs

-- a byte other than 0 stands inside the line
at_byte : {s : List ℕ} {k : ℕ} (b : ℕ) → 0 < b → get_or s k 0 ≡ b → At s k b
at_byte {s} {k} b h e = at (dec_lt k (length s))
  where
    at : Dec (k < length s) → At s k b
    at (yes l) = record { inside = l; is = e }
    at (no l) = absurd (let z : get_or s k 0 ≡ 0 = get_or-eq_default s 0 (omega (arith, l)) in omega arith)

pub sign_at : {s : List ℕ} {k r : ℕ} (b : ℕ) → 0 < b → ByteAt s k r → r ≡ b → At s k b
sign_at b h w e = at_byte b h (sym w.is ∙ e)

pub sum_at : {s : List ℕ} {k b : ℕ} (sign : Sign) → ByteAt s k b → b ≡ sign_byte sign → At s k (sign_byte sign)
sum_at Plus w e = sign_at 43 (omega arith) w e
sum_at Minus w e = sign_at 45 (omega arith) w e

-- ---- blanks

-- the code says i + 1 for the place behind i
pub one_blank : {s : List ℕ} {i j : ℕ} → Blanks s i j → j < length s → get_or s j 0 ≡ 32 → Blanks s i (j + 1)
one_blank w l e = rw add-one (blanks.one_blank w (record { inside = l; is = e }))

-- two readings of the blanks from one place end at the same place
skipped_below : {s : List ℕ} {i a b : ℕ} → Skipped s i a → Skipped s i b → a < b → ⊥
skipped_below {a = a} v w l = v.ends (w.blanks.all a v.blanks.order l).is

skipped_once : {s : List ℕ} {i a b : ℕ} → Skipped s i a → Skipped s i b → a ≡ b
skipped_once {a = a} {b} v w = at (dec_lt a b) (dec_lt b a)
  where
    at : Dec (a < b) → Dec (b < a) → a ≡ b
    at (yes l) k = absurd (skipped_below v w l)
    at (no l) (yes k) = absurd (skipped_below w v k)
    at (no l) (no k) = omega (arith, l, k)

-- the byte at the first sign behind `end` is the one that the code looked at
pub sign_is : {s : List ℕ} {end place sign r : ℕ} → Skipped s end place → Skipped s end sign → ByteAt s sign r → get_or s place 0 ≡ r
sign_is {s} v w a = ap (λ m. get_or s m 0) (skipped_once v w) ∙ sym a.is

pub behind : {s : List ℕ} {k from : ℕ} → Skipped s (k + 1) from → Blanks s (suc k) from
behind w = rw add-one at w.blanks

-- a sign with the blanks around it
pub between : {s : List ℕ} {end sign from b : ℕ} → Skipped s end sign → At s sign b → Skipped s (sign + 1) from → Between s end b from
between {sign = sign} w a v = record { place = sign; before = w.blanks; here = a; behind = behind v }

-- ---- digits

pub low_none : (b : ℕ) → b < 48 → is_digit b ≡ false
unfolding is_digit
low_none b h = rw (lt-leb 48 b h)

pub high_none : (b : ℕ) → 57 < b → is_digit b ≡ false
unfolding is_digit
high_none b h = rw (lt-leb b 57 h, and-false (leb 48 b))

-- ---- numbers

pub counted_one : {s : List ℕ} {at d : ℕ} → d < 10 → get_or s at 0 ≡ 48 + d → Counted s at (at + 1) d
counted_one {s} {at} {d} h e =
    let w = at_byte (48 + d) (omega arith) e in
    record {
      number = d;
      stands = rw add-one (first_digit h w);
      value = sym (held_small d (omega arith));
      reach = omega arith;
      within = omega (arith, w.inside);
    }

pub counted_more : {s : List ℕ} {at next v d r : ℕ} → Counted s at next v → d < 10 → get_or s next 0 ≡ 48 + d → r ≡ held (v * 10 + d)
    → Counted s at (next + 1) r
counted_more {s} {at} {next} {v} {d} c h e q =
    let w = at_byte (48 + d) (omega arith) e in
    record {
      number = c.number * 10 + d;
      stands = rw add-one (next_digit c.stands h w);
      value = q ∙ ap (λ n. held (n * 10 + d)) c.value ∙ held_next c.number d;
      reach = omega (arith, c.reach);
      within = omega (arith, w.inside);
    }

pub counted_bound : {s : List ℕ} {at next v : ℕ} → Counted s at next v → v ≤ 65536
counted_bound c = rw c.value (held_bound c.number)
