-- Lines of `Grammar` with their readings, each derived rule by rule: the order of differences, which sign binds first, the order of factors, the line of the
-- request, and a number of two digits. `TypedTrials` has more lines, with their outcomes.
-- Proves that these lines are read so. Assumes nothing.
use Rattle.std.specs.Prelude.{◌≡◌, refl, List, ℕ, suc, ◌+◌, T, ltb, length, get_or}
use Rattle.std.proofs.Common.{le_refl, arith, leb→le}
use Rattle.specification.specs.Grammar.{number, variable, power, times, plus, minus}
use Rattle.specification.specs.Grammar.{blank_sign, zero_sign, x_sign, At, Blanks, Between, Number, first_digit, next_digit}
use Rattle.specification.specs.Grammar.{one_product, sum, difference, one_power, product, Power, one_term, raised}
use Rattle.specification.specs.Grammar.{digits, x, brackets, Line, line}
use Rattle.specification.specs.Text.{ascii}

-- ---- signs: with a line given, `tt` says that the place is inside, and `refl` that the byte is there

module _ {s : List ℕ} where
  at : {k b : ℕ} → T (ltb k (length s)) → get_or s k 0 ≡ b → At s k b
  at {k = k} inside is = record { inside = leb→le (suc k) (length s) inside; is = is }

  no_blanks : {i : ℕ} → Blanks s i i
  no_blanks {i = i} = record { order = le_refl i; all = λ k l u. absurd (omega arith) }

  one_blank : {i : ℕ} → T (ltb i (length s)) → get_or s i 0 ≡ blank_sign → Blanks s i (suc i)
  one_blank {i = i} inside is = record { order = omega arith; all = λ k l u. rw (let z : k ≡ i = omega arith in z) (at inside is) }

  -- a sign with no blanks before it, and with none behind it either
  sign_then : {i j b : ℕ} → T (ltb i (length s)) → get_or s i 0 ≡ b → Blanks s (suc i) j → Between s i b j
  sign_then {i = i} inside is behind = record { place = i; before = no_blanks; here = at inside is; behind = behind }

  sign : {i b : ℕ} → T (ltb i (length s)) → get_or s i 0 ≡ b → Between s i b (suc i)
  sign inside is = sign_then inside is no_blanks

  -- a number of one digit
  digit : {i d : ℕ} → T (ltb d 10) → T (ltb i (length s)) → get_or s i 0 ≡ zero_sign + d → Number s i (suc i) d
  digit {d = d} small inside is = first_digit (leb→le (suc d) 10 small) (at inside is)

  -- such a number as a power without exponent, and x
  a_digit : {i d : ℕ} → T (ltb d 10) → T (ltb i (length s)) → get_or s i 0 ≡ zero_sign + d → Power s i (suc i) (number d)
  a_digit small inside is = one_term (digits (digit small inside is))

  an_x : {i : ℕ} → T (ltb i (length s)) → get_or s i 0 ≡ x_sign → Power s i (suc i) variable
  an_x inside is = one_term (x (at inside is))

-- ---- lines

-- "equals go left to right"
pub left_to_right : Line (ascii "3:x-1-1") 3 (minus (minus variable (number 1)) (number 1))
left_to_right =
    line (digit tt tt refl) (sign tt refl)
    (difference
    (difference (one_product (one_power (an_x tt refl))) (sign tt refl) (one_power (a_digit tt tt refl)))
    (sign tt refl) (one_power (a_digit tt tt refl)))

-- "A power binds before a product and a product before a sum"
pub binding : Line (ascii "3:1+2*x^2*x") 3 (plus (number 1) (times (times (number 2) (power variable 2)) variable))
binding =
    line (digit tt tt refl) (sign tt refl)
    (sum (one_product (one_power (a_digit tt tt refl))) (sign tt refl)
    (product (product (one_power (a_digit tt tt refl)) (sign tt refl) (raised (x (at tt refl)) (sign tt refl) (digit tt tt refl))) (sign tt refl)
    (an_x tt refl)))

pub factors_left_to_right : Line (ascii "3:x*x*2") 3 (times (times variable variable) (number 2))
factors_left_to_right =
    line (digit tt tt refl) (sign tt refl)
    (one_product (product (product (one_power (an_x tt refl)) (sign tt refl) (an_x tt refl)) (sign tt refl) (a_digit tt tt refl)))

-- "Fitters type `3: (x+1)^2*(x+4)`"
pub example_read : Line (ascii "3: (x+1)^2*(x+4)") 3 (times (power (plus variable (number 1)) 2) (plus variable (number 4)))
example_read =
    line (digit tt tt refl) (sign_then tt refl (one_blank tt refl))
    (one_product (product
    (one_power (raised
    (brackets (at tt refl) no_blanks (sum (one_product (one_power (an_x tt refl))) (sign tt refl) (one_power (a_digit tt tt refl))) no_blanks (at tt refl))
    (sign tt refl) (digit tt tt refl)))
    (sign tt refl)
    (one_term
    (brackets (at tt refl) no_blanks (sum (one_product (one_power (an_x tt refl))) (sign tt refl) (one_power (a_digit tt tt refl))) no_blanks (at tt refl)))))

-- "A number is one or more digits"
pub digits_read : Line (ascii "12:x") 12 variable
digits_read =
    line (next_digit {n = 1} {d = 2} (digit tt tt refl) (omega arith) (at tt refl)) (sign tt refl) (one_product (one_power (an_x tt refl)))
