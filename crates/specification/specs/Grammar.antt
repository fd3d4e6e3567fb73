-- The lines that fitters type: "A line is a number as prime, a colon and an expression of numbers, x, round brackets, `^`, `*`, `+` and `-`."
-- The grammar over the places of a line: `Expression s i j t`, the bytes of s from place i up to place j are an expression, and it is read as the tree t.
-- These are rules, and no way of reading: that a line is read in one way is claimed in `TypedClaims`.
use Rattle.std.specs.Prelude.{◌≡◌, List, ℕ, suc, ◌+◌, ◌*◌, ◌<◌, ◌≤◌, length, get_or}

-- ---- what a line is read as

pub data Tree : Type 0 where
  number : ℕ → Tree
  variable : Tree
  power : Tree → ℕ → Tree
  times : Tree → Tree → Tree
  plus : Tree → Tree → Tree
  minus : Tree → Tree → Tree

-- ---- bytes

-- the signs, in ASCII
abbrev pub blank_sign : ℕ
blank_sign = 0x20

abbrev pub open_sign : ℕ
open_sign = 40

abbrev pub close_sign : ℕ
close_sign = 41

abbrev pub times_sign : ℕ
times_sign = 42

abbrev pub plus_sign : ℕ
plus_sign = 43

abbrev pub minus_sign : ℕ
minus_sign = 45

abbrev pub zero_sign : ℕ
zero_sign = 48

abbrev pub colon_sign : ℕ
colon_sign = 58

abbrev pub power_sign : ℕ
power_sign = 94

abbrev pub x_sign : ℕ
x_sign = 120

-- the byte b stands at place k
pub record At (s : List ℕ) (k b : ℕ) : Type 0 where
  pub inside : k < length s
  pub is : get_or s k 0 ≡ b

-- "Blanks (0x20 only)": nothing else from place i up to place j, and none at all where they are the same
pub record Blanks (s : List ℕ) (i j : ℕ) : Type 0 where
  pub order : i ≤ j
  pub all : (k : ℕ) → i ≤ k → k < j → At s k blank_sign

-- "A number is one or more digits": those from place i up to place j have this value
pub data Number (s : List ℕ) : ℕ → ℕ → ℕ → Type 0 where
  first_digit : {i d : ℕ} → d < 10 → At s i (zero_sign + d) → Number s i (suc i) d
  next_digit : {i j n d : ℕ} → Number s i j n → d < 10 → At s j (zero_sign + d) → Number s i (suc j) (n * 10 + d)

-- a sign at a place k, with blanks before it from place j on and behind it up to place l: "Blanks .. may stand between any two of these signs"
pub record Between (s : List ℕ) (j : ℕ) (sign : ℕ) (l : ℕ) : Type 0 where
  pub place : ℕ
  pub before : Blanks s j place
  pub here : At s place sign
  pub behind : Blanks s (suc place) l

-- ---- the rules

mutual
  -- "a product [binds] before a sum; equals go left to right": all up to the last plus or minus is the left hand of it.
  -- "a plus or a minus stands only between two terms"
  pub data Expression (s : List ℕ) : ℕ → ℕ → Tree → Type 0 where
    one_product : {i j : ℕ} {t : Tree} → Product s i j t → Expression s i j t
    sum : {i j k l : ℕ} {a b : Tree} → Expression s i j a → Between s j plus_sign k → Product s k l b → Expression s i l (plus a b)
    difference : {i j k l : ℕ} {a b : Tree} → Expression s i j a → Between s j minus_sign k → Product s k l b → Expression s i l (minus a b)

  -- "A power binds before a product"
  pub data Product (s : List ℕ) : ℕ → ℕ → Tree → Type 0 where
    one_power : {i j : ℕ} {t : Tree} → Power s i j t → Product s i j t
    product : {i j k l : ℕ} {a b : Tree} → Product s i j a → Between s j times_sign k → Power s k l b → Product s i l (times a b)

  -- "An exponent is a number, and a power has one exponent"
  pub data Power (s : List ℕ) : ℕ → ℕ → Tree → Type 0 where
    one_term : {i j : ℕ} {t : Tree} → Term s i j t → Power s i j t
    raised : {i j k l e : ℕ} {t : Tree} → Term s i j t → Between s j power_sign k → Number s k l e → Power s i l (power t e)

  -- a number, x, or an expression in "round brackets"
  pub data Term (s : List ℕ) : ℕ → ℕ → Tree → Type 0 where
    digits : {i j n : ℕ} → Number s i j n → Term s i j (number n)
    x : {i : ℕ} → At s i x_sign → Term s i (suc i) variable
    brackets : {i j k l : ℕ} {t : Tree} → At s i open_sign → Blanks s (suc i) j → Expression s j k t → Blanks s k l → At s l close_sign
        → Term s i (suc l) t

-- "a number as prime, a colon and an expression", from the first byte to the last: no blank stands before the first sign or behind the last
pub data Line (s : List ℕ) : ℕ → Tree → Type 0 where
  line : {i j p : ℕ} {t : Tree} → Number s 0 i p → Between s i colon_sign j → Expression s j (length s) t → Line s p t
