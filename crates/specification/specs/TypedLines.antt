-- What a typed line is answered: number 15 with its place, by the grammar alone; the polynomial that a line means; the numbers 16, 4 and 17; and the call that
-- makes a sheet of a line, `Typed`. "The sheet goes into an answer area, as from the answer reader."
use Rattle.std.specs.Prelude.{◌≡◌, Bool, false, not, cond, ◌&&◌, ◌||◌, List, [], ◌∷◌, ◌++◌, ℕ, suc, ◌+◌, ◌*◌, ◌%◌, ◌<◌, ◌≤◌, eqb, ltb, length, take}
use Rattle.specification.specs.Limits.{taken, ◌², degree_limit, answer_area, line_limit, number_limit, exponent_limit}
use Rattle.specification.specs.Polynomials.{Poly, degree, leading, is_zero, add, sub, mul, pow}
use Rattle.specification.specs.Records.{trim}
use Rattle.specification.specs.Sheets.{degree_taken, sheet_of, sheet_bytes}
use Rattle.specification.specs.Calls.{Outcome, success, refused}
use Rattle.specification.specs.Grammar.{Tree, number, variable, power, times, plus, minus, Line}

-- ---- 15

-- some line goes on from these bytes
pub record Begins (bytes : List ℕ) : Type 0 where
  pub rest : List ℕ
  pub prime : ℕ
  pub tree : Tree
  pub line : Line (bytes ++ rest) prime tree

-- "not such a line, at the first byte with which no line can go on or at the line's length": k is that place
pub record NoLine (s : List ℕ) (k : ℕ) : Type 0 where
  pub not_such : (p : ℕ) (t : Tree) → Line s p t → ⊥
  pub within : k ≤ length s
  -- with the bytes before it some line can go on, and so with fewer of them; with the byte there none can
  pub goes_on : Begins (take k s)
  pub stops : k < length s → Begins (take (suc k) s) → ⊥

-- ---- what a tree means: a polynomial modulo p²

unfoldable pub meaning : ℕ → Tree → Poly
-- "as a term it is taken modulo p²"
meaning p (number n) = n % p ² ∷ []
meaning p variable = 0 ∷ 1 ∷ []
-- "The zeroth power is 1"
meaning p (power t e) = pow (p ²) (meaning p t) e
meaning p (times a b) = mul (p ²) (meaning p a) (meaning p b)
meaning p (plus a b) = add (p ²) (meaning p a) (meaning p b)
meaning p (minus a b) = sub (p ²) (meaning p a) (meaning p b)

-- ---- 16 and 17

-- some part of a tree passes the test, the tree itself being one
unfoldable pub any_part : (Tree → Bool) → Tree → Bool
any_part test (number n) = test (number n)
any_part test variable = test variable
any_part test (power t e) = any_part test t || test (power t e)
any_part test (times a b) = any_part test a || any_part test b || test (times a b)
any_part test (plus a b) = any_part test a || any_part test b || test (plus a b)
any_part test (minus a b) = any_part test a || any_part test b || test (minus a b)

-- 16: "a number over 65,535 or an exponent over 32"
unfoldable pub is_large : Tree → Bool
is_large (number n) = ltb number_limit n
is_large variable = false
is_large (power t e) = ltb exponent_limit e
is_large (times a b) = false
is_large (plus a b) = false
is_large (minus a b) = false

-- the degree of a list that may end in zeros
abbrev pub degree_of : Poly → ℕ
degree_of f = degree (trim f)

-- 17: "a power of a polynomial other than zero, or a product of two such, whose degrees call for more than 32"
unfoldable pub is_high : ℕ → Tree → Bool
is_high p (number n) = false
is_high p variable = false
is_high p (power t e) = let f : Poly = meaning p t in not (is_zero f) && ltb degree_limit (e * degree_of f)
is_high p (times a b) =
    let f : Poly = meaning p a in
    let g : Poly = meaning p b in
    not (is_zero f) && not (is_zero g) && ltb degree_limit (degree_of f + degree_of g)
is_high p (plus a b) = false
is_high p (minus a b) = false

-- "monic of degree 1 to 32"
unfoldable pub is_pattern : Poly → Bool
is_pattern f = eqb (leading (trim f)) 1 && degree_taken (degree_of f)

-- ---- the checks of a line that is read, in their order, each at "place 0"

-- 17: too high, "or a value that is not monic of degree 1 to 32"; else the sheet of that value
unfoldable pub valued : ℕ → Tree → Outcome
valued p t =
    cond (any_part (is_high p) t || not (is_pattern (meaning p t))) (refused 17 0)
    (let bytes : List ℕ = sheet_bytes (sheet_of p (trim (meaning p t))) in success bytes)

-- "then 16, .. a number over 65,535 or an exponent over 32; then 4, place 0, for the prime; then 17": the prime is a number too
unfoldable pub worked : ℕ → Tree → Outcome
worked p t = cond (ltb number_limit p || any_part is_large t) (refused 16 0) (cond (taken p) (valued p t) (refused 4 0))

-- ---- the call, the length of the answer area given

-- o is what a line is answered: 1 "comes before all"; 16 for "a line over 255 bytes (tested before 15)"; 15; and what a line that is read is worked to
pub data Typed (area : ℕ) (line : List ℕ) (o : Outcome) : Type 0 where
  short_area : area < answer_area → o ≡ refused 1 0 → Typed area line o
  long_line : answer_area ≤ area → line_limit < length line → o ≡ refused 16 0 → Typed area line o
  no_line : {k : ℕ} → answer_area ≤ area → length line ≤ line_limit → NoLine line k → o ≡ refused 15 k → Typed area line o
  is_line : {p : ℕ} {t : Tree} → answer_area ≤ area → length line ≤ line_limit → Line line p t → o ≡ worked p t → Typed area line o
