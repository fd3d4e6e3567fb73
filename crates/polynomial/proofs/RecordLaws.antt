-- Padding of coefficient lists, as the specification's records have it.
-- Proves that it keeps the polynomial, how long it is, that an array which represents a polynomial is the padding of its list, and that the records of one
-- and x have the arrays of monomials.
-- Assumes nothing.
use mathlib.Core.Path.{◌≡◌, sym, ◌∙◌, ap}
use mathlib.Core.List.{List, ◌++◌}
use mathlib.Core.Logic.{⊎_elim}
use Prim.Native.Nat.{ℕ, ◌≤◌, ◌<◌}
use native.Mathlib.Omega.{arith}
use lib.ListN.{length, get_or, set, replicate, length-take, length-append, length-replicate, get_or-eq_default}
use lib.Seq.{get_or-take}
use Rattle.specification.specs.Records.{pad, Result, result, prime_number, constant, one_of, x_of}
use Rattle.algebra.specs.Numbers.{lt_or_le}
use Rattle.algebra.specs.CoefficientLists.{ℤ[x]/, poly, same_list}
use Rattle.lists.specs.Places.{read_padded}
use Rattle.arrays.specs.Represents.{Represents}
use Rattle.arrays.specs.Held.{same_array}
use Rattle.arrays.specs.MonomialArray.{IsMonomial, monomial_set}
use Rattle.arrays.specs.SameEntries.{same_poly}

pub length_pad : (f : List ℕ) → length (pad f) ≡ 33
unfolding pad
length_pad f = simp (length-take, length-append, length-replicate) (omega arith)

pub get_d_pad : (f : List ℕ) → length f ≤ 33 → (k : ℕ) → get_or (pad f) k 0 ≡ get_or f k 0
unfolding pad
get_d_pad f h k =
    ⊎_elim (λ l. get_or-take 33 (f ++ replicate 33 0) k 0 l ∙ read_padded 0 f 33 k)
    (λ l. get_or-eq_default (pad f) 0 {n = k} (omega (arith, length_pad f)) ∙ sym (get_or-eq_default f 0 {n = k} (omega arith)))
    (lt_or_le k 33)

pub poly_pad : (n : ℕ) (f : List ℕ) → length f ≤ 33 → poly n (pad f) ≡ poly n f
poly_pad n f h = same_poly n (pad f) f (get_d_pad f h)

-- ---- lists that fit an array

-- f is a list of p: 33 coefficients at most, each below n
pub record ListOf (n : ℕ) (f : List ℕ) (p : ℤ[x]/ n) : Type 0 where
  pub short : length f ≤ 33
  pub low : (k : ℕ) → get_or f k 0 < n
  pub is : poly n f ≡ p

-- the array of a polynomial is the padding of its list
pub array_is : {n : ℕ} {r f : List ℕ} {p : ℤ[x]/ n} → Represents n r p → ListOf n f p → r ≡ pad f
array_is {n} {r} {f} h l =
    same_list h.reduced (record { len = length_pad f; low = λ k. rw (get_d_pad f l.short k) (l.low k) })
    (h.is ∙ sym l.is ∙ sym (poly_pad n f l.short))

-- and the padding is that polynomial
pub pad_is : {n : ℕ} {f : List ℕ} {p : ℤ[x]/ n} → ListOf n f p → poly n (pad f) ≡ p
pad_is {n} {f} l = poly_pad n f l.short ∙ l.is

-- ---- arrays of monomials

-- such an array is zeros with a 1 in them
monomial_is : {i : ℕ} {f : List ℕ} → i < 33 → IsMonomial i f → f ≡ set (replicate 33 0) i 1
monomial_is {i} l m = same_array m.shaped (monomial_set i l).shaped (m.is ∙ sym (monomial_set i l).is)

abbrev fixed : ℕ → List ℕ → Result
fixed p f = result (prime_number p) (record { prime = p; coefficients = f })

module _ (p : ℕ) {f : List ℕ} {r : Result} where
  pub one_is : IsMonomial 0 f → r ≡ fixed p f → r ≡ one_of p
  unfolding constant pad
  one_is m e = e ∙ ap (fixed p) (monomial_is (omega arith) m)

  pub x_is : IsMonomial 1 f → r ≡ fixed p f → r ≡ x_of p
  unfolding constant pad
  x_is m e = e ∙ ap (fixed p) (monomial_is (omega arith) m)
