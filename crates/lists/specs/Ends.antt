-- Lists put end to end, and the last member of a list.
-- Proves that the two lists are found again where the first one's length is known, and that a list that is not empty is what stands before
-- its last member and then that member. Assumes nothing.
use Rattle.std.specs.Prelude.{◌≡◌, refl, length, get_or, take, drop, ℕ, suc, ◌≤◌}
use Rattle.std.proofs.Common.{sym, ◌∙◌, ap, length-append, take_at, drop_at, take_all, take-suc, arith}
use mathlib.Core.List.{List, [], ◌∷◌, ◌++◌, head-eq_of_cons-eq}

module _ {A : Type 0} where
  pub append_equal : (xs ys : List A) {us vs : List A} → length xs ≡ length ys → xs ++ us ≡ ys ++ vs → (xs ≡ ys) × (us ≡ vs)
  append_equal xs ys {us} {vs} n e = (
    sym (take_at xs us (length ys) n) ∙ ap (take (length ys)) e ∙ take_at ys vs (length ys) refl,
    sym (drop_at xs us (length ys) n) ∙ ap (drop (length ys)) e ∙ drop_at ys vs (length ys) refl,
  )

  -- xs, then y
  abbrev pub then : List A → A → List A
  then xs y = xs ++ (y ∷ [])

  pub length_then : (xs : List A) (y : A) → length (then xs y) ≡ suc (length xs)
  length_then xs y = length-append xs (y ∷ []) ∙ omega arith

  pub last_equal : (xs ys : List A) {x y : A} → then xs x ≡ then ys y → (xs ≡ ys) × (x ≡ y)
  last_equal xs ys {x} {y} e =
      let (q, r) = append_equal xs ys (omega (arith, length_then xs x, length_then ys y, ap length e)) e in
      (q, head-eq_of_cons-eq r)

  -- z, the default, is never read
  pub last_again : (d : ℕ) (l : List A) (z : A) → length l ≡ suc d → l ≡ then (take d l) (get_or l d z)
  last_again d l z h = sym (take_all (suc d) l (omega arith)) ∙ take-suc l d z (omega arith)

  pub last_member : (l : List A) → 1 ≤ length l → (xs : List A) × (y : A) × (l ≡ then xs y)
  last_member [] h = absurd (omega arith)
  last_member (x ∷ []) h = ([], x, refl)
  last_member (x ∷ z ∷ l) h = let (xs, y, e) = last_member (z ∷ l) (omega arith) in (x ∷ xs, y, ap (λ l. x ∷ l) e)
