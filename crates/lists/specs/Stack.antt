-- The first elements of an array as a stack, the last of them on top: `stack d a k`.
-- Proves what the stack is where its top is taken, and where two elements take the place of the top. Assumes nothing.
use Rattle.std.specs.Prelude.{◌≡◌, length, get_or, set}
use Rattle.std.proofs.Math.Path.{refl, ap, ap₂}
use Rattle.std.proofs.Common.{◌∙◌, add-one, get_or-set_same, get_or-set_other}
use mathlib.Core.List.{List, [], ◌∷◌}
use Prim.Native.Nat.{ℕ, zero, suc, ◌+◌, ◌-◌, ◌≤◌, ◌<◌}
use native.Mathlib.Omega.{arith}
use Rattle.std.proofs.Math.ListN.{length-set}

-- d is what is read past an array's end
module _ {A : Type 0} (d : A) where
  unfoldable pub stack : List A → ℕ → List A
  stack a zero = []
  stack a (suc k) = get_or a k d ∷ stack a k

  stack_set : (a : List A) (x : A) (i k : ℕ) → k ≤ i → stack (set a i x) k ≡ stack a k
  unfolding stack
  stack_set a x i zero l = refl
  stack_set a x i (suc k) l = ap₂ ◌∷◌ (get_or-set_other a i k x d (omega arith)) (stack_set a x i k (omega arith))

  pub stack_empty : (a : List A) (k : ℕ) → k ≡ 0 → stack a k ≡ []
  unfolding stack
  stack_empty a k e = ap (stack a) e

  pub stack_length : (a : List A) (k : ℕ) → length (stack a k) ≡ k
  unfolding stack
  stack_length a zero = refl
  stack_length a (suc k) = ap suc (stack_length a k)

  pub stack_top : (a : List A) (k : ℕ) → 0 < k → stack a k ≡ get_or a (k - 1) d ∷ stack a (k - 1)
  unfolding stack
  stack_top a k l = ap (stack a) (let s : k ≡ suc (k - 1) = omega arith in s)

  pub stack_two : (a : List A) (x y : A) (k : ℕ) → 0 < k → k < length a → stack (set (set a (k - 1) y) k x) (k + 1) ≡ x ∷ y ∷ stack a (k - 1)
  unfolding stack
  stack_two a x y k l u =
      ap (stack (set (set a (k - 1) y) k x)) (add-one k)
      ∙ ap₂ ◌∷◌ (get_or-set_same (set a (k - 1) y) k x d (omega (arith, length-set a (k - 1) y)))
      (stack_set (set a (k - 1) y) x k k (omega arith) ∙ ap (stack (set a (k - 1) y)) (let s : k ≡ suc (k - 1) = omega arith in s)
      ∙ ap₂ ◌∷◌ (get_or-set_same a (k - 1) y d (omega arith)) (stack_set a y (k - 1) (k - 1) (omega arith)))
