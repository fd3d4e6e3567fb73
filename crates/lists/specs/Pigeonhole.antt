-- The pigeonhole principle: of more than n members of a list with n places two are equal. `Twice g n`: g has one value at two places up to n.
-- Proves it, where equality is decided. Assumes nothing.
use Rattle.std.specs.Prelude.{◌≡◌, List, [], ◌∷◌, map, ◌≢◌, length}
use Rattle.std.proofs.Math.Path.{refl, sym, ap}
use Rattle.std.proofs.Common.{◌∙◌, arith}
use mathlib.Core.List.Memᴰ
use mathlib.Core.List.Memᴰ.{head as here}
use mathlib.Core.List.Memᴰ.{tail as there}
use Prim.Native.Nat.{ℕ, zero, suc, ◌≤◌, ◌<◌, zero-le}
use Rattle.specification.specs.Lists.{up_from}
use Rattle.lists.specs.Members.{◌∈◌}
use Rattle.lists.specs.NumbersFrom.{up_from_member, up_from_has}
use Rattle.lists.specs.Distinct.{member?}

-- two places up to n with the same value
pub record Twice {A : Type 0} (g : ℕ → A) (n : ℕ) : Type 0 where
  pub i : ℕ
  pub j : ℕ
  pub apart : i < j
  pub within : j ≤ n
  pub equal : g i ≡ g j

module _ {A : Type 0} where
  -- the list without a member
  without : {a : A} {l : List A} → a ∈ l → List A
  without (here {xs = l} e) = l
  without (there {x} i) = x ∷ without i

  without_length : {a : A} {l : List A} (i : a ∈ l) → suc (length (without i)) ≡ length l
  unfolding without
  without_length (here e) = refl
  without_length (there i) = ap suc (without_length i)

  -- the others are still there
  without_has : {a b : A} {l : List A} (i : a ∈ l) → b ∈ l → b ≢ a → b ∈ without i
  unfolding without
  without_has (here e) (here q) h = absurd (h (q ∙ sym e))
  without_has (here e) (there j) h = j
  without_has (there i) (here q) h = here q
  without_has (there i) (there j) h = there (without_has i j h)

  module _ (decide : Discrete A) where
    pub two_equal : (n : ℕ) (l : List A) → length l ≡ n → (g : ℕ → A) → ((i : ℕ) → i ≤ n → g i ∈ l) → Twice g n
    two_equal zero [] e g m = absurd (Memᴰ.not-nil (m 0 zero-le))
    two_equal zero (a ∷ l) e g m = absurd (omega (arith, e))
    two_equal (suc n) l e g m =
        at (member? decide (g (suc n)) (map g (up_from 0 (suc n)))) (two_equal n (without last) (omega (arith, without_length last, e)) g)
      where
        last : g (suc n) ∈ l
        last = m (suc n) (omega arith)

        before : (i : ℕ) → i ≤ n → g i ∈ map g (up_from 0 (suc n))
        before i u = Memᴰ.map g (up_from_has 0 (suc n) zero-le (omega arith))

        -- the last value has come before, or the others are members of the list without it
        at : Dec (g (suc n) ∈ map g (up_from 0 (suc n))) → (((i : ℕ) → i ≤ n → g i ∈ without last) → Twice g n) → Twice g (suc n)
        at (yes i) others =
            let (j, k, q) = Memᴰ.of_map g (up_from 0 (suc n)) i in
            record { i = j; j = suc n; apart = omega (arith, (up_from_member 0 (suc n) k).1); within = omega arith; equal = q }
        at (no new) others =
            let t = others (λ i u. without_has last (m i (omega arith)) (λ q. new (Memᴰ.cast (sym q) (before i u)))) in
            record { i = t.i; j = t.j; apart = t.apart; within = omega (arith, t.within); equal = t.equal }
