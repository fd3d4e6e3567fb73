-- Sums of numbers over a list, `total f l`.
-- Proves that sums over two lists swap, that they are monotone, that equal sums of ordered terms have equal terms,
-- what one member, or two different ones, say of the sum, and how a loop over an array adds up its entries. Assumes nothing.
use Rattle.std.specs.Prelude.{◌≡◌, ◌≢◌, length, get_or, take}
use Rattle.std.proofs.Math.Path.{refl, sym}
use Rattle.std.proofs.Common.{◌∙◌, ap, add-one}
use mathlib.Core.List.{List, [], ◌∷◌}
use mathlib.Core.List.Memᴰ.{head as here}
use mathlib.Core.List.Memᴰ.{tail as there}
use Prim.Native.Nat.{ℕ, zero, suc, ◌≤◌, ◌<◌, ◌+◌, ◌*◌}
use native.Mathlib.Omega.{arith}
use Rattle.lists.specs.Members.{◌∈◌, all_tail}

unfoldable pub total : {A : Type 0} → (A → ℕ) → List A → ℕ
total f [] = 0
total f (a ∷ l) = f a + total f l

module _ {A : Type 0} where
  pub total_nil : (f : A → ℕ) → total f [] ≡ 0
  unfolding total
  total_nil f = refl

  pub total_cons : (f : A → ℕ) (a : A) (l : List A) → total f (a ∷ l) ≡ f a + total f l
  unfolding total
  total_cons f a l = refl

  pub total_cons_zero : (f : A → ℕ) {a : A} (l : List A) → f a ≡ 0 → total f (a ∷ l) ≡ total f l
  total_cons_zero f {a} l e = omega (arith, total_cons f a l)

  pub total_cons_one : (f : A → ℕ) {a : A} (l : List A) → f a ≡ 1 → total f (a ∷ l) ≡ suc (total f l)
  total_cons_one f {a} l e = omega (arith, total_cons f a l)

  pub total_constant : (f : A → ℕ) (n : ℕ) (l : List A) → ((a : A) → f a ≡ n) → total f l ≡ length l * n
  unfolding total
  total_constant f n [] h = omega arith
  total_constant f n (a ∷ l) h = omega (arith, h a, total_constant f n l h)

  pub total_one : (l : List A) → total (λ a. 1) l ≡ length l
  total_one l = omega (arith, total_constant (λ a. 1) 1 l (λ a. refl))

  total_zero : (l : List A) → total (λ a. 0) l ≡ 0
  total_zero l = omega (arith, total_constant (λ a. 0) 0 l (λ a. refl))

  total_add : (f g : A → ℕ) (l : List A) → total (λ a. f a + g a) l ≡ total f l + total g l
  unfolding total
  total_add f g [] = refl
  total_add f g (a ∷ l) = omega (arith, total_add f g l)

  pub total_same : (f g : A → ℕ) (l : List A) → ((a : A) → a ∈ l → f a ≡ g a) → total f l ≡ total g l
  unfolding total
  total_same f g [] h = refl
  total_same f g (a ∷ l) h = omega (arith, h a (here refl), total_same f g l (all_tail h))

  pub total_mono : (f g : A → ℕ) (l : List A) → ((a : A) → a ∈ l → f a ≤ g a) → total f l ≤ total g l
  unfolding total
  total_mono f g [] h = omega arith
  total_mono f g (a ∷ l) h = omega (arith, h a (here refl), total_mono f g l (all_tail h))

  equal_at : (f g : A → ℕ) (b : A) (l : List A) → ((a : A) → a ∈ l → f a ≤ g a) → total g l ≤ total f l → b ∈ l → f b ≡ g b
  unfolding total
  equal_at f g b l h e (here {x} {xs} q) = rw q (omega (arith, e, h x (here refl), total_mono f g xs (all_tail h)))
  equal_at f g b l h e (there {x} {xs} i) = equal_at f g b xs (all_tail h) (omega (arith, e, h x (here refl))) i

  -- equal sums of terms that are ordered: equal terms
  pub total_equal : (f g : A → ℕ) (l : List A) → ((a : A) → a ∈ l → f a ≤ g a) → total g l ≤ total f l → (a : A) → a ∈ l → f a ≡ g a
  unfolding total
  total_equal f g l h e b i = equal_at f g b l h e i

  pub member_le : (f : A → ℕ) {a : A} {l : List A} → a ∈ l → f a ≤ total f l
  unfolding total
  member_le f (here e) = rw e (omega arith)
  member_le f (there i) = omega (arith, member_le f i)

  pub two_le : (f : A → ℕ) {a b : A} {l : List A} → a ≢ b → a ∈ l → b ∈ l → f a + f b ≤ total f l
  unfolding total
  two_le f n (here e) (here q) = absurd (n (e ∙ sym q))
  two_le f n (here e) (there j) = rw e (omega (arith, member_le f j))
  two_le f n (there i) (here q) = rw q (omega (arith, member_le f i))
  two_le f n (there i) (there j) = omega (arith, two_le f n i j)

  -- a positive sum has a positive term
  pub positive_member : (f : A → ℕ) (l : List A) → 1 ≤ total f l → (a : A) × a ∈ l × (1 ≤ f a)
  unfolding total
  positive_member f [] e = absurd (omega arith)
  positive_member f (a ∷ l) e = go (f a) refl (positive_member f l)
    where
      go : (n : ℕ) → f a ≡ n → (1 ≤ total f l → (b : A) × b ∈ l × (1 ≤ f b)) → (b : A) × b ∈ (a ∷ l) × (1 ≤ f b)
      go zero q h = let (b, i, k) = h (omega arith) in (b, there i, k)
      go (suc n) q h = (a, here refl, omega arith)

-- the sums may be taken in either order
pub total_swap : {A C : Type 0} (f : A → C → ℕ) (l : List A) (m : List C)
    → total (λ a. total (f a) m) l ≡ total (λ c. total (λ a. f a c) l) m
unfolding total
total_swap f [] m = sym (total_zero m)
total_swap f (a ∷ l) m = ap (λ n. total (f a) m + n) (total_swap f l m) ∙ sym (total_add (f a) (λ c. total (λ b. f b c) l) m)

-- ---- a loop over an array, entry by entry; d is what is read past its end

module _ {A : Type 0} (f : A → ℕ) where
  total_next : (d : A) (l : List A) (i : ℕ) → i < length l → total f (take (suc i) l) ≡ total f (take i l) + f (get_or l i d)
  unfolding total
  total_next d [] i u = absurd (omega arith)
  total_next d (a ∷ l) zero u = omega arith
  total_next d (a ∷ l) (suc i) u = omega (arith, total_next d l i (omega arith))

  -- the loop has k, and adds v
  pub total_more : (d : A) (l : List A) (i : ℕ) {k v : ℕ} → i < length l → k ≡ total f (take i l) → v ≡ f (get_or l i d) → k + v ≡ total f (take (i + 1) l)
  total_more d l i u e q = rw (e, q) (sym (total_next d l i u) ∙ ap (λ j. total f (take j l)) (sym (add-one i)))

  total_within : (l : List A) (i n : ℕ) → i ≤ n → total f (take i l) ≤ total f (take n l)
  unfolding total
  total_within [] zero zero u = omega arith
  total_within [] zero (suc n) u = omega arith
  total_within [] (suc i) zero u = omega arith
  total_within [] (suc i) (suc n) u = omega arith
  total_within (a ∷ l) zero n u = omega arith
  total_within (a ∷ l) (suc i) zero u = absurd (omega arith)
  total_within (a ∷ l) (suc i) (suc n) u = omega (arith, total_within l i n (omega arith))

  -- what bounds the whole bounds what the loop has
  pub total_below : (l : List A) (i n : ℕ) {k b : ℕ} → i < n → total f (take n l) < b → k ≡ total f (take (i + 1) l) → k < b
  total_below l i n u v e = omega (arith, total_within l (i + 1) n (omega arith))
