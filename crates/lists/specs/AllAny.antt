-- The specification's tests of a list: `all_pass`, every member passes, and `any_passes`, some member does.
-- Proves what they say of members and of places, and what a loop over the places knows of `all_pass`. Assumes nothing.
use Rattle.std.specs.Prelude.{◌≡◌, Bool, true, false, ℕ, ◌<◌, ◌≤◌, length, get_or, eqb}
use Rattle.std.proofs.Math.Path.{refl, subst}
use Rattle.std.proofs.Common.{sym, arith, eqb→eq}
use mathlib.Core.List.{List, [], ◌∷◌, ◌++◌}
use mathlib.Core.List.Memᴰ.{head as here}
use mathlib.Core.List.Memᴰ.{tail as there}
use Rattle.std.proofs.Math.Logic.{⊎_elim}
use Rattle.std.proofs.Math.Dec.{T}
use Rattle.specification.specs.Lists.{all_pass, any_passes}
use Rattle.lists.specs.Tests.{passes, fails, both, left, right, or_left, or_right, either}
use Rattle.lists.specs.Members.{◌∈◌, All, all_tail, all_entries, all_read}

module _ {A : Type 0} (test : A → Bool) where
  -- all pass, so each does
  pub all_member : (l : List A) → T (all_pass test l) → {a : A} → a ∈ l → T (test a)
  unfolding all_pass
  all_member (a ∷ l) t (here e) = subst (λ b. T (test b)) (sym e) (left (test a) (all_pass test l) t)
  all_member (a ∷ l) t (there i) = all_member l (right (test a) (all_pass test l) t) i
  all_member [] t i = elim i [ ]

  pub all_passes : (l : List A) → All (λ a. T (test a)) l → T (all_pass test l)
  unfolding all_pass
  all_passes [] h = tt
  all_passes (a ∷ l) h = both (test a) (all_pass test l) (h a (here refl)) (all_passes l (all_tail h))

  -- some pass, so there is one
  pub any_member : (l : List A) → T (any_passes test l) → (a : A) × (a ∈ l) × T (test a)
  unfolding any_passes
  any_member [] t = absurd t
  any_member (a ∷ l) t =
      ⊎_elim (λ s. (a, here refl, s)) (λ s. let (b, i, u) = any_member l s in (b, there i, u)) (either (test a) (any_passes test l) t)

  pub any_passes_lem : {a : A} {l : List A} → a ∈ l → T (test a) → T (any_passes test l)
  unfolding any_passes
  any_passes_lem (here {x} {xs} e) t = or_left (test x) (any_passes test xs) (subst (λ b. T (test b)) e t)
  any_passes_lem (there {x} {xs} i) t = or_right (test x) (any_passes test xs) (any_passes_lem i t)

  -- those that fail are passed over
  pub any_past : (l m : List A) → All (λ a. test a ≡ false) l → any_passes test (l ++ m) ≡ any_passes test m
  unfolding any_passes
  any_past [] m h = refl
  any_past (a ∷ l) m h = rw (h a (here refl)) (any_past l m (all_tail h))

  -- the same by places; past the end d is read
  module _ (d : A) (l : List A) where
    pub all_at : T (all_pass test l) → (k : ℕ) → k < length l → T (test (get_or l k d))
    all_at t = all_read (λ a. T (test a)) d l (λ a i. all_member l t i)

    pub all_from : ((k : ℕ) → k < length l → T (test (get_or l k d))) → T (all_pass test l)
    all_from h = all_passes l (all_entries (λ a. T (test a)) d l h)

    -- a loop has seen i places pass, and those are all
    pub all_true : (i : ℕ) → ((k : ℕ) → k < i → test (get_or l k d) ≡ true) → length l ≤ i → true ≡ all_pass test l
    all_true i h u = sym (passes (all_pass test l) (all_from (λ k v. subst T (sym (h k (omega arith))) tt)))

    -- a loop leaves at the place k
    pub all_false : (k : ℕ) → k < length l → test (get_or l k d) ≡ false → false ≡ all_pass test l
    all_false k u h = sym (fails (all_pass test l) (λ t. subst T h (all_at t k u)))

-- a number that is in the list passes
pub member_passes : (test : ℕ → Bool) (n : ℕ) (l : List ℕ) → T (any_passes (eqb n) l) → T (all_pass test l) → T (test n)
member_passes test n l m t = let (a, i, e) = any_member (eqb n) l m in subst (λ b. T (test b)) (sym (eqb→eq n a e)) (all_member test l t i)
