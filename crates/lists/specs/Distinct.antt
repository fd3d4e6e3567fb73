-- `distinct l`: the list l without repeats, over a type with decided equality (a member that comes again later is left out).
-- Proves that the members stay the same, and how long the list is for l ++ m, for n times a and under a function. Assumes nothing.
use Rattle.std.specs.Prelude.{◌⊎◌, ◌≡◌, refl}
use Rattle.std.proofs.Common.{inl, inr, sym, ap}
use Rattle.std.proofs.Math.Logic.{⊎_elim}
use mathlib.Core.List.Memᴰ
use mathlib.Core.List.{List, [], ◌∷◌, ◌++◌, map}
use mathlib.Core.List.Memᴰ.{head as here}
use mathlib.Core.List.Memᴰ.{tail as there}
use Rattle.std.proofs.Math.ListN.{length, replicate}
use Prim.Native.Nat.{ℕ, zero, suc, ◌≤◌, ◌+◌}
use native.Mathlib.Omega.{arith}
use Rattle.lists.specs.Members.{◌∈◌, All}

module _ {A : Type 0} (dec : Discrete A) where
  pub member? : (a : A) (l : List A) → Dec (a ∈ l)
  member? a [] = no Memᴰ.not-nil
  member? a (b ∷ l) = go (dec a b) (member? a l)
    where
      go : Dec (a ≡ b) → Dec (a ∈ l) → Dec (a ∈ (b ∷ l))
      go (yes e) d = yes (here e)
      go (no n) (yes i) = yes (there i)
      go (no n) (no k) = no (λ i. ⊎_elim n k (Memᴰ.cases_cons i))

  abbrev pub keep : {D : Type 0} → A → Dec D → List A → List A
  keep a (yes _) l = l
  keep a (no _) l = a ∷ l

  unfoldable pub distinct : List A → List A
  distinct [] = []
  distinct (a ∷ l) = keep a (member? a l) (distinct l)

  pub distinct_keeps : (l : List A) → All (λ a. a ∈ distinct l) l
  unfolding distinct
  distinct_keeps [] b i = absurd (Memᴰ.not-nil i)
  distinct_keeps (a ∷ l) b i = go (member? a l) (Memᴰ.cases_cons i) (distinct_keeps l b)
    where
      go : (d : Dec (a ∈ l)) → (b ≡ a) ⊎ b ∈ l → (b ∈ l → b ∈ distinct l) → b ∈ keep a d (distinct l)
      go (yes j) (inl e) h = h (Memᴰ.cast e j)
      go (yes j) (inr k) h = h k
      go (no n) (inl e) h = here e
      go (no n) (inr k) h = there (h k)

  pub distinct_only : (l : List A) → All (λ a. a ∈ l) (distinct l)
  unfolding distinct
  distinct_only [] b i = i
  distinct_only (a ∷ l) b i = go (member? a l) i (distinct_only l b)
    where
      go : (d : Dec (a ∈ l)) → b ∈ keep a d (distinct l) → (b ∈ distinct l → b ∈ l) → b ∈ (a ∷ l)
      go (yes j) k h = there (h k)
      go (no n) k h = ⊎_elim (λ e. here e) (λ k. there (h k)) (Memᴰ.cases_cons k)

  -- at most as many different members as the two lists have by themselves
  pub distinct_append : (l m : List A) → length (distinct (l ++ m)) ≤ length (distinct l) + length (distinct m)
  unfolding distinct
  distinct_append [] m = omega arith
  distinct_append (a ∷ l) m = go (member? a (l ++ m)) (member? a l) (distinct_append l m)
    where
      go : (d : Dec (a ∈ (l ++ m))) (e : Dec (a ∈ l)) → length (distinct (l ++ m)) ≤ length (distinct l) + length (distinct m)
          → length (keep a d (distinct (l ++ m))) ≤ length (keep a e (distinct l)) + length (distinct m)
      go (yes i) (yes j) h = h
      go (yes i) (no n) h = omega arith
      go (no n) (yes j) h = absurd (n (Memᴰ.append_left m j))
      go (no n) (no k) h = omega arith

  pub distinct_replicate : (n : ℕ) (a : A) → length (distinct (replicate n a)) ≤ 1
  unfolding distinct
  distinct_replicate zero a = omega arith
  distinct_replicate (suc n) a = go n (member? a (replicate n a)) (distinct_replicate n a)
    where
      go : (n : ℕ) (d : Dec (a ∈ replicate n a)) → length (distinct (replicate n a)) ≤ 1 → length (keep a d (distinct (replicate n a))) ≤ 1
      go n (yes i) h = h
      go zero (no k) h = omega arith
      go (suc n) (no k) h = absurd (k (here refl))

-- a function that tells the members apart keeps their number
pub distinct_map : {A B : Type 0} (dec_a : Discrete A) (dec_b : Discrete B) (φ : A → B) (l : List A)
    → ((a b : A) → a ∈ l → b ∈ l → φ a ≡ φ b → a ≡ b) → length (distinct dec_b (map φ l)) ≡ length (distinct dec_a l)
unfolding distinct
distinct_map dec_a dec_b φ [] h = refl
distinct_map dec_a dec_b φ (a ∷ l) h =
    go (member? dec_b (φ a) (map φ l)) (member? dec_a a l) (distinct_map dec_a dec_b φ l (λ b c i j. h b c (there i) (there j)))
  where
    back : φ a ∈ map φ l → a ∈ l
    back i = let (b, j, e) = Memᴰ.of_map φ l i in Memᴰ.cast (h a b (here refl) (there j) (sym e)) j

    go : (d : Dec (φ a ∈ map φ l)) (e : Dec (a ∈ l)) → length (distinct dec_b (map φ l)) ≡ length (distinct dec_a l)
        → length (keep dec_b (φ a) d (distinct dec_b (map φ l))) ≡ length (keep dec_a a e (distinct dec_a l))
    go (yes i) (yes j) q = q
    go (yes i) (no n) q = absurd (n (back i))
    go (no n) (yes j) q = absurd (n (Memᴰ.map φ j))
    go (no n) (no k) q = ap suc q
