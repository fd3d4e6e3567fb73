-- Lists put end to end, one for each member of a list: `flat_map f l`.
-- Proves how this goes with ++, map and take and one in another, which members the whole has, and how long it is. Assumes nothing.
use Rattle.std.specs.Prelude.{◌≡◌, ℕ, suc, ◌+◌, ◌*◌, ◌≤◌, ◌<◌, get_or, take}
use Rattle.std.proofs.Math.Path.{refl, sym, ap}
use Rattle.std.proofs.Common.{subst, ◌∙◌, take-suc}
use Rattle.std.proofs.Math.Logic.{⊎_elim}
use mathlib.Core.List.Memᴰ
use mathlib.Core.List.{
  List,
  [],
  ◌∷◌,
  ◌++◌,
  map,
  flat_map,
  append_assoc,
  append-nil,
}
use mathlib.Core.List.Memᴰ.{head as here}
use mathlib.Core.List.Memᴰ.{tail as there}
use native.Mathlib.Omega.{arith}
use Rattle.std.proofs.Math.ListN.{length, length-append}
use Rattle.lists.specs.Members.{◌∈◌, All, all_tail}
use Rattle.lists.specs.Sums.{total}

module _ {A B : Type 0} (f : A → List B) where
  pub flat_map_append : (l m : List A) → flat_map f (l ++ m) ≡ flat_map f l ++ flat_map f m
  unfolding flat_map
  flat_map_append [] m = refl
  flat_map_append (a ∷ l) m = ap (λ r. f a ++ r) (flat_map_append l m) ∙ sym (append_assoc (f a) (flat_map f l) (flat_map f m))

  -- the first member's, then the others'
  pub flat_map_cons : (a : A) (l : List A) (bs : List B) → flat_map f (a ∷ l) ++ bs ≡ f a ++ (flat_map f l ++ bs)
  unfolding flat_map
  flat_map_cons a l bs = append_assoc (f a) (flat_map f l) bs

  -- one more entry of an array; d is what is read past its end
  pub flat_map_next : (d : A) (l : List A) (i : ℕ) → i < length l → flat_map f (take (suc i) l) ≡ flat_map f (take i l) ++ f (get_or l i d)
  flat_map_next d l i u =
      ap (flat_map f) (take-suc l i d u) ∙ flat_map_append (take i l) (get_or l i d ∷ [])
      ∙ ap (λ r. flat_map f (take i l) ++ r) (unfold flat_map in append-nil (f (get_or l i d)))

  -- ---- its members

  pub mem_flat_map : (l : List A) {b : B} → b ∈ flat_map f l → (a : A) × (a ∈ l) × (b ∈ f a)
  unfolding flat_map
  mem_flat_map [] i = elim i [ ]
  mem_flat_map (a ∷ l) i =
      ⊎_elim (λ j. (a, here refl, j)) (λ j. let (c, k, m) = mem_flat_map l j in (c, there k, m)) (Memᴰ.append_cases (f a) i)

  pub flat_map_mem : (l : List A) {a : A} {b : B} → a ∈ l → b ∈ f a → b ∈ flat_map f l
  unfolding flat_map
  flat_map_mem [] i j = elim i [ ]
  flat_map_mem (c ∷ l) {b = b} i j =
      ⊎_elim (λ e. Memᴰ.append_left (flat_map f l) (subst (λ x. b ∈ f x) e j)) (λ k. Memᴰ.append_right (f c) (flat_map_mem l k j))
      (Memᴰ.cases_cons i)

  pub all_flat_map : {P : B → Type 0} (l : List A) → All (λ a. All P (f a)) l → All P (flat_map f l)
  all_flat_map l h b i = let (a, j, k) = mem_flat_map l i in h a j b k

  -- ---- its length

  pub length_flat_map : (l : List A) → length (flat_map f l) ≡ total (λ a. length (f a)) l
  unfolding flat_map total
  length_flat_map [] = refl
  length_flat_map (a ∷ l) = length-append (f a) (flat_map f l) ∙ ap (λ n. length (f a) + n) (length_flat_map l)

  -- each is at most k times its weight
  pub length_weighed : (k : ℕ) (weight : A → ℕ) (l : List A) → All (λ a. length (f a) ≤ k * weight a) l → length (flat_map f l) ≤ k * total weight l
  unfolding flat_map total
  length_weighed k weight [] h = omega arith
  length_weighed k weight (a ∷ l) h =
      omega (arith, length-append (f a) (flat_map f l), h a (here refl), length_weighed k weight l (all_tail h))

pub flat_map_map : {A B C : Type 0} (g : B → List C) (f : A → B) (l : List A) → flat_map g (map f l) ≡ flat_map (λ a. g (f a)) l
unfolding flat_map
flat_map_map g f [] = refl
flat_map_map g f (a ∷ l) = ap (λ r. g (f a) ++ r) (flat_map_map g f l)

pub flat_map_flat_map : {A B C : Type 0} (g : B → List C) (f : A → List B) (l : List A) → flat_map g (flat_map f l) ≡ flat_map (λ a. flat_map g (f a)) l
unfolding flat_map
flat_map_flat_map g f [] = refl
flat_map_flat_map g f (a ∷ l) = flat_map_append g (f a) (flat_map f l) ∙ ap (λ r. flat_map g (f a) ++ r) (flat_map_flat_map g f l)
