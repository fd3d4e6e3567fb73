-- Membership in a list, `a ∈ l` (a place at which a stands), and `All`: a predicate holds of every member.
-- `replace`: two elements in place of a member. Proves how they go with ++, map, replicate, take and drop, that members are the entries at
-- the list's places, and that maps which agree on the members are equal on the list. Assumes nothing.
use Rattle.std.specs.Prelude.{◌≡◌, length, get_or, take, drop, replicate}
use Rattle.std.proofs.Math.Path.{refl, ap}
use Rattle.std.proofs.Common.{subst, sym, ap₂, ⊎_elim, le_of_suc-le-suc, not-suc-le-zero, arith, take-append-drop}
use mathlib.Core.List.Memᴰ
use mathlib.Core.List.{
  List,
  [],
  ◌∷◌,
  ◌++◌,
  map,
  Memᴰ,
}
use mathlib.Core.List.Memᴰ.{head as here}
use mathlib.Core.List.Memᴰ.{tail as there}
use Prim.Native.Nat.{ℕ, zero, suc, ◌<◌, zero-le, suc-le-suc}
use Rattle.std.proofs.Math.Decide.{dec_lt}
use Rattle.std.proofs.Math.ListN.{get_or-eq_default}

infix 50 ◌∈◌
abbrev pub ◌∈◌ : {A : Type 0} → A → List A → Type 0
a ∈ l = Memᴰ a l

abbrev pub All : {A : Type 0} → (A → Type 0) → List A → Type 0
All P l = (a : _) → a ∈ l → P a

module _ {A : Type 0} {P : A → Type 0} where
  pub all_cons : {a : A} {l : List A} → P a → All P l → All P (a ∷ l)
  all_cons p h b i = ⊎_elim (λ e. subst P (sym e) p) (h b) (Memᴰ.cases_cons i)

  pub all_tail : {a : A} {l : List A} → All P (a ∷ l) → All P l
  all_tail h b i = h b (there i)

  pub all_append : {l m : List A} → All P l → All P m → All P (l ++ m)
  all_append {l} h k b i = ⊎_elim (h b) (k b) (Memᴰ.append_cases l i)

pub all_replicate : {A : Type 0} (P : A → Type 0) (a : A) → P a → (n : ℕ) → All P (replicate n a)
all_replicate P a p zero b i = elim i [ ]
all_replicate P a p (suc n) b i = all_cons p (all_replicate P a p n) b i

pub all_map : {A C : Type 0} (P : C → Type 0) (f : A → C) (l : List A) → All (λ a. P (f a)) l → All P (map f l)
all_map P f l h c i = let (a, j, e) = Memᴰ.of_map f l i in subst P e (h a j)

-- maps that agree on every member
pub map_equal : {A B : Type 0} (g h : A → B) (l : List A) → All (λ a. g a ≡ h a) l → map g l ≡ map h l
map_equal g h [] e = refl
map_equal g h (a ∷ l) e = ap₂ ◌∷◌ (e a (here refl)) (map_equal g h l (all_tail e))

-- ---- a beginning and a rest

module _ {A : Type 0} {P : A → Type 0} (k : ℕ) {l : List A} (h : All P l) where
  pub all_take : All P (take k l)
  all_take a i = h a (subst (λ m. a ∈ m) (take-append-drop k l) (Memᴰ.append_left (drop k l) i))

  pub all_drop : All P (drop k l)
  all_drop a i = h a (subst (λ m. a ∈ m) (take-append-drop k l) (Memᴰ.append_right (take k l) i))

-- ---- by places; d is what is read past the list's end

module _ {A : Type 0} (d : A) where
  pub entry_member : (l : List A) (k : ℕ) → k < length l → get_or l k d ∈ l
  entry_member [] k u = absurd (not-suc-le-zero u)
  entry_member (a ∷ l) zero u = here refl
  entry_member (a ∷ l) (suc k) u = there (entry_member l k (le_of_suc-le-suc u))

  pub member_entry : {a : A} {l : List A} → a ∈ l → (k : ℕ) × (k < length l) × (get_or l k d ≡ a)
  member_entry (here e) = (0, suc-le-suc zero-le, sym e)
  member_entry (there i) = let (k, u, e) = member_entry i in (suc k, suc-le-suc u, e)

module _ {A : Type 0} (P : A → Type 0) (d : A) where
  -- what holds of each entry holds of every member
  pub all_entries : (l : List A) → ((k : ℕ) → k < length l → P (get_or l k d)) → All P l
  all_entries l h a i = let (k, u, e) = member_entry d i in subst P e (h k u)

  pub all_read : (l : List A) → All P l → (k : ℕ) → k < length l → P (get_or l k d)
  all_read l h k u = h (get_or l k d) (entry_member d l k u)

  -- where it holds of d too, it holds at every place
  pub all_everywhere : (l : List A) → P d → All P l → (k : ℕ) → P (get_or l k d)
  all_everywhere l p h k = at (dec_lt k (length l))
    where
      at : Dec (k < length l) → P (get_or l k d)
      at (yes u) = all_read l h k u
      at (no u) = subst P (sym (get_or-eq_default l d {n = k} (omega (arith, u)))) p

-- ---- two in place of one

-- the list with b, c in place of the member a
unfoldable pub replace : {A : Type 0} {a : A} {l : List A} → a ∈ l → A → A → List A
replace (here {xs = l} e) b c = b ∷ c ∷ l
replace (there {x} {xs = l} i) b c = x ∷ replace i b c

module _ {A : Type 0} where
  pub replace_length : {a : A} {l : List A} (i : a ∈ l) (b c : A) → length (replace i b c) ≡ suc (length l)
  unfolding replace
  replace_length (here e) b c = refl
  replace_length (there i) b c = ap suc (replace_length i b c)

  pub replace_all : {P : A → Type 0} {a : A} {l : List A} (i : a ∈ l) (b c : A) → P b → P c → All P l → All P (replace i b c)
  unfolding replace
  replace_all (here e) b c p q h = all_cons p (all_cons q (all_tail h))
  replace_all (there {x} i) b c p q h = all_cons (h x (here refl)) (replace_all i b c p q (all_tail h))
