-- Lists in order: every member comes before all that follow it.
-- Proves that appending, mapping and flattening keep lists in order, that numbers counted up are, and that two lists with the same members,
-- both in order by a strict order, are equal; by one in which equals may stand side by side, if each is there as often. Assumes nothing.
use Rattle.std.specs.Prelude.{◌≡◌, refl, ◌⊎◌, ◌≢◌, ℕ, zero, suc, ◌<◌}
use Rattle.std.proofs.Common.{sym, ◌∙◌, ap₂, subst, inl, inr, ⊎_elim}
use mathlib.Core.List.Memᴰ
use mathlib.Core.List.Perm
use mathlib.Core.List.{
  List,
  [],
  ◌∷◌,
  ◌++◌,
  map,
  flat_map,
  Pairwise,
  Perm,
  Mem,
  mem-cons_self,
  eq-or-mem_of_mem-cons,
}
use mathlib.Core.List.Memᴰ.{head as here}
use mathlib.Core.List.Memᴰ.{tail as there}
use Rattle.std.proofs.Math.Logic.Or
use Rattle.std.proofs.Math.Logic.{∥∥₁_elim}
use Rattle.specification.specs.Lists.{up_from}
use Rattle.lists.specs.NumbersFrom.{up_from_member}
use Rattle.lists.specs.Members.{◌∈◌, All}
use Rattle.lists.specs.FlatMaps.{mem_flat_map}

abbrev pub InOrder : {A : Type 0} → (A → A → Type 0) → List A → Type 0
InOrder before [] = Unit {0}
InOrder before (a ∷ l) = All (before a) l × InOrder before l

-- the kit's way to say it
module _ {A : Type 0} (R : A → A → Type 0) where
  pub to_in_order : (l : List A) → Pairwise R l → InOrder R l
  to_in_order [] s = tt
  to_in_order (a ∷ l) (Pairwise.cons first s) = ((λ b i. first b ∣ i ∣₁), to_in_order l s)

  pub from_in_order : ((a b : A) → IsProp (R a b)) → (l : List A) → InOrder R l → Pairwise R l
  from_in_order prop [] s = Pairwise.nil
  from_in_order prop (a ∷ l) (first, s) = Pairwise.cons (λ b m. ∥∥₁_elim m (prop a b) (first b)) (from_in_order prop l s)

pub in_order_append : {A : Type 0} (R : A → A → Type 0) (l m : List A) → InOrder R l → InOrder R m
    → ((a b : A) → a ∈ l → b ∈ m → R a b) → InOrder R (l ++ m)
in_order_append R [] m s t h = t
in_order_append R (a ∷ l) m (first, s) t h =
    ((λ b i. ⊎_elim (first b) (h a b (here refl)) (Memᴰ.append_cases l i)), in_order_append R l m s t (λ x y i j. h x y (there i) j))

pub in_order_map : {A B : Type 0} (R : A → A → Type 0) (S : B → B → Type 0) (f : A → B) (l : List A)
    → ((a b : A) → R a b → S (f a) (f b)) → InOrder R l → InOrder S (map f l)
in_order_map R S f [] h s = tt
in_order_map R S f (a ∷ l) h (first, s) =
    ((λ c i. let (b, j, e) = Memᴰ.of_map f l i in subst (S (f a)) e (h a b (first b j))), in_order_map R S f l h s)

pub in_order_by : {A : Type 0} (R S : A → A → Type 0) (l : List A) → ((a b : A) → a ∈ l → b ∈ l → R a b → S a b) → InOrder R l → InOrder S l
in_order_by R S [] h s = tt
in_order_by R S (a ∷ l) h (first, s) =
    ((λ b i. h a b (here refl) (there i) (first b i)), in_order_by R S l (λ x y i j. h x y (there i) (there j)) s)

pub up_from_in_order : (b k : ℕ) → InOrder ◌<◌ (up_from b k)
unfolding up_from
up_from_in_order b zero = tt
up_from_in_order b (suc k) = ((λ a i. (up_from_member (suc b) k i).0), up_from_in_order (suc b) k)

-- ---- lists of lists

module _ {A B : Type 0} (f : A → List B) where
  pub in_order_flat_map : (R : A → A → Type 0) (S : B → B → Type 0) (l : List A)
      → ((a : A) → a ∈ l → InOrder S (f a)) → ((a b : A) → R a b → (c d : B) → c ∈ f a → d ∈ f b → S c d)
      → InOrder R l → InOrder S (flat_map f l)
  unfolding flat_map
  in_order_flat_map R S [] each cross s = tt
  in_order_flat_map R S (a ∷ l) each cross (first, s) =
      in_order_append S (f a) (flat_map f l) (each a (here refl)) (in_order_flat_map R S l (λ b i. each b (there i)) cross s)
      (λ c d i j. let (b, k, m) = mem_flat_map f l j in cross a b (first b k) c d i m)

-- ---- one list only

module _ {A : Type 0} where
  pub record StrictOrder (before : A → A → Type 0) : Type 0 where
    pub irreflexive : {a : A} → ¬ before a a
    pub transitive : {a b c : A} → before a b → before b c → before a c

  in_rest : {a b : A} {l : List A} → b ≢ a → b ∈ (a ∷ l) → b ∈ l
  in_rest n i = ⊎_elim (λ e. absurd (n e)) (λ j. j) (Memᴰ.cases_cons i)

  pub in_order_unique : {before : A → A → Type 0} → StrictOrder before → (l m : List A) → InOrder before l → InOrder before m
      → All (λ a. a ∈ m) l → All (λ a. a ∈ l) m → l ≡ m
  in_order_unique O [] [] h k f g = refl
  in_order_unique O [] (b ∷ m) h k f g = absurd (Memᴰ.not-nil (g b (here refl)))
  in_order_unique O (a ∷ l) [] h k f g = absurd (Memᴰ.not-nil (f a (here refl)))
  in_order_unique {before} O (a ∷ l) (b ∷ m) (h, hs) (k, ks) f g =
      ap₂ ◌∷◌ same
      (in_order_unique O l m hs ks (λ c i. in_rest (not_first h same i) (f c (there i))) (λ c i. in_rest (not_first k (sym same) i) (g c (there i))))
    where
      same : a ≡ b
      same = go (Memᴰ.cases_cons (f a (here refl))) (Memᴰ.cases_cons (g b (here refl)))
        where
          go : (a ≡ b) ⊎ (a ∈ m) → (b ≡ a) ⊎ (b ∈ l) → a ≡ b
          go (inl e) j = e
          go (inr i) (inl e) = sym e
          go (inr i) (inr j) = absurd (O.irreflexive (O.transitive (h b j) (k a i)))

      -- what follows x is not x
      not_first : {x y z : A} {s : List A} → All (before x) s → x ≡ y → z ∈ s → z ≢ y
      not_first {x} {z = z} p e i q = O.irreflexive (subst (before x) (q ∙ sym e) (p z i))

-- ---- equals side by side

module _ {A : Type 0} where
  pub record WeakOrder (R : A → A → Type 0) : Type 0 where
    pub prop : (a b : A) → IsProp (R a b)
    pub reflexive : {a : A} → R a a
    pub transitive : {a b c : A} → R a b → R b c → R a c
    pub antisymmetric : {a b : A} → R a b → R b a → a ≡ b

  pub weak_order_unique : {R : A → A → Type 0} → WeakOrder R → (l m : List A) → Pairwise R l → Pairwise R m → Perm l m → l ≡ m
  weak_order_unique O [] m s t p = Perm.nil-eq p
  weak_order_unique O (a ∷ l) [] s t p = Perm.eq-nil p
  weak_order_unique {R} O (a ∷ l) (b ∷ m) (Pairwise.cons f s) (Pairwise.cons g t) p =
      ap₂ ◌∷◌ same (weak_order_unique O l m s t (Perm.cons_inv (subst (λ c. Perm (a ∷ l) (c ∷ m)) (sym same) p)))
    where
      -- what stands first may stand before each
      first : {x y : A} {k : List A} → ((z : A) → Mem z k → R x z) → Mem y (x ∷ k) → R x y
      first {x} {y} h i = Or.elim (O.prop x y) (eq-or-mem_of_mem-cons i) (λ e. subst (R x) (sym e) O.reflexive) (h y)

      same : a ≡ b
      same = O.antisymmetric (first f (Perm.subset (Perm.symm p) b mem-cons_self)) (first g (Perm.subset p a mem-cons_self))
