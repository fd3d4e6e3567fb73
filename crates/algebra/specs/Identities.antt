-- Identities of commutative rings by computation: an expression is multiplied out into a list of monomials that are added and one of
-- those that are subtracted, a monomial being a list of variables; two expressions are equal where the sorted lists agree.
-- Proves `solve`, over any ring and any number of variables. Assumes nothing.
use Rattle.std.specs.Prelude.{◌≡◌}
use Rattle.std.proofs.Math.Path.{refl, sym, ap, ap₂}
use Rattle.std.proofs.Common.{◌∙◌, subst}
use mathlib.Core.List.{List, [], ◌∷◌, ◌++◌}
use Prim.Native.Nat.compare
use Prim.Native.Nat.{
  ℕ,
  zero,
  suc,
  compare,
  Ordering,
}
use Rattle.algebra.specs.Ring.{CommRing, ring, add_zero, neg_zero, zero_mul, mul_zero, add_mul, add_left_comm, mul_left_comm, add_neg_cancel}

infixl 60 ◌⊕◌ ◌⊖◌
infixl 70 ◌⊗◌
infix 4 ◌≈◌
infixr 80 ⊝◌
pub data Expression : Type 0 where
  var : ℕ → Expression
  con : ℕ → Expression
  ◌⊕◌ : Expression → Expression → Expression
  ◌⊖◌ : Expression → Expression → Expression
  ◌⊗◌ : Expression → Expression → Expression
  ⊝◌ : Expression → Expression

pub data Equation : Type 0 where
  ◌≈◌ : Expression → Expression → Equation

-- ---- monomials and their order

abbrev Monomial : Type 0
Monomial = List ℕ

abbrev insert : {A : Type 0} → (A → A → Ordering) → A → List A → List A
insert c x [] = x ∷ []
insert c x (y ∷ ys) = elim (c x y) [ Ordering.lt ↦ x ∷ y ∷ ys | Ordering.eq ↦ x ∷ y ∷ ys | Ordering.gt ↦ y ∷ insert c x ys ]

abbrev sort : {A : Type 0} → (A → A → Ordering) → List A → List A
sort c [] = []
sort c (x ∷ xs) = insert c x (sort c xs)

-- the order of dictionaries, from an order of the letters
abbrev lex : {A : Type 0} → (A → A → Ordering) → List A → List A → Ordering
lex c [] [] = Ordering.eq
lex c [] (y ∷ ys) = Ordering.lt
lex c (x ∷ xs) [] = Ordering.gt
lex c (x ∷ xs) (y ∷ ys) = elim (c x y) [ Ordering.lt ↦ Ordering.lt | Ordering.eq ↦ lex c xs ys | Ordering.gt ↦ Ordering.gt ]

abbrev each : (Monomial → Monomial) → List Monomial → List Monomial
each f [] = []
each f (m ∷ p) = f m ∷ each f p

abbrev products : List Monomial → List Monomial → List Monomial
products [] q = []
products (m ∷ p) q = each (λ n. m ++ n) q ++ products p q

-- the number n
abbrev ones : ℕ → List Monomial
ones zero = []
ones (suc n) = [] ∷ ones n

-- what is added, and what is subtracted
abbrev Normal : Type 0
Normal = List Monomial × List Monomial

abbrev normal : Expression → Normal
normal (var k) = ((k ∷ []) ∷ [], [])
normal (con n) = (ones n, [])
normal (a ⊕ b) = let x : Normal = normal a in let y : Normal = normal b in (x.0 ++ y.0, x.1 ++ y.1)
normal (a ⊖ b) = let x : Normal = normal a in let y : Normal = normal b in (x.0 ++ y.1, x.1 ++ y.0)
normal (a ⊗ b) =
    let x : Normal = normal a in
    let y : Normal = normal b in
    (products x.0 y.0 ++ products x.1 y.1, products x.0 y.1 ++ products x.1 y.0)
normal (⊝ a) = let x : Normal = normal a in (x.1, x.0)

abbrev sorted : List Monomial → List Monomial
sorted p = sort (lex compare) (each (sort compare) p)

-- The test is a type that computes to Unit: comparing two long lists by `refl` takes far longer.
abbrev Same : Ordering → Type 0
Same Ordering.lt = ⊥
Same Ordering.eq = Unit {0}
Same Ordering.gt = ⊥

abbrev pub Holds : Equation → Type 0
Holds (l ≈ r) = Same (lex (lex compare) (sorted ((normal l).0 ++ (normal r).1)) (sorted ((normal r).0 ++ (normal l).1)))

same_number : (m n : ℕ) → Same (compare m n) → m ≡ n
same_number zero zero t = refl
same_number zero (suc n) t = absurd (subst Same (compare.zero-suc n) t)
same_number (suc m) zero t = absurd (subst Same (compare.suc-zero m) t)
same_number (suc m) (suc n) t = ap suc (same_number m n (subst Same (compare.suc-suc m n) t))

same_list : {A : Type 0} (c : A → A → Ordering) → ((x y : A) → Same (c x y) → x ≡ y) → (xs ys : List A) → Same (lex c xs ys) → xs ≡ ys
same_list c h [] [] t = refl
same_list c h [] (y ∷ ys) t = absurd t
same_list c h (x ∷ xs) [] t = absurd t
same_list {A} c h (x ∷ xs) (y ∷ ys) t = go (c x y) (h x y) (same_list c h xs ys) t
  where
    go : (o : Ordering) → (Same o → x ≡ y) → (Same (lex c xs ys) → xs ≡ ys)
        → Same (elim o [ Ordering.lt ↦ Ordering.lt | Ordering.eq ↦ lex c xs ys | Ordering.gt ↦ Ordering.gt ]) → x ∷ xs ≡ y ∷ ys
    go Ordering.lt f k s = absurd s
    go Ordering.eq f k s = ap₂ ◌∷◌ (f tt) (k s)
    go Ordering.gt f k s = absurd s

-- ---- equations in any number of variables

-- an equation in n variables
abbrev pub In : ℕ → Type 0
In zero = Equation
In (suc n) = Expression → In n

-- the equation in the variables k, k + 1, ..
abbrev pub open_from : (n k : ℕ) → In n → Equation
open_from zero k e = e
open_from (suc n) k f = open_from n (suc k) (f (var k))

module _ {R : Type 0} (𝓡 : CommRing R) where
  infixl 60 ◌+ᴿ◌
  infixl 70 ◌*ᴿ◌
  open 𝓡 use {add as ◌+ᴿ◌, mul as ◌*ᴿ◌, neg, 𝟘, 𝟙}

  abbrev look : List R → ℕ → R
  look [] n = 𝟘
  look (x ∷ ρ) zero = x
  look (x ∷ ρ) (suc n) = look ρ n

  abbrev number : ℕ → R
  number zero = 𝟘
  number (suc zero) = 𝟙
  number (suc (suc n)) = 𝟙 +ᴿ number (suc n)

  number_suc : (n : ℕ) → number (suc n) ≡ 𝟙 +ᴿ number n
  number_suc zero = sym (add_zero 𝓡 𝟙)
  number_suc (suc n) = refl

  module _ (ρ : List R) where
    abbrev eval : Expression → R
    eval (var k) = look ρ k
    eval (con n) = number n
    eval (a ⊕ b) = eval a +ᴿ eval b
    eval (a ⊖ b) = eval a +ᴿ neg (eval b)
    eval (a ⊗ b) = eval a *ᴿ eval b
    eval (⊝ a) = neg (eval a)

    abbrev pub Means : Equation → Type 0
    Means (l ≈ r) = eval l ≡ eval r

    product : Monomial → R
    product [] = 𝟙
    product (k ∷ m) = look ρ k *ᴿ product m

    sum : List Monomial → R
    sum [] = 𝟘
    sum (m ∷ p) = product m +ᴿ sum p

    product_insert : (k : ℕ) (m : Monomial) → product (insert compare k m) ≡ look ρ k *ᴿ product m
    unfolding product
    product_insert k [] = refl
    product_insert k (x ∷ m) = go (compare k x) (product_insert k m)
      where
        go : (o : Ordering) → product (insert compare k m) ≡ look ρ k *ᴿ product m
            → product (elim o [ Ordering.lt ↦ k ∷ x ∷ m | Ordering.eq ↦ k ∷ x ∷ m | Ordering.gt ↦ x ∷ insert compare k m ])
            ≡ look ρ k *ᴿ (look ρ x *ᴿ product m)
        go Ordering.lt e = refl
        go Ordering.eq e = refl
        go Ordering.gt e = ap (λ z. look ρ x *ᴿ z) e ∙ mul_left_comm 𝓡 (look ρ x) (look ρ k) (product m)

    product_sort : (m : Monomial) → product (sort compare m) ≡ product m
    unfolding product
    product_sort [] = refl
    product_sort (k ∷ m) = product_insert k (sort compare m) ∙ ap (λ z. look ρ k *ᴿ z) (product_sort m)

    sum_insert : (m : Monomial) (p : List Monomial) → sum (insert (lex compare) m p) ≡ product m +ᴿ sum p
    unfolding sum
    sum_insert m [] = refl
    sum_insert m (x ∷ p) = go (lex compare m x) (sum_insert m p)
      where
        go : (o : Ordering) → sum (insert (lex compare) m p) ≡ product m +ᴿ sum p
            → sum (elim o [ Ordering.lt ↦ m ∷ x ∷ p | Ordering.eq ↦ m ∷ x ∷ p | Ordering.gt ↦ x ∷ insert (lex compare) m p ])
            ≡ product m +ᴿ (product x +ᴿ sum p)
        go Ordering.lt e = refl
        go Ordering.eq e = refl
        go Ordering.gt e = ap (λ z. product x +ᴿ z) e ∙ add_left_comm 𝓡 (product x) (product m) (sum p)

    sum_sorted : (p : List Monomial) → sum (sorted p) ≡ sum p
    unfolding sum
    sum_sorted [] = refl
    sum_sorted (m ∷ p) = sum_insert (sort compare m) (sorted p) ∙ ap₂ ◌+ᴿ◌ (product_sort m) (sum_sorted p)

    product_append : (m n : Monomial) → product (m ++ n) ≡ product m *ᴿ product n
    unfolding product
    product_append [] n = sym (𝓡.*_one (product n))
    product_append (k ∷ m) n = ap (λ z. look ρ k *ᴿ z) (product_append m n) ∙ sym (𝓡.*_assoc (look ρ k) (product m) (product n))

    sum_append : (p q : List Monomial) → sum (p ++ q) ≡ sum p +ᴿ sum q
    unfolding sum
    sum_append [] q = sym (𝓡.+_zero (sum q))
    sum_append (m ∷ p) q = ap (λ z. product m +ᴿ z) (sum_append p q) ∙ sym (𝓡.+_assoc (product m) (sum p) (sum q))

    sum_each : (m : Monomial) (q : List Monomial) → sum (each (λ n. m ++ n) q) ≡ product m *ᴿ sum q
    unfolding sum
    sum_each m [] = sym (mul_zero 𝓡 (product m))
    sum_each m (n ∷ q) = ap₂ ◌+ᴿ◌ (product_append m n) (sum_each m q) ∙ sym (𝓡.distrib (product m) (product n) (sum q))

    sum_products : (p q : List Monomial) → sum (products p q) ≡ sum p *ᴿ sum q
    unfolding sum
    sum_products [] q = sym (zero_mul 𝓡 (sum q))
    sum_products (m ∷ p) q =
        sum_append (each (λ n. m ++ n) q) (products p q)
        ∙ ap₂ ◌+ᴿ◌ (sum_each m q) (sum_products p q)
        ∙ sym (add_mul 𝓡 (product m) (sum p) (sum q))

    sum_ones : (n : ℕ) → sum (ones n) ≡ number n
    unfolding sum product
    sum_ones zero = refl
    sum_ones (suc n) = ap (λ z. 𝟙 +ᴿ z) (sum_ones n) ∙ sym (number_suc n)

    abbrev value : List Monomial → List Monomial → R
    value p q = sum p +ᴿ neg (sum q)

    value_add : (p q r s : List Monomial) → value p q +ᴿ value r s ≡ sum (p ++ r) +ᴿ neg (sum (q ++ s))
    value_add p q r s = simp (ring, sum_append)

    value_sub : (p q r s : List Monomial) → value p q +ᴿ neg (value r s) ≡ sum (p ++ s) +ᴿ neg (sum (q ++ r))
    value_sub p q r s = simp (ring, sum_append)

    value_mul : (p q r s : List Monomial)
        → value p q *ᴿ value r s ≡ sum (products p r ++ products q s) +ᴿ neg (sum (products p s ++ products q r))
    value_mul p q r s = simp (ring, sum_append, sum_products)

    value_neg : (p q : List Monomial) → neg (value p q) ≡ value q p
    value_neg p q = simp ring

    sound : (e : Expression) → eval e ≡ value (normal e).0 (normal e).1
    unfolding sum product
    sound (var k) = simp ring
    sound (con n) = sym (ap₂ ◌+ᴿ◌ (sum_ones n) (neg_zero 𝓡) ∙ add_zero 𝓡 (number n))
    sound (a ⊕ b) = ap₂ ◌+ᴿ◌ (sound a) (sound b) ∙ value_add (normal a).0 (normal a).1 (normal b).0 (normal b).1
    sound (a ⊖ b) = ap₂ (λ x y. x +ᴿ neg y) (sound a) (sound b) ∙ value_sub (normal a).0 (normal a).1 (normal b).0 (normal b).1
    sound (a ⊗ b) = ap₂ ◌*ᴿ◌ (sound a) (sound b) ∙ value_mul (normal a).0 (normal a).1 (normal b).0 (normal b).1
    sound (⊝ a) = ap neg (sound a) ∙ value_neg (normal a).0 (normal a).1

    cross : {a b c d : R} → a +ᴿ d ≡ c +ᴿ b → a +ᴿ neg b ≡ c +ᴿ neg d
    cross {a} {b} {c} {d} h = sym (drop a d b) ∙ ap₂ ◌+ᴿ◌ h (𝓡.+_comm (neg d) (neg b)) ∙ drop c b d
      where
        drop : (x y z : R) → x +ᴿ y +ᴿ (neg y +ᴿ neg z) ≡ x +ᴿ neg z
        drop x y z = 𝓡.+_assoc x y (neg y +ᴿ neg z) ∙ ap (λ w. x +ᴿ w) (add_neg_cancel 𝓡 y (neg z))

    solve_in : (e : Equation) → Holds e → Means e
    solve_in (l ≈ r) h = sound l ∙ cross crossed ∙ sym (sound r)
      where
        both : (x y : Normal) → sum (sorted (x.0 ++ y.1)) ≡ sum x.0 +ᴿ sum y.1
        both x y = sum_sorted (x.0 ++ y.1) ∙ sum_append x.0 y.1

        crossed : sum (normal l).0 +ᴿ sum (normal r).1 ≡ sum (normal r).0 +ᴿ sum (normal l).1
        crossed =
            sym (both (normal l) (normal r))
            ∙ ap sum (same_list (lex compare) (same_list compare same_number) _ _ h)
            ∙ both (normal r) (normal l)

  -- the equation holds of all elements, those of ρ for the variables so far
  abbrev pub ForAll : (n : ℕ) → List R → Equation → Type 0
  ForAll zero ρ e = Means ρ e
  ForAll (suc n) ρ e = (a : R) → ForAll n (ρ ++ (a ∷ [])) e

  for_all : (n : ℕ) (ρ : List R) (e : Equation) → Holds e → ForAll n ρ e
  for_all zero ρ e h = solve_in ρ e h
  for_all (suc n) ρ e h = λ a. for_all n (ρ ++ (a ∷ [])) e h

  -- an equation in n variables whose normal forms agree (`tt` shows it) holds of any n elements
  pub solve : (n : ℕ) (f : In n) → Holds (open_from n 0 f) → ForAll n [] (open_from n 0 f)
  solve n f h = for_all n [] (open_from n 0 f) h
