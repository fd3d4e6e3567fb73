-- Item 3's order on polynomials in arrays of 33 coefficients: what the library's comparison of degrees, and then of coefficients from the highest power
-- down, says of it. Proves that the first difference decides, and that `is_before` is a test of it. Assumes nothing.
use Rattle.std.specs.Prelude.{◌≡◌, Bool, false, ltb, List, [], ◌∷◌, ◌++◌, ◌⊎◌, ℕ, suc, ◌<◌, length, reverse}
use Rattle.std.proofs.Common.{Ordering, Less, Equal, Greater, refl, sym, ◌∙◌, ap, ap₂, subst, inl, inr, ⊎_elim, arith}
use Rattle.std.specs.Ordering.{MatchOrdering, nat_cmp, ordering_then, is_lt}
use Rattle.std.specs.Cmp.Lexicographic.{slice_cmp}
use Rattle.std.proofs.lemmas.Bool.{false≢true, true≢false}
use Rattle.std.proofs.lemmas.Cmp.{ranked}
use Rattle.std.proofs.lemmas.List.{length-reverse, reverse-append}
use borrow.Author.Tests.{ltb-true, ltb-false}
use Rattle.specification.specs.Polynomials.{degree}
use Rattle.specification.specs.Items1to3.{Smaller, Before}
use Rattle.lists.specs.Decides.{Decides}
use Rattle.items.specs.ItemOrder.{item_3}

-- what an answer of a comparison says
record Ranked (o : Ordering) (P Q R : Type 0) : Type 0 where
  says : MatchOrdering o P Q R

numbers_ranked : (a b : ℕ) → Ranked (nat_cmp a b) (a < b) (a ≡ b) (b < a)
numbers_ranked a b = record { says = ranked a b _ refl }

-- the second comparison decides where the first finds no difference
then_ranked : {o q : Ordering} {P Q R P' Q' R' : Type 0} → Ranked o P Q R → (Q → Ranked q P' Q' R')
    → Ranked (ordering_then o q) (P ⊎ (Q × P')) (Q × Q') (R ⊎ (Q × R'))
then_ranked {o} {q} {P} {Q} {R} {P'} {Q'} {R'} h k = record { says = go o q h.says (λ u. (k u).says) }
  where
    go : (o q : Ordering) → MatchOrdering o P Q R → (Q → MatchOrdering q P' Q' R')
        → MatchOrdering (ordering_then o q) (P ⊎ (Q × P')) (Q × Q') (R ⊎ (Q × R'))
    go Less q h k = inl h
    go Greater q h k = inl h
    go Equal Less h k = inr (h, k h)
    go Equal Equal h k = (h, k h)
    go Equal Greater h k = inr (h, k h)

-- what stands last decides last
last_decides : (f g : List ℕ) (a b : ℕ) → length f ≡ length g
    → slice_cmp nat_cmp (f ++ (a ∷ [])) (g ++ (b ∷ [])) ≡ ordering_then (slice_cmp nat_cmp f g) (nat_cmp a b)
last_decides [] [] a b e = go (nat_cmp a b)
  where
    go : (o : Ordering) → ordering_then o Equal ≡ o
    go Less = refl
    go Equal = refl
    go Greater = refl
last_decides [] (y ∷ g) a b e = absurd (omega arith)
last_decides (x ∷ f) [] a b e = absurd (omega arith)
last_decides (x ∷ f) (y ∷ g) a b e = ap (ordering_then (nat_cmp x y)) (last_decides f g a b (omega arith)) ∙ go (nat_cmp x y)
  where
    go : (o : Ordering) → ordering_then o (ordering_then (slice_cmp nat_cmp f g) (nat_cmp a b))
        ≡ ordering_then (ordering_then o (slice_cmp nat_cmp f g)) (nat_cmp a b)
    go Less = refl
    go Equal = refl
    go Greater = refl

-- "coefficients of G are compared from the highest power down, smaller first"
smaller_ranked : (f g : List ℕ) → length f ≡ length g → Ranked (slice_cmp nat_cmp (reverse f) (reverse g)) (Smaller f g) (f ≡ g) (Smaller g f)
smaller_ranked [] [] e = record { says = refl }
smaller_ranked [] (b ∷ g) e = absurd (omega arith)
smaller_ranked (a ∷ f) [] e = absurd (omega arith)
smaller_ranked (a ∷ f) (b ∷ g) e =
    rw (reverse-append (a ∷ []) f, reverse-append (b ∷ []) g, last_decides (reverse f) (reverse g) a b (omega (arith, e, length-reverse f, length-reverse g)))
    (record { says = go _ (then_ranked (smaller_ranked f g (omega arith)) (λ _. numbers_ranked a b)).says })
  where
    go : (o : Ordering) → MatchOrdering o (Smaller f g ⊎ ((f ≡ g) × (a < b))) ((f ≡ g) × (a ≡ b)) (Smaller g f ⊎ ((f ≡ g) × (b < a)))
        → MatchOrdering o (Smaller (a ∷ f) (b ∷ g)) (a ∷ f ≡ b ∷ g) (Smaller (b ∷ g) (a ∷ f))
    go Less h = h
    go Equal (q, r) = ap₂ ◌∷◌ r q
    go Greater (inl s) = inl s
    go Greater (inr (q, l)) = inr (sym q, l)

not_both : (f g : List ℕ) → Before g f → ¬ Before f g
not_both f g s t = item_3.irreflexive {a = f} (item_3.transitive {a = f} {b = g} {c = f} t s)

-- "by the degree d of G, lower first. Equal degrees: coefficients of G are compared from the highest power down, smaller first"
pub before_decided : (f g : List ℕ) → 0 < length f → 0 < length g
    → Decides (is_lt (ordering_then (nat_cmp (length f) (length g)) (slice_cmp nat_cmp (reverse f) (reverse g)))) (Before f g)
before_decided f g lf lg = go _ (then_ranked (numbers_ranked (length f) (length g)) (smaller_ranked f g)).says
  where
    go : (o : Ordering)
        → MatchOrdering o ((length f < length g) ⊎ ((length f ≡ length g) × Smaller f g)) ((length f ≡ length g) × (f ≡ g))
        ((length g < length f) ⊎ ((length f ≡ length g) × Smaller g f))
        → Decides (is_lt o) (Before f g)
    go Less (inl u) = record { yes = λ _. inl (omega (arith, u, lf, lg)); no = λ t. absurd (true≢false t) }
    go Less (inr (q, s)) = record { yes = λ _. inr (omega (arith, q), s); no = λ t. absurd (true≢false t) }
    go Equal (q, r) = record { yes = λ t. absurd (false≢true t); no = λ t s. item_3.irreflexive {a = f} (subst (Before f) (sym r) s) }
    go Greater (inl u) = record { yes = λ t. absurd (false≢true t); no = λ t. not_both f g (inl (omega (arith, u, lf, lg))) }
    go Greater (inr (q, s)) = record { yes = λ t. absurd (false≢true t); no = λ t. not_both f g (inr (omega (arith, q), s)) }

-- the test of it, of all lists
pub is_before : List ℕ → List ℕ → Bool
is_before [] g = ltb 0 (degree g)
is_before (a ∷ f) [] = false
is_before (a ∷ f) (b ∷ g) = is_lt (ordering_then (nat_cmp (suc (length f)) (suc (length g))) (slice_cmp nat_cmp (reverse (a ∷ f)) (reverse (b ∷ g))))

pub is_before_lem : (f g : List ℕ) → Decides (is_before f g) (Before f g)
unfolding is_before
is_before_lem [] g = record {
  yes = λ t. inl (ltb-true 0 (degree g) t);
  no = λ t. ⊎_elim (λ u. omega (arith, u, ltb-false 0 (degree g) t)) (λ (e, s). s);
}
is_before_lem (a ∷ f) [] = record { yes = λ t. absurd (false≢true t); no = λ t. ⊎_elim (λ u. omega arith) (λ (e, s). s) }
is_before_lem (a ∷ f) (b ∷ g) = before_decided (a ∷ f) (b ∷ g) (omega arith) (omega arith)
