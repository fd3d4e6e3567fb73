-- Numberings by strings of digits: `Numbered`.
-- Proves that a list is numbered by the strings of its members, end to end, and that a one-to-one map carries a numbering on.
-- Assumes nothing.
use Rattle.std.specs.Prelude.{◌≡◌, take, drop, ℕ, ◌<◌, ◌+◌}
use Rattle.std.proofs.Math.Path.{refl, sym}
use Rattle.std.proofs.Common.{◌∙◌, ap, ap₂, length-append, length-drop, take-append-drop, length-take-le, take_at, drop_at, arith}
use mathlib.Core.List.{List, [], ◌∷◌, ◌++◌, head-eq_of_cons-eq, tail-eq_of_cons-eq}
use mathlib.Core.List.Memᴰ.{head as here}
use Rattle.std.proofs.Math.ListN.{length}
use Rattle.lists.specs.Members.{All, all_tail, all_append, all_take, all_drop}
use Rattle.lists.specs.Sums.{total}

-- k digits modulo p
pub record Digits (p k : ℕ) (ds : List ℕ) : Type 0 where
  pub count : length ds ≡ k
  pub low : All (λ d. d < p) ds

-- the strings of k digits number what has a property, one to one
pub record Numbered {A : Type 0} (p k : ℕ) (Has : A → Type 0) : Type 0 where
  pub of : List ℕ → A
  pub offered : (ds : List ℕ) → Digits p k ds → Has (of ds)
  pub none_twice : (ds es : List ℕ) → Digits p k ds → Digits p k es → of ds ≡ of es → ds ≡ es
  pub all_offered : (a : A) → Has a → (ds : List ℕ) × Digits p k ds × (of ds ≡ a)

-- ---- strings end to end

module _ {p : ℕ} (j k : ℕ) where
  digits_take : {ds : List ℕ} → Digits p (j + k) ds → Digits p j (take j ds)
  digits_take {ds} h = record {
    count = length-take-le j ds (omega (arith, h.count));
    low = all_take j h.low;
  }

  digits_drop : {ds : List ℕ} → Digits p (j + k) ds → Digits p k (drop j ds)
  digits_drop {ds} h = record {
    count = length-drop j ds ∙ omega (arith, h.count);
    low = all_drop j h.low;
  }

  digits_append : {ds es : List ℕ} → Digits p j ds → Digits p k es → Digits p (j + k) (ds ++ es)
  digits_append {ds} {es} h g = record {
    count = length-append ds es ∙ ap₂ ◌+◌ h.count g.count;
    low = all_append h.low g.low;
  }

-- ---- lists, member by member

module _ {A : Type 0} where
  -- a list whose first member has X and whose other members have Y
  abbrev pub FirstAndRest : (A → Type 0) → (List A → Type 0) → List A → Type 0
  FirstAndRest X Y [] = ⊥
  FirstAndRest X Y (a ∷ l) = X a × Y l

  first_and_rest : {p j k : ℕ} {X : A → Type 0} {Y : List A → Type 0} → Numbered p j X → Numbered p k Y → Numbered p (j + k) (FirstAndRest X Y)
  first_and_rest {p} {j} {k} {X} {Y} M N = record {
    of = of;
    offered = λ ds h. (M.offered (take j ds) (digits_take j k h), N.offered (drop j ds) (digits_drop j k h));
    none_twice = λ ds es h g e.
        sym (take-append-drop j ds)
        ∙ ap₂ ◌++◌ (M.none_twice (take j ds) (take j es) (digits_take j k h) (digits_take j k g) (head-eq_of_cons-eq e))
        (N.none_twice (drop j ds) (drop j es) (digits_drop j k h) (digits_drop j k g) (tail-eq_of_cons-eq e))
        ∙ take-append-drop j es;
    all_offered = all;
  }
    where
      of : List ℕ → List A
      of ds = M.of (take j ds) ∷ N.of (drop j ds)

      all : (l : List A) → FirstAndRest X Y l → (ds : List ℕ) × Digits p (j + k) ds × (of ds ≡ l)
      all [] h = absurd h
      all (a ∷ l) (x, y) =
          let (ds, h, e) = M.all_offered a x in
          let (es, g, q) = N.all_offered l y in (
            ds ++ es,
            digits_append j k h g,
            ap₂ ◌∷◌ (ap M.of (take_at ds es j h.count) ∙ e) (ap N.of (drop_at ds es j h.count) ∙ q),
          )

  module _ {C : Type 0} (X : C → A → Type 0) where
    -- a member for each c, in order
    abbrev pub Each : List C → List A → Type 0
    Each [] l = l ≡ []
    Each (c ∷ cs) l = FirstAndRest (X c) (Each cs) l

    pub each_numbered : {p : ℕ} (size : C → ℕ) (cs : List C) → All (λ c. Numbered p (size c) (X c)) cs → Numbered p (total size cs) (Each cs)
    unfolding total
    each_numbered size [] h = record {
      of = λ ds. [];
      offered = λ ds h. refl;
      none_twice = λ ds es h g e. empty ds h.count ∙ sym (empty es g.count);
      all_offered = λ l e. ([], record { count = refl; low = λ d i. elim i [ ] }, sym e);
    }
      where
        empty : (ds : List ℕ) → length ds ≡ 0 → ds ≡ []
        empty [] e = refl
        empty (d ∷ ds) e = absurd (omega (arith, e))
    each_numbered size (c ∷ cs) h = first_and_rest (h c (here refl)) (each_numbered size cs (all_tail h))

-- ---- along a map

pub carried : {A B : Type 0} {p k : ℕ} {X : A → Type 0} {Y : B → Type 0} → Numbered p k X → (f : A → B) → ((a : A) → X a → Y (f a))
    → ((a b : A) → X a → X b → f a ≡ f b → a ≡ b) → ((b : B) → Y b → (a : A) × X a × (f a ≡ b)) → Numbered p k Y
carried N f into injective onto = record {
  of = λ ds. f (N.of ds);
  offered = λ ds h. into (N.of ds) (N.offered ds h);
  none_twice = λ ds es h g e. N.none_twice ds es h g (injective (N.of ds) (N.of es) (N.offered ds h) (N.offered es g) e);
  all_offered = λ b y.
      let (a, x, e) = onto b y in
      let (ds, h, q) = N.all_offered a x in
      (ds, h, ap f q ∙ e);
}
