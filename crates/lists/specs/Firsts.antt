-- The specification's `first`: the first member that passes a test, or the default.
-- Proves when it is a member, when it is the default, what holds of it, and that those that fail are passed over. Assumes nothing.
use Rattle.std.specs.Prelude.{◌≡◌, Bool}
use Rattle.std.proofs.Math.Path.{refl}
use Rattle.std.proofs.Common.{sym, subst}
use Rattle.std.proofs.Math.Bool.{true, false}
use mathlib.Core.List.Memᴰ
use mathlib.Core.List.{List, [], ◌∷◌, ◌++◌}
use mathlib.Core.List.Memᴰ.{head as here}
use mathlib.Core.List.Memᴰ.{tail as there}
use Rattle.std.proofs.Math.Logic.{⊎_elim}
use Rattle.std.proofs.Math.Dec.{T}
use Rattle.specification.specs.Lists.{first}
use Rattle.lists.specs.Members.{◌∈◌, All, all_tail}

module _ {A : Type 0} (test : A → Bool) where
  -- where some member passes, the first that does is a member and passes
  pub first_passes : (default : A) (l : List A) {a : A} → a ∈ l → T (test a)
      → first test default l ∈ l × T (test (first test default l))
  unfolding first
  first_passes default [] i t = elim i [ ]
  first_passes default (b ∷ l) {a} i t = go (test b) refl (λ j s. first_passes default l j s)
    where
      later : test b ≡ false → a ∈ l
      later e = ⊎_elim (λ q. absurd (subst T e (subst (λ c. T (test c)) q t))) (λ j. j) (Memᴰ.cases_cons i)

      go : (r : Bool) → test b ≡ r → (a ∈ l → T (test a) → first test default l ∈ l × T (test (first test default l)))
          → elim r as (λ _. A) [ true ↦ b | false ↦ first test default l ] ∈ (b ∷ l)
          × T (test (elim r as (λ _. A) [ true ↦ b | false ↦ first test default l ]))
      go true e f = (here refl, subst T (sym e) tt)
      go false e f = let (j, s) = f (later e) t in (there j, s)

  pub first_none : (default : A) (l : List A) → ((a : A) → a ∈ l → T (test a) → ⊥) → first test default l ≡ default
  unfolding first
  first_none default [] h = refl
  first_none default (b ∷ l) h = go (test b) (h b (here refl)) (first_none default l (λ a i. h a (there i)))
    where
      go : (r : Bool) → (T r → ⊥) → first test default l ≡ default → elim r as (λ _. A) [ true ↦ b | false ↦ first test default l ] ≡ default
      go true k e = absurd (k tt)
      go false k e = e

  -- what holds of the default and of every member holds of the first that passes
  pub first_holds : (P : A → Type 0) (default : A) (l : List A) → P default → All P l → P (first test default l)
  unfolding first
  first_holds P default [] p h = p
  first_holds P default (b ∷ l) p h = go (test b) (first_holds P default l p (all_tail h))
    where
      go : (r : Bool) → P (first test default l) → P (elim r as (λ _. A) [ true ↦ b | false ↦ first test default l ])
      go true q = h b (here refl)
      go false q = q

  -- those that fail are passed over
  pub first_past : (default : A) (l m : List A) → All (λ a. test a ≡ false) l → first test default (l ++ m) ≡ first test default m
  unfolding first
  first_past default [] m h = refl
  first_past default (b ∷ l) m h = rw (h b (here refl), first) (first_past default l m (all_tail h))
