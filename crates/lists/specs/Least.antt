-- The least number from 1 to k that has a property, or 0 where none has it: `Least P k r`.
-- Proves that only one number is that, and that it is the first of 1, .., k that passes, where P is a test. Assumes nothing.
use Rattle.std.specs.Prelude.{◌≡◌, Bool, ◌↔◌}
use Rattle.std.proofs.Math.Path.{refl, subst}
use Rattle.std.proofs.Common.{sym, eq-or-lt_of_le, le_antisymm}
use Rattle.std.proofs.Math.Bool.{true, false}
use Rattle.std.proofs.Math.Logic.{⊎_elim}
use Prim.Native.Nat.{ℕ, zero, suc, ◌+◌, ◌≤◌, ◌<◌}
use Rattle.std.proofs.Math.Decide.{dec_le}
use native.Mathlib.Omega.{arith}
use Rattle.std.proofs.Math.Dec.{T}
use Rattle.specification.specs.Lists.{first, up_from}

pub record Least (P : ℕ → Type 0) (k r : ℕ) : Type 0 where
  pub within : r ≤ k
  pub holds : 1 ≤ r → P r
  -- in particular 0 says that there is none
  pub least : (j : ℕ) → 1 ≤ j → j ≤ k → P j → (1 ≤ r) × (r ≤ j)

module _ {P : ℕ → Type 0} {k : ℕ} where
  -- no number up to k
  pub least_none : ((j : ℕ) → 1 ≤ j → j ≤ k → P j → ⊥) → Least P k 0
  least_none none = record { within = omega arith; holds = λ l. absurd (omega arith); least = λ j l u h. absurd (none j l u h) }

  -- a number, and none before it
  pub least_found : {r : ℕ} → 1 ≤ r → r ≤ k → P r → ((j : ℕ) → 1 ≤ j → j < r → P j → ⊥) → Least P k r
  least_found {r} l u here none = record { within = u; holds = λ v. here; least = λ j v w h. (l, at j v h (dec_le r j)) }
    where
      at : (j : ℕ) → 1 ≤ j → P j → Dec (r ≤ j) → r ≤ j
      at j v h (yes w) = w
      at j v h (no w) = absurd (none j v (omega (arith, w)) h)

  -- the same of another property, where it says the same
  pub least_same : {Q : ℕ → Type 0} {r : ℕ} → ((j : ℕ) → 1 ≤ j → P j ↔ Q j) → Least P k r → Least Q k r
  least_same {r = r} e h = record {
    within = h.within;
    holds = λ l. (e r l).0 (h.holds l);
    least = λ j l u q. h.least j l u ((e j l).1 q);
  }

  -- where it is 0, what has the property lies above k
  pub least_zero : {r : ℕ} → Least P k r → r ≡ 0 → (j : ℕ) → 1 ≤ j → P j → k < j
  least_zero {r} h e j l q = at (dec_le j k)
    where
      at : Dec (j ≤ k) → k < j
      at (yes u) = absurd (omega (arith, e, (h.least j l u q).0))
      at (no u) = omega (arith, u)

  -- one number only
  pub least_only : {r s : ℕ} → Least P k r → Least P k s → r ≡ s
  least_only {r} {s} h g = at (dec_le 1 r) (dec_le 1 s)
    where
      below : {r s : ℕ} → Least P k r → Least P k s → 1 ≤ s → (1 ≤ r) × (r ≤ s)
      below {s = s} h g l = h.least s l g.within (g.holds l)

      at : Dec (1 ≤ r) → Dec (1 ≤ s) → r ≡ s
      at (yes l) d = let (u, v) = below g h l in le_antisymm (below h g u).1 v
      at (no l) (yes u) = absurd (l (below h g u).0)
      at (no l) (no u) = omega (arith, l, u)

-- ---- the first that passes a test

module _ (test : ℕ → Bool) where
  abbrev Passes : ℕ → Type 0
  Passes j = T (test j)

  -- the numbers up to i have failed, and k follow
  first_after : (i k : ℕ) → ((j : ℕ) → 1 ≤ j → j ≤ i → Passes j → ⊥) → Least Passes (i + k) (first test 0 (up_from (suc i) k))
  unfolding first up_from
  first_after i zero none = least_none (λ j l u. none j l (omega arith))
  first_after i (suc k) none = go (test (suc i)) refl (first_after (suc i) k)
    where
      go : (t : Bool) → test (suc i) ≡ t
          → (((j : ℕ) → 1 ≤ j → j ≤ suc i → Passes j → ⊥) → Least Passes (suc i + k) (first test 0 (up_from (suc (suc i)) k)))
          → Least Passes (i + suc k) (elim t as (λ _. ℕ) [ true ↦ suc i | false ↦ first test 0 (up_from (suc (suc i)) k) ])
      go true e f = least_found (omega arith) (omega arith) (subst T (sym e) tt) (λ j l u. none j l (omega arith))
      go false e f = subst (λ (m : ℕ). Least Passes m (first test 0 (up_from (suc (suc i)) k))) (let s : suc i + k ≡ i + suc k = omega arith in s) (f failed)
        where
          failed : (j : ℕ) → 1 ≤ j → j ≤ suc i → Passes j → ⊥
          failed j l u t = ⊎_elim (λ q. subst T e (subst Passes q t)) (λ v. none j l (omega arith) t) (eq-or-lt_of_le u)

  pub least_first : (k : ℕ) → Least Passes k (first test 0 (up_from 1 k))
  least_first k = subst (λ (m : ℕ). Least Passes m (first test 0 (up_from 1 k))) (let s : 0 + k ≡ k = omega arith in s)
      (first_after 0 k (λ j l u. absurd (omega arith)))
