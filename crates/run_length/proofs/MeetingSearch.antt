-- The loop of `meeting`, over the small steps from the highest down.
-- Proves which power is g, and how the loop goes on. Assumes nothing.
use mathlib.Core.Path.{◌≡◌, sym, ◌∙◌, subst}
use mathlib.Core.List.{List}
use mathlib.Core.Logic.{◌≢◌}
use mathlib.Core.Bool.{Bool}
use Prim.Native.Nat.{ℕ, ◌≤◌, ◌<◌, ◌+◌, zero-le}
use native.Mathlib.Decide.{ℕ_discrete}
use native.Mathlib.Omega.{arith}
use lib.ListN.{get_or}
use Rattle.lists.specs.Decides.{Decides}
use Rattle.algebra.specs.PolynomialRing.{◌·◌}
use Rattle.algebra.specs.Degree.{Below, Monic}
use Rattle.algebra.specs.CoefficientLists.{poly, Reduced}
use Rattle.algebra.specs.Monomials.{x^}
use Rattle.arrays.specs.MonomialArray.{IsMonomial}
use Rattle.quotients.specs.Remainder.{Remainder, one_remainder}
use Rattle.run_length.specs.Marks.{small_steps, marked, Marks}
use Rattle.run_length.specs.Meetings.{IsPower, NoneFrom, MeetingAt}
use Rattle.run_length.proofs.PowerOfOne.{power_of_one}

-- the place i is not g
pub none_at : {n : ℕ} {q g : List ℕ} {i k : ℕ} → i + 1 ≡ k → ¬ IsPower n q g i → NoneFrom n q g k → NoneFrom n q g i
none_at {n} {q} {g} {i} {k} s ne F = record { within = omega (arith, s, F.within); after = λ j u v. at j u v (ℕ_discrete j i) }
  where
    at : (j : ℕ) → i ≤ j → j < small_steps → Dec (j ≡ i) → ¬ IsPower n q g j
    at j u v (yes t) c = ne (subst (IsPower n q g) t c)
    at j u v (no t) c = F.after j (omega (arith, s, t)) v c

-- or it is
pub met_at : {n : ℕ} {q g : List ℕ} {i k : ℕ} → i + 1 ≡ k → IsPower n q g i → NoneFrom n q g k → MeetingAt n q g i
met_at s e F = record { none = rw s F; here = e }

module _ {n : ℕ} {q : List ℕ} {d : ℕ} {g : List ℕ} (hg : Reduced n 33 g) (sg : Below d (poly n g)) where
  -- g as the remainder of a power of x
  power : (k : ℕ) → IsPower n q g k → Remainder n q d g (x^ k)
  power k c = record { reduced = hg; small = sg; congruent = c }

  -- r is x^i, from the 1 in o
  pub power_decided : Monic d (poly n q) → 1 < n → (i : ℕ) {o r : List ℕ} {b : Bool} → IsMonomial 0 o → Remainder n q d r (x^ i · poly n o)
      → Decides b (r ≡ g) → Decides b (IsPower n q g i)
  power_decided monic large i {r = r} one h D = record {
    yes = λ t. subst (λ a. IsPower n q a i) (D.yes t) hr.congruent;
    no = λ t c. D.no t (one_remainder n monic hr (power i c));
  }
    where
      hr : Remainder n q d r (x^ i)
      hr = power_of_one large one i h

  module _ {w table : List ℕ} (T : Marks n q d w table small_steps) where
    -- a small step that is g has its mark
    has_mark : {m : ℕ} → m ≡ marked w g → (k : ℕ) → k < small_steps → get_or table k 0 ≢ m → ¬ IsPower n q g k
    has_mark e k l ne c = ne (T.at k l g (power k c) ∙ sym e)

    -- no place has it
    pub none_marked : {m : ℕ} → m ≡ marked w g → ((k : ℕ) → k < small_steps → get_or table k 0 ≢ m) → NoneFrom n q g 0
    none_marked e h = record { within = zero-le; after = λ k l u. has_mark e k u (h k u) }

    -- the place i has another mark
    pub other_mark : {m i k : ℕ} → i + 1 ≡ k → m ≡ marked w g → get_or table i 0 ≢ m → NoneFrom n q g k → NoneFrom n q g i
    other_mark {i = i} s e ne F = none_at s (has_mark e i (omega (arith, s, F.within)) ne) F
