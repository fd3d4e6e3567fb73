-- Places in the list of taken primes: `Place p r`, p is taken and stands at the place that r gives, or r gives none and p is not taken.
-- Proves it of what a search through the list finds, however long the list is. Assumes nothing.
use Rattle.std.specs.Prelude.{◌≡◌, true, false, List, ℕ, ◌<◌, T, Option, Some, None, MatchOption, eqb, length, get_or}
use Rattle.std.proofs.Math.Path.{sym}
use Rattle.std.proofs.Common.{◌∙◌, subst, eqb→eq}
use Rattle.std.proofs.Math.Dec.{eqb_refl}
use Rattle.specification.specs.Lists.{any_passes}
use Rattle.specification.specs.Limits.{primes, taken}
use Rattle.lists.specs.Tests.{passes, fails}
use Rattle.lists.specs.Members.{entry_member, member_entry}
use Rattle.lists.specs.AllAny.{any_member, any_passes_lem}

-- p is taken, and stands at i
pub record Stands (p i : ℕ) : Type 0 where
  pub within : i < length primes
  pub entry : get_or primes i 0 ≡ p
  pub listed : taken p ≡ true

abbrev pub Place : ℕ → Option ℕ → Type 0
Place p r = MatchOption r (taken p ≡ false) (λ i. Stands p i)

module _ (p : ℕ) where
  member : (l : List ℕ) (i : ℕ) → i < length l → p ≡ get_or l i 0 → any_passes (eqb p) l ≡ true
  member l i u e = passes (any_passes (eqb p) l) (any_passes_lem (eqb p) (entry_member 0 l i u) (subst (λ q. T (eqb p q)) e (eqb_refl p)))

  no_member : (l : List ℕ) → ((k : ℕ) → k < length l → p ≡ get_or l k 0 → ⊥) → any_passes (eqb p) l ≡ false
  no_member l h =
      fails (any_passes (eqb p) l)
      (λ t. let (q, i, s) = any_member (eqb p) l t in let (k, u, e) = member_entry 0 i in h k u (eqb→eq p q s ∙ sym e))

  pub place_found : (i : ℕ) → i < length primes → get_or primes i 0 ≡ p → Stands p i
  unfolding taken
  place_found i l e = record { within = l; entry = e; listed = member primes i l (sym e) }

  pub place_none : ((k : ℕ) → k < length primes → get_or primes k 0 ≡ p → ⊥) → taken p ≡ false
  unfolding taken
  place_none h = no_member primes (λ k l e. h k l (sym e))

-- at a place of the list stands the number that was looked for, and it is taken
pub placed : (p : ℕ) {i : ℕ} {r : Option ℕ} → Place p r → r ≡ Some i → (taken p ≡ true) × (get_or primes i 0 ≡ p)
placed p w is = let s = rw is at w in (s.listed, s.entry)

-- a number without a place is not taken
pub not_placed : (p : ℕ) {r : Option ℕ} → Place p r → r ≡ None → taken p ≡ false
not_placed p w is = rw is at w
