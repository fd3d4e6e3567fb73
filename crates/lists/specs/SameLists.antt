-- Tests of two lists of numbers: the specification's `same`, and a loop that compares entry by entry.
-- Proves that they decide equality. Assumes nothing.
use Rattle.std.specs.Prelude.{◌≡◌, refl, true, false, List, [], ◌∷◌, ◌≢◌, ℕ, ◌<◌, length, get_or, T, eqb}
use Rattle.std.proofs.Common.{ap, ap₂, true≢false, ext_get_or, eqb→eq}
use Rattle.std.proofs.lemmas.Bool.{false≢true}
use Rattle.std.proofs.Math.Dec.{eqb_refl}
use Rattle.specification.specs.Lists.{same}
use Rattle.lists.specs.Tests.{both, left, right}
use Rattle.lists.specs.Decides.{Decides}

pub same_equal : (f g : List ℕ) → T (same f g) → f ≡ g
unfolding same
same_equal [] [] t = refl
same_equal [] (b ∷ g) t = absurd t
same_equal (a ∷ f) [] t = absurd t
same_equal (a ∷ f) (b ∷ g) t =
    ap₂ {C = List ℕ} ◌∷◌ (eqb→eq a b (left (eqb a b) (same f g) t)) (same_equal f g (right (eqb a b) (same f g) t))

pub same_refl : (f : List ℕ) → T (same f f)
unfolding same
same_refl [] = tt
same_refl (a ∷ f) = both (eqb a a) (same f f) (eqb_refl a) (same_refl f)

-- ---- entry by entry

pub entry_differs : {f g : List ℕ} (k : ℕ) → get_or f k 0 ≢ get_or g k 0 → Decides false (f ≡ g)
entry_differs k ne = record { yes = λ q. absurd (false≢true q); no = λ q e. ne (ap (λ (l : List ℕ). get_or l k 0) e) }

pub entries_agree : {f g : List ℕ} → length f ≡ length g → ((k : ℕ) → k < length f → get_or f k 0 ≡ get_or g k 0) → Decides true (f ≡ g)
entries_agree {f} {g} e h = record { yes = λ q. ext_get_or 0 f g e h; no = λ q. absurd (true≢false q) }
