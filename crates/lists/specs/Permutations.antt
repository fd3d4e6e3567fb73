-- Lists with the same members, each as often: `Perm` of the kit.
-- Proves that such lists are equally long, and that what holds of all members of one holds of all of the other. Assumes nothing.
use Rattle.std.specs.Prelude.{◌≡◌, refl, suc, length}
use Rattle.std.proofs.Common.{◌∙◌, ap}
use mathlib.Core.List.Perm
use mathlib.Core.List.{List, Perm, Permᴰ}
use Rattle.std.proofs.Math.Logic.{∥∥₁_elim}
use Rattle.std.proofs.Math.Nat.{ℕ_set}
use Rattle.lists.specs.Members.{All}

module _ {A : Type 0} where
  same_length : {l m : List A} → Permᴰ l m → length l ≡ length m
  same_length Permᴰ.nil = refl
  same_length (Permᴰ.cons e d) = ap suc (same_length d)
  same_length (Permᴰ.swap e₁ e₂) = refl
  same_length (Permᴰ.trans d₁ d₂) = same_length d₁ ∙ same_length d₂

  pub perm_length : {l m : List A} → Perm l m → length l ≡ length m
  perm_length {l} {m} p = ∥∥₁_elim p (ℕ_set (length l) (length m)) same_length

  pub perm_all : {P : A → Type 0} → ((a : A) → IsProp (P a)) → {l m : List A} → Perm l m → All P m → All P l
  perm_all prop p h a i = ∥∥₁_elim (Perm.subset p a ∣ i ∣₁) (prop a) (h a)
