-- Branches: a value that the code picked by a test is what the definition's `cond` says, and the last arm of a match knows that no key is met.
-- Proves the first for a flag and for an equation, each come out true and false, and gathers the lemmas in the ruleset `cases` for `search`;
-- and the second as one fact over the list of keys. Assumes nothing.
use Rattle.std.specs.Prelude.{◌≡◌, Bool, true, false, cond, List, [], ◌∷◌, ◌≢◌, ℕ, eqb}
use Rattle.std.proofs.Common.{rules, eq-eqb, ne_eqb}
use Rattle.std.proofs.lemmas.Bool.{not-true, not-false}
use Rattle.lists.specs.Members.{All, all_cons}

module _ {A : Type 0} (x a b : A) where
  pub cond_true : (t : Bool) → t ≡ true → x ≡ a → x ≡ cond t a b
  cond_true t u h = rw u h

  pub cond_false : (t : Bool) → t ≡ false → x ≡ b → x ≡ cond t a b
  cond_false t u h = rw u h

  pub cond_eq : (m n : ℕ) → m ≡ n → x ≡ a → x ≡ cond (eqb m n) a b
  cond_eq m n u h = rw (eq-eqb m n u) h

  pub cond_not_eq : (m n : ℕ) → (m ≡ n → ⊥) → x ≡ b → x ≡ cond (eqb m n) a b
  cond_not_eq m n u h = rw (ne_eqb m n u) h

-- what `search` is handed where a function returns
pub ruleset cases = (cond_true, cond_false, cond_eq, cond_not_eq, not-true, not-false, rules)

-- ---- the last arm of a match

-- U is known, and n is the key of none of the list: what the last arm knows, one fact after another
abbrev pub Passed : {A : Type 0} → (A → ℕ) → ℕ → Type 0 → List A → Type 0
Passed key n U [] = U
Passed key n U (a ∷ l) = Passed key n (U × (n ≢ key a)) l

-- as one fact over the list
pub passed_all : {A : Type 0} (key : A → ℕ) (n : ℕ) {U : Type 0} (l : List A) → Passed key n U l → U × All (λ a. n ≢ key a) l
passed_all key n [] h = (h, λ a i. elim i [ ])
passed_all key n (a ∷ l) h = let ((u, k), rest) = passed_all key n l h in (u, all_cons k rest)
