-- What is claimed of settings, as types: what a setting is, and how many there are. No search stands in them.
-- `Setting` is one of f, `Counted n` says that there are n, `Settings` is said of every accepted sheet.
use Rattle.std.specs.Prelude.{◌≡◌, ◌↔◌, ℕ, ◌^◌, ◌≤◌, length}
use mathlib.Core.List.{List, [], ◌∷◌, ◌++◌, map, flat_map, Memᴰ}
use Rattle.specification.specs.Limits.{◌²}
use Rattle.specification.specs.Polynomials.{Poly, degree, product}
use Rattle.specification.specs.Powers.{powers, primary}
use Rattle.specification.specs.Sheets.{Sheet, accepted, read_sheet}
use Rattle.specification.specs.Answers.{answer}
use Rattle.specification.specs.FactorList.{free_total}
use Rattle.specification.specs.Longest.{Factorisation}

-- "within a part, the factor of higher degree last, if there is one"
abbrev pub HigherLast : List Poly → Type 0
HigherLast L = (xs : List Poly) (y : Poly) → L ≡ xs ++ (y ∷ []) → (x : Poly) → Memᴰ x xs → degree x ≤ degree y

-- "with the parts in order": a list for each part, modulo n
abbrev pub InParts : ℕ → List Poly → List (List Poly) → Type 0
InParts n [] [] = Unit {0}
InParts n [] (L ∷ Ls) = ⊥
InParts n (q ∷ qs) [] = ⊥
InParts n (q ∷ qs) (L ∷ Ls) = (product n L ≡ q) × HigherLast L × InParts n qs Ls

-- "a setting here is a longest list with the parts in order and .."; two orders are two lists
pub record Setting (p : ℕ) (f : Poly) (L : List Poly) : Type 0 where
  pub list : Factorisation (p ²) f L
  pub longest : (M : List Poly) → Factorisation (p ²) f M → length M ≤ length L
  pub by_part : List (List Poly)
  pub joined : flat_map (λ (B : List Poly). B) by_part ≡ L
  pub in_parts : InParts (p ²) (map (primary p f) (powers p f)) by_part

-- no member stands in a list twice
abbrev pub NoneTwice : {A : Type 0} → List A → Type 0
NoneTwice [] = Unit {0}
NoneTwice (a ∷ l) = (Memᴰ a l → ⊥) × NoneTwice l

-- n things have a property: a list of n has each of them once, and no others
pub record Counted {A : Type 0} (n : ℕ) (Has : A → Type 0) : Type 0 where
  pub list : List A
  pub count : length list ≡ n
  pub none_twice : NoneTwice list
  pub exactly : (a : A) → Memᴰ a list ↔ Has a

-- "p to the power of the free digits is the number of settings offered for f": the free digits are read off bytes, as s and z are
abbrev pub SettingsIn : Sheet → List ℕ → Type 0
SettingsIn s bytes = Counted (s.prime ^ free_total bytes) (Setting s.prime s.poly)

-- the settings of every accepted sheet
abbrev pub Settings : Type 0
Settings = (bytes : List ℕ) (s : Sheet) → read_sheet bytes ≡ accepted s → SettingsIn s (answer s)
