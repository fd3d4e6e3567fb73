-- Items 1 to 3 of document 01, as types: the powers in the bar of f and the primary parts over them, with their order and their uniqueness.
-- No search stands in them: they speak of all lists and all products.
use Rattle.std.specs.Prelude.{◌≡◌, ◌⊎◌, ◌≢◌, ℕ, ◌≤◌, ◌<◌}
use mathlib.Core.List.{List, [], ◌∷◌, map, Memᴰ, Pairwise, Perm}
use Rattle.specification.specs.Limits.{◌²}
use Rattle.specification.specs.Polynomials.{Poly, degree, reduce, mul, pow, product}
use Rattle.specification.specs.Powers.{Power, powers, primary}
use Rattle.specification.specs.Sheets.{Sheet, accepted, read_sheet}
use Rattle.specification.specs.Longest.{Monic, Irreducible}

-- item 3: "coefficients of G are compared from the highest power down, smaller first"
abbrev pub Smaller : Poly → Poly → Type 0
Smaller [] H = ⊥
Smaller (a ∷ G) [] = ⊥
Smaller (a ∷ G) (b ∷ H) = Smaller G H ⊎ ((G ≡ H) × (a < b))

-- item 3: "by the degree d of G, lower first. Equal degrees: .."
abbrev pub Before : Poly → Poly → Type 0
Before G H = (degree G < degree H) ⊎ ((degree G ≡ degree H) × Smaller G H)

-- item 3: every base comes before all that follow it; so they are "different"
abbrev pub InOrder : List Power → Type 0
InOrder [] = Unit {0}
InOrder (P ∷ Ps) = ((Q : Power) → Memᴰ Q Ps → Before P.base Q.base) × InOrder Ps

-- "G to the m", modulo p
abbrev pub power_of : ℕ → Power → Poly
power_of p P = pow p P.base P.exponent

-- items 1 and 3 of f modulo p: "a product of powers of different monic irreducible G"
pub record PowersOf (p : ℕ) (f : Poly) (Ps : List Power) : Type 0 where
  pub irreducible : (P : Power) → Memᴰ P Ps → Irreducible p P.base
  pub positive : (P : Power) → Memᴰ P Ps → 1 ≤ P.exponent
  pub in_order : InOrder Ps
  pub multiplies : product p (map (power_of p) Ps) ≡ f

-- item 2: a "monic primary part modulo p² whose bar is G to the m", with what it leaves of f
pub record PrimaryPart (p : ℕ) (f : Poly) (P : Power) (q : Poly) : Type 0 where
  pub monic : Monic (p ²) q
  pub bar : reduce p q ≡ power_of p P
  pub cofactor : Poly
  pub multiplies : mul (p ²) q cofactor ≡ f

-- "coprime": no monic polynomial of degree 1 or more divides the bars of both
abbrev pub Coprime : ℕ → Poly → Poly → Type 0
Coprime p a b = (c x y : Poly) → Monic p c → mul p c x ≡ reduce p a → mul p c y ≡ reduce p b → ⊥

-- ---- items 1 and 2 of lists in any order

-- "in one way": L is such a list, and every such list is L in some order
pub record InOneWay {A : Type 0} (Such : List A → Type 0) (L : List A) : Type 0 where
  pub holds : Such L
  pub only : (M : List A) → Such M → Perm M L

-- item 1 of f modulo p: "a product of powers of different monic irreducible G"; no order is asked
pub record PowersInAnyOrder (p : ℕ) (f : Poly) (Ps : List Power) : Type 0 where
  pub irreducible : (P : Power) → Memᴰ P Ps → Irreducible p P.base
  pub positive : (P : Power) → Memᴰ P Ps → 1 ≤ P.exponent
  -- no base comes twice
  pub different : Pairwise (λ (P Q : Power). P.base ≢ Q.base) Ps
  pub multiplies : product p (map (power_of p) Ps) ≡ f

-- document 002, Theorem 2.2: "f is primary" where its bar is "uG^m for some unit u .., m ≥ 1 and G .. prime"; here q is monic, so u is 1
pub record Primary (p : ℕ) (q : Poly) : Type 0 where
  pub monic : Monic (p ²) q
  pub power : Power
  pub irreducible : Irreducible p power.base
  pub positive : 1 ≤ power.exponent
  pub bar : reduce p q ≡ power_of p power

-- document 002, Theorem 2.3: f modulo p² as a product of "primary pairwise coprime" monic polynomials
pub record PrimaryFactors (p : ℕ) (f : Poly) (L : List Poly) : Type 0 where
  pub primary : (q : Poly) → Memᴰ q L → Primary p q
  -- each is coprime to all that follow it
  pub coprime : Pairwise (Coprime p) L
  pub multiplies : product (p ²) L ≡ f

-- ---- items 1 to 3 of f

-- they hold of the definitions, and of nothing else
pub record Items (p : ℕ) (f : Poly) : Type 0 where
  -- item 1
  pub powers_hold : PowersOf p (reduce p f) (powers p f)
  -- item 1: "in one way"
  pub powers_only : (Ps : List Power) → PowersOf p (reduce p f) Ps → Ps ≡ powers p f
  -- item 1, with no order asked: "in one way"
  pub powers_same : InOneWay (PowersInAnyOrder p (reduce p f)) (powers p f)
  -- item 2
  pub part_holds : (P : Power) → Memᴰ P (powers p f) → PrimaryPart p f P (primary p f P)
  -- item 2: "exactly one"
  pub part_only : (P : Power) → Memᴰ P (powers p f) → (q : Poly) → PrimaryPart p f P q → q ≡ primary p f P
  -- item 2: "the parts multiply to f"
  pub parts_multiply : product (p ²) (map (primary p f) (powers p f)) ≡ f
  -- term 2: "the coprime primary parts of f"
  pub parts_coprime : (P Q : Power) → Memᴰ P (powers p f) → Memᴰ Q (powers p f) → P.base ≢ Q.base
      → Coprime p (primary p f P) (primary p f Q)
  -- item 2, of all lists: polynomials "factor uniquely into primary pairwise coprime factors" (document 002, Theorem 2.3)
  pub parts_same : InOneWay (PrimaryFactors p f) (map (primary p f) (powers p f))

-- items 1 to 3 of every accepted sheet
abbrev pub Items1to3 : Type 0
Items1to3 = (bytes : List ℕ) (s : Sheet) → read_sheet bytes ≡ accepted s → Items s.prime s.poly
