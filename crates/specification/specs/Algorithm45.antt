-- Algorithm 4.5 of document 002 as it is printed, for r = 1 (`algorithm45`), line by line; what its h bar, m1, w and u are says `Items4to9.Values`.
-- `AsPrinted` claims that items 4 to 9 split every part as it does.
use Rattle.std.specs.Prelude.{◌≡◌, Bool, cond, ◌||◌, ℕ, ◌-◌, ◌%◌, eqb, leb}
use mathlib.Core.List.{List, [], ◌∷◌, Memᴰ}
use Rattle.specification.specs.Limits.{◌²}
use Rattle.specification.specs.Polynomials.{Poly, is_zero, pow, lift}
use Rattle.specification.specs.Powers.{Power, powers, primary}
use Rattle.specification.specs.Parts as parts
use Rattle.specification.specs.Parts.{Splitting, split_into, factor, basic, solid, power, split, digit_lift, part_of}
use Rattle.specification.specs.Sheets.{Sheet, accepted, read_sheet}

-- "(p|m) or (m1 ≤ m − 2)"
abbrev pub is_split : ℕ → ℕ → ℕ → Bool
is_split p m m1 = eqb (m % p) 0 || leb m1 (m - 2)

-- "Output": the message "f is basic irreducible" is the verdict basic, with f once, and "f is irreducible" solid; one pair is power, and two are split.
-- "Determine G ∈ GF(p^r)[x] and m ≥ 1 so that f̄ = G^m and G is irreducible": these and g are arguments
unfoldable pub algorithm45 : ℕ → Poly → Poly → ℕ → Poly → Splitting
algorithm45 p G g m f =
    -- "if m = 1 then return("f is basic irreducible")"
    cond (eqb m 1) (split_into basic (factor f 1 ∷ []))
    -- "Choose g ∈ GR(p^2, r)[x] monic so that ḡ = G and determine h so that ph = f − g^m."
    (let h : Poly = parts.h_bar p g m f in
    -- "if h̄ = 0 then return(((g, m)))"
    cond (is_zero h) (split_into power (factor g m ∷ []))
    -- "Determine the maximum m1 so that G^m1 | h̄ and determine w so that h̄ = G^m1·w̄."
    (let m1 : ℕ = parts.m1 p G g m f in
    let w : Poly = parts.w p G g m f in
    -- "if m1 = 0 then return("f is irreducible")"
    cond (eqb m1 0) (split_into solid (factor f 1 ∷ []))
    -- "if (p|m) or (m1 ≤ m − 2) then return(((g, m1), (g^(m−m1) + pw, 1)))"
    (cond (is_split p m m1) (split_into (split m1) (factor g m1 ∷ factor (lift p (pow (p ²) g (m - m1)) w) 1 ∷ []))
    -- "Choose u such that ū = (m̄)^−1·w̄."
    (let u : Poly = parts.u p G g m f in
    -- "return(((g + pu, m)))"
    split_into power (factor (lift p g u) m ∷ [])))))

-- on the part of f over a power, with the g of item 5
abbrev pub algorithm_on : ℕ → Poly → Power → Splitting
algorithm_on p f P = algorithm45 p P.base (digit_lift P.base) P.exponent (primary p f P)

-- items 4 to 9 of every accepted sheet: "(Algorithm 4.5)"
abbrev pub AsPrinted : Type 0
AsPrinted =
    (bytes : List ℕ) (s : Sheet) → read_sheet bytes ≡ accepted s
    → (P : Power) → Memᴰ P (powers s.prime s.poly)
    → (part_of s.prime s.poly P).splitting ≡ algorithm_on s.prime s.poly P
