-- Items 4 to 9 of document 01, as types: what the values h bar, m1, w and u of a part are, and that its factors are a longest list of it.
-- `Values` of a part, `PartSplit` of the part over a power, `Items4to9` of every accepted sheet.
use Rattle.std.specs.Prelude.{◌≡◌, false, ◌≢◌, ℕ, suc, ◌%◌, ◌≤◌, length}
use mathlib.Core.List.{List, Memᴰ}
use Rattle.specification.specs.Limits.{◌²}
use Rattle.specification.specs.Polynomials.{Poly, is_zero, scale, mul, pow, lift}
use Rattle.specification.specs.Powers.{Power, powers, primary}
use Rattle.specification.specs.Parts.{Factor, h_bar, m1, w, u, digit_lift, part_of}
use Rattle.specification.specs.Totals.{members, different}
use Rattle.specification.specs.Sheets.{Sheet, accepted, read_sheet}
use Rattle.specification.specs.Longest.{Longest}

-- items 5 to 8: what h bar, m1, w and u of a part over G to the m are
pub record Values (p : ℕ) (G g : Poly) (m : ℕ) (part : Poly) : Type 0 where
  -- "let part − g^m = p·h"; modulo p² only the bar of h counts
  pub h_holds : lift p (pow (p ²) g m) (h_bar p g m part) ≡ part
  -- "With h bar = G^m1 · w"
  pub w_holds : mul p (pow p G (m1 p G g m part)) (w p G g m part) ≡ h_bar p g m part
  -- "m1 is the highest power of G that divides h bar", which is not zero
  pub m1_highest : is_zero (h_bar p g m part) ≡ false → (v : Poly) → mul p (pow p G (suc (m1 p G g m part))) v ≡ h_bar p g m part → ⊥
  -- "u = w/m modulo p", where p does not divide m
  pub u_holds : m % p ≢ 0 → scale p m (u p G g m part) ≡ w p G g m part

-- items 4 to 9 of the part over a power: its factors are a longest list of it, with the fewest different ones
-- (which verdict is given in which case is said by `Parts.splitting` itself)
pub record PartSplit (p : ℕ) (f : Poly) (P : Power) : Type 0 where
  pub values : Values p P.base (digit_lift P.base) P.exponent (primary p f P)
  pub longest : let L : List Poly = members (part_of p f P) in Longest (p ²) (primary p f P) L (length L) (different L)
  -- no factor is there 0 times; how often each is says `Parts.splitting`
  pub repeated : (q : Factor) → Memᴰ q (part_of p f P).splitting.factors → 1 ≤ q.times

-- items 4 to 9 of every accepted sheet
abbrev pub Items4to9 : Type 0
Items4to9 =
    (bytes : List ℕ) (s : Sheet) → read_sheet bytes ≡ accepted s
    → (P : Power) → Memᴰ P (powers s.prime s.poly) → PartSplit s.prime s.poly P
