-- What "cannot be bettered" means, as types: monic, irreducible, a list that multiplies to f, and a longest one with the fewest different members.
-- No search stands in them: they speak of all products and all lists. Term 3 has the words of document 00.
use Rattle.std.specs.Prelude.{◌≡◌, ℕ, ◌≤◌, ◌<◌, length, get_or}
use mathlib.Core.List.{List, Memᴰ}
use Rattle.specification.specs.Polynomials.{Poly, degree, leading, mul, product}
use Rattle.specification.specs.Totals.{different}

-- one of the "monic polynomials of degree 1 or more", modulo n
pub record Monic (n : ℕ) (f : Poly) : Type 0 where
  pub positive : 1 ≤ degree f
  pub leads_with_one : leading f ≡ 1
  pub reduced : (i : ℕ) → i < length f → get_or f i 0 < n

-- "degree 1 or more, and not a product of two polynomials of degree 1 or more (both monic, where it is monic)"; here f is monic
pub record Irreducible (n : ℕ) (f : Poly) : Type 0 where
  pub monic : Monic n f
  pub no_product : (a b : Poly) → Monic n a → Monic n b → mul n a b ≡ f → ⊥

-- "any finite list of monic polynomials of degree 1 or more .., in any order, repeats allowed", that multiplies to f
pub record Factorisation (n : ℕ) (f : Poly) (L : List Poly) : Type 0 where
  pub monic : (q : Poly) → Memᴰ q L → Monic n q
  pub multiplies : product n L ≡ f

-- term 3 of f, a list L and the totals s and z
pub record Longest (n : ℕ) (f : Poly) (L : List Poly) (s z : ℕ) : Type 0 where
  -- "It multiplies to f modulo p squared"
  pub multiplies : product n L ≡ f
  -- "and has exactly s members, repeats counted"
  pub total : length L ≡ s
  -- "and exactly z different ones"
  pub different_total : different L ≡ z
  -- "No member is, modulo p squared, a product of two monic polynomials of degree 1 or more"
  pub irreducible : (q : Poly) → Memᴰ q L → Irreducible n q
  -- "Every other list of monic polynomials of degree 1 or more that multiplies to f .. has at most s members"
  pub longest : (M : List Poly) → Factorisation n f M → length M ≤ s
  -- "Every such list with s members has at least z different ones"
  pub fewest : (M : List Poly) → Factorisation n f M → length M ≡ s → z ≤ different M
