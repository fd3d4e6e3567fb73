-- Arrays of 33 coefficients with a degree: `Shaped d a`, the array a is 0 past the degree d; `Held n d a`, it is also reduced modulo n; `MonicArray n d a`,
-- it holds a monic polynomial of degree d modulo n; `MonicModSquare p f d`, f holds one modulo p², of degree 1 or more.
-- Proves that "no term past d" and "0 past d" are one for reduced arrays, that a coefficient may be set, and that arrays with one list are one.
-- Assumes nothing.
use Rattle.std.specs.Prelude.{◌≡◌, true, List, ℕ, suc, ◌≤◌, ◌<◌, length, get_or, set}
use Rattle.std.proofs.Common.{sym, ◌∙◌, ap, ⊎_elim, arith, length-set, ext_get_or, get_or-set_same, get_or-set_other}
use Rattle.std.proofs.Math.Decide.{ℕ_discrete}
use Rattle.specification.specs.Limits.{taken, degree_limit, coefficient_count, ◌²}
use Rattle.algebra.specs.Numbers.{lt_or_le}
use Rattle.algebra.specs.Residues.{residue, residue_one}
use Rattle.algebra.specs.Degree.{Below, Monic}
use Rattle.algebra.specs.CoefficientLists.{poly, Reduced, coef_poly}
use Rattle.arrays.specs.Represents.{ZeroFrom, below_zeros}
use Rattle.arrays.specs.SameEntries.{zero_above}
use Rattle.arrays.specs.Listed.{listed, listed_at, poly_listed}

-- 33 coefficients, 0 past the degree d
pub record Shaped (d : ℕ) (a : List ℕ) : Type 0 where
  pub fits : d ≤ degree_limit
  pub len : length a ≡ coefficient_count
  pub above : ZeroFrom (suc d) a

-- reduced modulo n as well
pub record Held (n d : ℕ) (a : List ℕ) : Type 0 where
  pub shaped : Shaped d a
  pub reduced : Reduced n 33 a

-- a monic polynomial of degree d modulo n
pub record MonicArray (n d : ℕ) (a : List ℕ) : Type 0 where
  pub fits : d < 33
  pub reduced : Reduced n 33 a
  pub monic : Monic d (poly n a)

-- a taken prime, and a monic polynomial of degree 1 or more modulo its square, as a sheet has them
pub record MonicModSquare (p : ℕ) (f : List ℕ) (d : ℕ) : Type 0 where
  pub prime : taken p ≡ true
  pub positive : 0 < d
  pub array : MonicArray (p ²) d f

module _ {d : ℕ} {a : List ℕ} (h : Shaped d a) where
  -- the degree is a place of the array
  pub inside : d < length a
  inside = omega (arith, h.len, h.fits)

  -- modulo any number there is no term past the degree
  pub below_shaped : (n : ℕ) → Below (suc d) (poly n a)
  below_shaped n = below_zeros n a h.above

  pub shaped_set : (i v : ℕ) → i ≤ d → Shaped d (set a i v)
  shaped_set i v l = record {
    fits = h.fits;
    len = length-set a i v ∙ h.len;
    above = λ k u. get_or-set_other a i k v 0 (omega arith) ∙ h.above k u;
  }

  -- arrays with one list are one
  pub same_array : {b : List ℕ} → Shaped d b → listed d a ≡ listed d b → a ≡ b
  same_array {b} hb e =
      ext_get_or 0 a b (h.len ∙ sym hb.len)
      (λ k l.
      ⊎_elim (λ u. sym (listed_at d a k (omega arith)) ∙ ap (λ (f : List ℕ). get_or f k 0) e ∙ listed_at d b k (omega arith))
      (λ u. h.above k u ∙ sym (hb.above k u)) (lt_or_le k (suc d)))

module _ {n d : ℕ} {a : List ℕ} where
  -- no term past the degree, and so 0 there
  pub held_below : d ≤ degree_limit → Reduced n 33 a → Below (suc d) (poly n a) → Held n d a
  held_below fits r h = record { shaped = record { fits = fits; len = r.len; above = zero_above r h }; reduced = r }

  pub held_monic : MonicArray n d a → Held n d a
  held_monic m = held_below (omega (arith, m.fits)) m.reduced m.monic.below

  -- the list has the array's polynomial
  pub poly_held : Held n d a → poly n (listed d a) ≡ poly n a
  poly_held h = poly_listed d a n (below_shaped h.shaped n)

  pub poly_monic : MonicArray n d a → poly n (listed d a) ≡ poly n a
  poly_monic m = poly_listed d a n m.monic.below

  -- a 1 at the degree
  pub leads_monic : Held n d a → get_or a d 0 ≡ 1 → MonicArray n d a
  leads_monic h e = record {
    fits = omega (arith, h.shaped.fits);
    reduced = h.reduced;
    monic = record { leading = coef_poly n a d ∙ ap (residue n) e ∙ residue_one n; below = below_shaped h.shaped n };
  }

  pub held_set : Held n d a → {i v : ℕ} → i ≤ d → v < n → Held n d (set a i v)
  held_set h {i} {v} l u = record {
    shaped = shaped_set h.shaped i v l;
    reduced = record { len = length-set a i v ∙ h.reduced.len; low = λ k. low k (ℕ_discrete k i) };
  }
    where
      low : (k : ℕ) → Dec (k ≡ i) → get_or (set a i v) k 0 < n
      low k (yes e) = rw (e, get_or-set_same a i v 0 (omega (arith, l, inside h.shaped))) u
      low k (no e) = rw (get_or-set_other a i k v 0 e) (h.reduced.low k)
