-- The list of an array: `listed d a`, the coefficients of a up to the degree d, as the specification has a polynomial.
-- Proves its length, its degree, its lower part and its entries, and that where the array has no term past d it has the array's polynomial.
-- Assumes nothing.
use Rattle.std.specs.Prelude.{◌≡◌, List, ℕ, suc, ◌≤◌, ◌<◌, length, get_or, set, take}
use Rattle.std.proofs.Common.{sym, ◌∙◌, ap, arith, ext_get_or, get_or-take, length-take-le, take-take}
use Rattle.std.proofs.Math.Seq.{take-set-lt}
use Rattle.specification.specs.Polynomials.{Poly, degree, lower}
use Rattle.algebra.specs.Degree.{Below}
use Rattle.algebra.specs.CoefficientLists.{poly, Reduced}
use Rattle.algebra.specs.ListShapes.{low_take}
use Rattle.algebra.specs.ListDivision.{poly_take}
use Rattle.arrays.specs.SameEntries.{same_entries}

-- the coefficients up to the degree d
abbrev pub listed : ℕ → List ℕ → Poly
listed d a = take (suc d) a

module _ (d : ℕ) (a : List ℕ) where
  module _ (l : d < length a) where
    pub length_listed : length (listed d a) ≡ suc d
    length_listed = length-take-le (suc d) a l

    pub degree_listed : degree (listed d a) ≡ d
    degree_listed = omega (arith, length_listed)

    pub lower_listed : lower (listed d a) ≡ take d a
    lower_listed = ap (λ (e : ℕ). take e (listed d a)) degree_listed ∙ take-take d (suc d) a (omega arith)

  pub listed_at : (k : ℕ) → k ≤ d → get_or (listed d a) k 0 ≡ get_or a k 0
  listed_at k l = get_or-take (suc d) a k 0 (omega arith)

  pub listed_set : (i v : ℕ) → i ≤ d → listed d (set a i v) ≡ set (listed d a) i v
  listed_set i v l = take-set-lt (suc d) a i v (omega arith)

  pub poly_listed : (n : ℕ) → Below (suc d) (poly n a) → poly n (listed d a) ≡ poly n a
  poly_listed n h = poly_take n (suc d) a h

module _ {n d : ℕ} {a : List ℕ} (h : Reduced n 33 a) (l : d < 33) where
  pub reduced_listed : 0 < n → Reduced n (suc d) (listed d a)
  reduced_listed pos = record { len = length_listed d a (omega (arith, h.len)); low = low_take n pos (suc d) a h.low }

  -- a list of d + 1 with the array's polynomial is the array's
  pub listed_is : {f : List ℕ} → Reduced n (suc d) f → poly n a ≡ poly n f → listed d a ≡ f
  listed_is {f} hf e =
      ext_get_or 0 (listed d a) f (long ∙ sym hf.len) (λ k u. listed_at d a k (omega (arith, long)) ∙ same_entries h hf e k)
    where
      long : length (listed d a) ≡ suc d
      long = length_listed d a (omega (arith, h.len))
