-- The reduction of the image of x^i by the rows: `TakenOff`, its leading term is taken off by the row in its slot, and as much off the preimage;
-- `ReducedTo p t o m n i rows k u w`, u and w are what the rows have left of the image under t and of x^i so far, where u has k terms; m images, n slots.
-- `Reducible`, some such u and w are given; `ReducedBy`, whatever they are left of, what is left now is left of that too, and no row is left
-- for it.
-- Proves that what the code takes off is such a step, and that the reduction goes on with it. Assumes nothing.
use Rattle.std.specs.Prelude.{◌≡◌, ◌≢◌, ◌⊎◌, List, [], ℕ, suc, ◌<◌, ◌≤◌, ◌-◌, get_or, length}
use Rattle.std.proofs.Common.{sym, ◌∙◌, ap, arith}
use Rattle.algebra.specs.Residues.{residue}
use Rattle.algebra.specs.PolynomialRing.{◌+ᴿ◌, ◌·◌, constant}
use Rattle.algebra.specs.Monomials.{x^}
use Rattle.algebra.specs.Degree.{Below, Monic}
use Rattle.algebra.specs.Division.{below_top}
use Rattle.algebra.specs.CoefficientLists.{ℤ[x]/, poly, Reduced, coef_poly}
use Rattle.arrays.specs.Represents.{Represents, ZeroFrom}
use Rattle.arrays.specs.SameEntries.{zero_above}
use Rattle.arrays.specs.Sizes.{Size, below_size, size_small}
use Rattle.frobenius.specs.Span.{less}
use Rattle.frobenius.specs.RowReduction.{Stage, Reducing, reducing_more, reducing_down}
use Rattle.modular.specs.InPlace.{Added}
use Rattle.modular.proofs.AddMultiple.{multiple_added_to}
use Rattle.modular.specs.Multiples.{multiple_taken_off}
use Rattle.modp_dependency.specs.declared.Row.{Row}
use Rattle.modp_dependency.specs.StoredRows.{poly_at, ReducedRows, row_images, row_preimages, no_row, image_at, preimage_at, slot_filled}

-- by the row (a, b) an image u of k terms has become u', which has r terms, and its preimage w has become w'
pub record TakenOff (p k : ℕ) (u w a b u' w' : List ℕ) (r : ℕ) : Type 0 where
  pub image : Represents p u' (less (poly p u) ((poly p u).coef (k - 1)) (poly p a))
  pub preimage : Represents p w' (less (poly p w) ((poly p u).coef (k - 1)) (poly p b))
  pub size : Size u' r
  pub fewer : r < k

-- p − c stands for −c, where c is the coefficient k − 1 of u
multiple_off : {p : ℕ} (k : ℕ) {u v a v' : List ℕ} → Reduced p 33 u → Reduced p 33 v → Added p v (p - get_or u (k - 1) 0) a v'
    → Represents p v' (less (poly p v) ((poly p u).coef (k - 1)) (poly p a))
multiple_off {p} k {u} {v} {a} {v'} hu hv h = record {
  reduced = sum.reduced;
  is = multiple_taken_off p (omega (arith, hu.low (k - 1))) (omega (arith, hu.low (k - 1))) (poly p v) (poly p a) sum
      ∙ ap (λ c. less (poly p v) c (poly p a)) (sym (coef_poly p u (k - 1)));
}
  where
    sum : Represents p v' (poly p v +ᴿ constant (residue p (p - get_or u (k - 1) 0)) · (x^ 0 · poly p a))
    sum = multiple_added_to p v (p - get_or u (k - 1) 0) a hv h

module _ {p k : ℕ} {u a u' : List ℕ} (pos : 0 < k) (hu : Reduced p 33 u) (z : Size u k) (monic : Monic (k - 1) (poly p a))
    (h : Added p u (p - get_or u (k - 1) 0) a u') where
  -- the leading term is gone
  small : Below (k - 1) (poly p u')
  small = rw (multiple_off k hu hu h).is (below_top monic (poly p u) (rw next at (below_size p z)))
    where
      next : k ≡ suc (k - 1)
      next = omega arith

  pub leading_gone : ZeroFrom (k - 1) u'
  leading_gone = zero_above (multiple_off k hu hu h).reduced small

  pub taken_off : {w b w' : List ℕ} {r : ℕ} → Reduced p 33 w → Added p w (p - get_or u (k - 1) 0) b w' → Size u' r → TakenOff p k u w a b u' w' r
  taken_off hw g s = record {
    image = multiple_off k hu hu h;
    preimage = multiple_off k hu hw g;
    size = s;
    fewer = omega (arith, size_small (multiple_off k hu hu h).reduced small s);
  }

pub record ReducedTo (p : ℕ) (t : ℕ → ℤ[x]/ p) (o m n i : ℕ) (rows : List (List ℕ)) (k : ℕ) (u w : List ℕ) : Type 0 where
  pub reach : k ≤ n
  pub image : Reduced p 33 u
  pub size : Size u k
  pub preimage : Reduced p 33 w
  pub reducing : Reducing t m n o (poly_at p rows) i k (poly p u) (poly p w)

pub record Reducible (p i : ℕ) (rows : List Row) (k : ℕ) (u w : List ℕ) : Type 0 where
  pub of : ℕ → ℤ[x]/ p
  pub least : ℕ
  pub most : ℕ
  pub terms : ℕ
  pub slots : length rows ≡ 33
  pub low : i ≤ 33
  pub reduced : ReducedRows p (row_images rows) × ReducedRows p (row_preimages rows)
  pub stage : Stage of most terms least (poly_at p (row_images rows)) (poly_at p (row_preimages rows)) i
  pub left : ReducedTo p of least most terms i (row_images rows) k u w

pub record ReducedBy (p i : ℕ) (rows : List Row) (k : ℕ) (u w : List ℕ) (k' : ℕ) (u' w' : List ℕ) : Type 0 where
  pub goes_on : (h : Reducible p i rows k u w) → ReducedTo p h.of h.least h.most h.terms i (row_images rows) k' u' w'
  pub stops : (k' ≡ 0) ⊎ (get_or (get_or rows (k' - 1) no_row).image (k' - 1) 0 ≡ 0)

-- the leading term is taken off by the row in its slot
pub reduced_more : {p : ℕ} {t : ℕ → ℤ[x]/ p} {o m n i : ℕ} {rows : List (List ℕ)} (preimages : List (List ℕ)) {k l : ℕ} {u w u' w' : List ℕ} → 0 < k
    → Stage t m n o (poly_at p rows) (poly_at p preimages) i → ReducedTo p t o m n i rows k u w
    → TakenOff p k u w (get_or rows (k - 1) []) (get_or preimages (k - 1) []) u' w' l → ReducedTo p t o m n i rows l u' w'
reduced_more {p} {t} {o} {m} {n} preimages {k} {l} pos S h off = record {
  reach = omega (arith, h.reach, off.fewer);
  image = off.image.reduced;
  size = off.size;
  preimage = off.preimage.reduced;
  reducing = reducing_down t m n o down (below_size p off.size)
      (rw (off.image.is, off.preimage.is) (reducing_more t m n o S (rw next at h.reducing)));
}
  where
    next : k ≡ suc (k - 1)
    next = omega arith

    down : l ≤ k - 1
    down = omega (arith, off.fewer)

-- what is taken off the image by the row in its slot
module _ {p i : ℕ} {rows : List Row} {k₀ : ℕ} {u₀ w₀ : List ℕ} (h : Reducible p i rows k₀ u₀ w₀) {k : ℕ} {u w : List ℕ} (pos : 0 < k)
    (L : ReducedTo p h.of h.least h.most h.terms i (row_images rows) k u w) where
  abbrev row : Row
  row = get_or rows (k - 1) no_row

  inside : k - 1 < 33
  inside = omega (arith, L.size.limit, pos)

  pub row_reduced : Reduced p 33 row.image
  row_reduced = rw image_at at (h.reduced.0 (k - 1) inside)

  pub row_monic : get_or row.image (k - 1) 0 ≢ 0 → Monic (k - 1) (poly p row.image)
  row_monic ne =
      rw image_at at (slot_filled (row_images rows) (k - 1) (h.stage.slots (k - 1)) (h.reduced.0 (k - 1) inside) (rw image_at ne))

  pub preimage_reduced : Reduced p 33 row.preimage
  preimage_reduced = rw preimage_at at (h.reduced.1 (k - 1) inside)

  pub preimage_below : Below i (poly p row.preimage)
  preimage_below = rw preimage_at at (h.stage.preimage (k - 1)).below

  pub row_taken_off : {l : ℕ} {u' w' : List ℕ} → TakenOff p k u w row.image row.preimage u' w' l
      → ReducedTo p h.of h.least h.most h.terms i (row_images rows) l u' w'
  row_taken_off off = reduced_more (row_preimages rows) pos h.stage L (rw (image_at, preimage_at) off)
