-- The search of `least_dependency`: `Images p count d images`, what it is given; `DependencyFound`, what it finds; its loop, `Searching`: the rows span the
-- images of x^first, .., x^(i − 1), and these are independent; and `InHand`, with a flag, which no loop has any more: the image of x^i, unless it is
-- fresh, is reduced to k terms.
-- Proves that the loop begins so, goes on so, and ends with the least dependency or with none. Assumes nothing.
use Rattle.std.specs.Prelude.{◌≡◌, Bool, true, false, List, [], Option, MatchOption, ℕ, suc, ◌<◌, ◌≤◌, ◌-◌, ◌+◌, length, get_or, replicate}
use Rattle.std.proofs.Common.{◌∙◌, true≢false, le_refl, add-one, arith, sym}
use Rattle.std.proofs.lemmas.List.{length-map, length-replicate}
use Rattle.algebra.specs.PolynomialRing.{𝟎}
use Rattle.algebra.specs.Degree.{Below, below_zero}
use Rattle.algebra.specs.Fields.{Prime, prime_pos}
use Rattle.algebra.specs.CoefficientLists.{ℤ[x]/, poly, Reduced}
use Rattle.arrays.specs.declared.MonicPoly.{MonicPoly}
use Rattle.arrays.specs.Held.{MonicArray}
use Rattle.arrays.specs.Represents.{Represents}
use Rattle.arrays.specs.Sizes.{Size, below_size, size_small}
use Rattle.arrays.specs.MonomialArray.{IsMonomial, monomial_represents}
use Rattle.frobenius.specs.LinearMaps.{apply}
use Rattle.frobenius.specs.RowReduction.{Between, Stage, reducing_none, reducing_down}
use Rattle.frobenius.specs.LeastDependency.{LeastDependency, stage_found}
use Rattle.modp_dependency.specs.declared.Row.{Row}
use Rattle.modp_dependency.specs.StoredRows.{
  poly_at,
  ReducedRows,
  row_images,
  row_preimages,
  no_row,
  image_at,
  preimage_at,
  free,
  slot_free,
  stage_free,
  free_reduced,
}
use Rattle.modp_dependency.specs.Reduction.{ReducedTo, Reducible, ReducedBy}
use Rattle.modp_dependency.specs.Storing.{Stored, reduced_stored, stage_stored}

-- images of the x^k below x^count, in polynomials of degree below d
pub record Images (p count d : ℕ) (images : List (List ℕ)) : Type 0 where
  pub long : count ≤ length images
  pub reduced : (k : ℕ) → k < count → Reduced p 33 (get_or images k [])
  pub small : (k : ℕ) → k < count → Below d (poly_at p images k)

-- a dependency found
pub record Least (p : ℕ) (images : List (List ℕ)) (first count degree : ℕ) (v : List ℕ) : Type 0 where
  pub reduced : Reduced p 33 v
  pub above : first ≤ degree
  pub within : degree < count
  pub least : LeastDependency (poly_at p images) count first degree (poly p v)

-- the map is injective on the polynomials with terms of degree first to count − 1
abbrev pub Independent : (p : ℕ) → List (List ℕ) → ℕ → ℕ → Type 0
Independent p images first count = (v : ℤ[x]/ p) → Between first count v → apply (poly_at p images) count v ≡ 𝟎 → v ≡ 𝟎

-- and so it is where none is found
abbrev pub DependencyFound : (p : ℕ) → List (List ℕ) → ℕ → ℕ → Option MonicPoly → Type 0
DependencyFound p images first count r = MatchOption r (Independent p images first count) (λ s. Least p images first count s.degree s.coefs)

pub record Searching (p : ℕ) (images : List (List ℕ)) (first count d i : ℕ) (rows : List Row) : Type 0 where
  pub above : first ≤ i
  pub within : i ≤ count
  pub slots : length rows ≡ 33
  pub reduced : ReducedRows p (row_images rows) × ReducedRows p (row_preimages rows)
  pub stage : Stage (poly_at p images) count d first (poly_at p (row_images rows)) (poly_at p (row_preimages rows)) i

-- the image of x^i is in hand, reduced to k terms, unless it is fresh
pub record InHand (p : ℕ) (images : List (List ℕ)) (first count d i : ℕ) (rows : List (List ℕ)) (image preimage : List ℕ) (k : ℕ) (fresh : Bool) : Type 0 where
  pub limit : k ≤ 33
  pub reduced : fresh ≡ false → ReducedTo p (poly_at p images) first count d i rows k image preimage

module _ {p : ℕ} {images : List (List ℕ)} {first count d i : ℕ} {rows : List (List ℕ)} {image preimage : List ℕ} {k : ℕ} where
  pub none_in_hand : k ≤ 33 → InHand p images first count d i rows image preimage k true
  none_in_hand l = record { limit = l; reduced = λ q. absurd (true≢false q) }

  pub in_hand_lem : {fresh : Bool} → ReducedTo p (poly_at p images) first count d i rows k image preimage
      → InHand p images first count d i rows image preimage k fresh
  in_hand_lem R = record { limit = R.size.limit; reduced = λ q. R }

pub searching_none : {p : ℕ} {images : List (List ℕ)} {first count d : ℕ} → Prime p → first ≤ count
    → Searching p images first count d first (replicate 33 (record { image = free; preimage = free }))
searching_none {p} {first = first} P l = record {
  above = le_refl first;
  within = l;
  slots = length-replicate {A = Row} 33 (record { image = free; preimage = free });
  reduced = (free_reduced (prime_pos P), free_reduced (prime_pos P));
  stage = stage_free p;
}

-- nothing is taken off the image of x^i yet
pub reduced_none : {p : ℕ} {images : List (List ℕ)} {first count d i : ℕ} {rows : List Row} {x : List ℕ} {k : ℕ} → Prime p
    → Images p count d images → i < count → Searching p images first count d i rows → IsMonomial i x → Size (get_or images i []) k
    → ReducedTo p (poly_at p images) first count d i (row_images rows) k (get_or images i []) x
reduced_none {p} {images} {first} {count} {d} {i} {k = k} P I l S X z = record {
  reach = reach;
  image = I.reduced i l;
  size = z;
  preimage = (monomial_represents X P.large).reduced;
  reducing = reducing_down (poly_at p images) count d first reach (below_size p z)
      (rw (monomial_represents X P.large).is (reducing_none (poly_at p images) count d first S.above l));
}
  where
    reach : k ≤ d
    reach = size_small (I.reduced i l) (I.small i l) z

-- so it may be reduced
pub image_reducible : {p : ℕ} {images : List (List ℕ)} {first count d i : ℕ} {rows : List Row} {x : List ℕ} {k : ℕ} → Prime p
    → Images p count d images → count ≤ 33 → i < count → Searching p images first count d i rows → IsMonomial i x → Size (get_or images i []) k
    → Reducible p i rows k (get_or images i []) x
image_reducible {p} {images} {first} {count} {d} {i} {k = k} P I fits l S X z = record {
  of = poly_at p images;
  least = first;
  most = count;
  terms = d;
  slots = S.slots;
  low = omega arith;
  reduced = S.reduced;
  stage = S.stage;
  left = reduced_none P I l S X z;
}

-- and this is what is left of it
pub image_reduced : {p : ℕ} {images : List (List ℕ)} {first count d i : ℕ} {rows : List Row} {x : List ℕ} {k k' : ℕ} {u w : List ℕ} → Prime p
    → Images p count d images → count ≤ 33 → i < count → Searching p images first count d i rows → IsMonomial i x → Size (get_or images i []) k
    → ReducedBy p i rows k (get_or images i []) x k' u w → ReducedTo p (poly_at p images) first count d i (row_images rows) k' u w
unfolding image_reducible
image_reduced P I fits l S X z by = by.goes_on (image_reducible P I fits l S X z)

-- image and preimage of a free slot are 0, the latter since the map is injective so far
pub free_slot : {p : ℕ} → Prime p → {images : List (List ℕ)} {first count d i : ℕ} {rows : List Row} (k : ℕ)
    → Searching p images first count d i rows → k < 33 → get_or (get_or rows k no_row).image k 0 ≡ 0
    → Represents p (get_or rows k no_row).image 𝟎 × Represents p (get_or rows k no_row).preimage 𝟎
free_slot {p} P {rows = rows} k S l e = (
  rw image_at at image,
  rw preimage_at at preimage,
)
  where
    none : poly_at p (row_images rows) k ≡ 𝟎
    none = slot_free (row_images rows) k (S.stage.slots k) P.large (rw image_at e)

    image : Represents p (get_or (row_images rows) k []) 𝟎
    image = record { reduced = S.reduced.0 k l; is = none }

    preimage : Represents p (get_or (row_preimages rows) k []) 𝟎
    preimage = record {
      reduced = S.reduced.1 k l;
      is = S.stage.injective (poly_at p (row_preimages rows) k) (S.stage.preimage k) (S.stage.image k ∙ none);
    }

-- the image of x^i is reduced to u, with k terms, and x^i to w
module _ {p : ℕ} (P : Prime p) {images : List (List ℕ)} {first count d i : ℕ} {rows : List Row} {k : ℕ} {u w : List ℕ} (l : i < count)
    (S : Searching p images first count d i rows) (R : ReducedTo p (poly_at p images) first count d i (row_images rows) k u w) where
  pub searching_found : k ≡ 0 → Least p images first count i w
  searching_found e = record {
    reduced = R.preimage;
    above = S.above;
    within = l;
    least = stage_found (poly_at p images) count d first S.stage (rw e at R.reducing) (below_zero (rw e at (below_size p R.size)));
  }

  pub found_monic : k ≡ 0 → i < 33 → MonicArray p i w
  found_monic e fits = let a = searching_found e in record { fits = fits; reduced = a.reduced; monic = a.least.monic }

  -- its slot is free
  pub searching_more : {rows' : List Row} → 0 < k → get_or (get_or rows (k - 1) no_row).image (k - 1) 0 ≡ 0
      → Stored p (row_images rows) (row_preimages rows) u w (k - 1) (row_images rows') (row_preimages rows') → Searching p images first count d (i + 1) rows'
  searching_more {rows'} pos e h = record {
    above = omega (arith, S.above);
    within = omega arith;
    slots = sym (length-map rows' (λ x. x.image)) ∙ h.slots.0 ∙ length-map rows (λ x. x.image) ∙ S.slots;
    reduced = reduced_stored h S.reduced.0 S.reduced.1;
    stage = rw add-one
        (stage_stored h P S.above l (omega (arith, R.reach)) (omega arith)
        (slot_free (row_images rows) (k - 1) (S.stage.slots (k - 1)) P.large (rw image_at e)) (rw next (below_size p R.size)) S.stage R.reducing);
  }
    where
      next : suc (k - 1) ≡ k
      next = omega arith

pub searching_done : {p : ℕ} {images : List (List ℕ)} {first count d i : ℕ} {rows : List Row} → count ≤ i → Searching p images first count d i rows
    → Independent p images first count
searching_done {count = count} {i = i} l S = rw e at S.stage.injective
  where
    e : i ≡ count
    e = omega (arith, S.within)
