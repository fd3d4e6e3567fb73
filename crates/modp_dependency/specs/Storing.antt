-- A row put into its slot: `MonicRow p u w k u' w'`, u' and w' are u and w times the constant that makes the coefficient k of u 1, so u' is monic where k is
-- the degree of u; `Stored`, slot k holds such a row, and the others what they held.
-- Proves the first of what is added to a free slot, that what is stored in the first rows is stored in all, and that the stage of a search goes on with the
-- second. Assumes nothing.
use Rattle.std.specs.Prelude.{◌≡◌, List, [], ◌++◌, ◌≢◌, ℕ, suc, ◌<◌, ◌≤◌, ◌+◌, ◌-◌, ◌*◌, ◌%◌, length, get_or, map, set, take, drop}
use Rattle.std.proofs.Common.{
  sym,
  ◌∙◌,
  ap,
  ⊎_elim,
  arith,
  length-set,
  length-append,
  length-drop,
  length-take-le,
  get_or-set_same,
  get_or-set_other,
  get_or-take,
  get_or-drop,
}
use Rattle.std.proofs.lemmas.List.{set-set, get_or-append_right}
use Rattle.std.proofs.Math.Decide.{ℕ_discrete}
use Rattle.std.proofs.Math.ListN.{length-map, get_or-append}
use Rattle.algebra.specs.Numbers.{lt_or_le}
use Rattle.algebra.specs.Residues.{ℤ/, residue, Residues, residue_inverse}
use Rattle.algebra.specs.PolynomialRing.{◌·◌, 𝟎, constant}
use Rattle.algebra.specs.Degree.{Below}
use Rattle.algebra.specs.Fields.{Prime, prime_pos, residue_field}
use Rattle.algebra.specs.CoefficientLists.{ℤ[x]/, poly, Reduced, coef_poly}
use Rattle.arrays.specs.Represents.{Represents}
use Rattle.frobenius.specs.RowReduction.{Stage, Reducing}
use Rattle.frobenius.proofs.LeastDependency.{stage_more}
use Rattle.modular.specs.InPlace.{Added}
use Rattle.modular.specs.Multiples.{multiple_represented}
use Rattle.modular.proofs.AddMultiple.{multiple_added_to}
use Rattle.modp_dependency.specs.declared.Row.{Row}
use Rattle.modp_dependency.specs.StoredRows.{FreeSlot, poly_at, ReducedRows, row_images, row_preimages, no_row, image_at, preimage_at}

pub record MonicRow (p : ℕ) (u w : List ℕ) (k : ℕ) (u' w' : List ℕ) : Type 0 where
  pub scale : ℤ/ p
  pub unit : (Residues p).mul scale ((poly p u).coef k) ≡ (Residues p).𝟙
  pub image : Represents p u' (constant scale · poly p u)
  pub preimage : Represents p w' (constant scale · poly p w)

pub record Stored (p : ℕ) (rows preimages : List (List ℕ)) (u w : List ℕ) (k : ℕ) (rows' preimages' : List (List ℕ)) : Type 0 where
  pub row : MonicRow p u w k (get_or rows' k []) (get_or preimages' k [])
  pub slots : (length rows' ≡ length rows) × (length preimages' ≡ length preimages)
  pub image : (j : ℕ) → j ≢ k → get_or rows' j [] ≡ get_or rows j []
  pub preimage : (j : ℕ) → j ≢ k → get_or preimages' j [] ≡ get_or preimages j []

pub row_stored : {p : ℕ} (rows : List Row) {u w : List ℕ} {k : ℕ} {r : Row} → k < length rows → MonicRow p u w k r.image r.preimage
    → Stored p (row_images rows) (row_preimages rows) u w k (row_images (set rows k r)) (row_preimages (set rows k r))
row_stored {p} rows {u} {w} {k} {r} l h = record {
  row = rw (image_at, preimage_at, get_or-set_same rows k r no_row l) h;
  slots = (same (λ x. x.image), same (λ x. x.preimage));
  image = λ j ne. image_at (set rows k r) j ∙ ap (λ x. x.image) (get_or-set_other rows k j r no_row ne) ∙ sym (image_at rows j);
  preimage = λ j ne. preimage_at (set rows k r) j ∙ ap (λ x. x.preimage) (get_or-set_other rows k j r no_row ne) ∙ sym (preimage_at rows j);
}
  where
    same : (f : Row → List ℕ) → length (map f (set rows k r)) ≡ length (map f rows)
    same f = length-map (set rows k r) f ∙ length-set rows k r ∙ sym (length-map rows f)

-- the slot k has the image a, and the preimage that it had
abbrev pub with_image : List Row → ℕ → List ℕ → List Row
with_image rows k a = set rows k (record { image = a; preimage = (get_or rows k no_row).preimage })

pub preimage_kept : {p : ℕ} (rows : List Row) {k : ℕ} (a : List ℕ) → k < length rows → FreeSlot p rows k
    → Represents p (get_or (with_image rows k a) k no_row).preimage 𝟎
preimage_kept rows {k} a l h = rw (get_or-set_same rows k _ no_row l) h.1

-- the image is put into the slot first, and then the preimage
pub both_stored : {p : ℕ} (rows : List Row) {u w : List ℕ} {k : ℕ} {a b : List ℕ} → k < length rows → MonicRow p u w k a b
    → Stored p (row_images rows) (row_preimages rows) u w k
    (row_images (set (with_image rows k a) k (record { image = (get_or (with_image rows k a) k no_row).image; preimage = b })))
    (row_preimages (set (with_image rows k a) k (record { image = (get_or (with_image rows k a) k no_row).image; preimage = b })))
both_stored rows {k = k} l h = rw (set-set rows k, get_or-set_same rows k _ no_row l) (row_stored rows l h)

-- a slot among the first d rows
pub first_free : (rows : List Row) {p d k : ℕ} → k < d → FreeSlot p rows k → FreeSlot p (take d rows) k
first_free rows {d = d} {k} low h = rw (get_or-take d rows k no_row low) h

-- what is stored in these is stored in all
module _ (rows part : List Row) {d k : ℕ} (reach : d ≤ length rows) (low : k < d) where
  abbrev all : List Row
  all = part ++ drop d rows

  module _ (same : length part ≡ d) where
    of_all : (f : Row → List ℕ) → length (map f all) ≡ length (map f rows)
    of_all f = omega (arith, length-map all f, length-map rows f, length-append part (drop d rows), length-drop d rows, same)

    at_first : {j : ℕ} → j < d → get_or all j no_row ≡ get_or part j no_row
    at_first {j} l = get_or-append part (drop d rows) no_row j (omega (arith, same))

    others : (f : Row → List ℕ) {j : ℕ} → (j < d → f (get_or part j no_row) ≡ f (get_or (take d rows) j no_row))
        → f (get_or all j no_row) ≡ f (get_or rows j no_row)
    others f {j} h = ⊎_elim (λ l. ap f (at_first l) ∙ h l ∙ ap f (get_or-take d rows j no_row l))
        (λ l. ap f (get_or-append_right part (drop d rows) d j no_row same l ∙ get_or-drop d rows (j - d) no_row
        ∙ ap (λ i. get_or rows i no_row) (let s : d + (j - d) ≡ j = omega arith in s)))
        (lt_or_le j d)

  pub first_stored : {p : ℕ} {u w : List ℕ} → Stored p (row_images (take d rows)) (row_preimages (take d rows)) u w k (row_images part) (row_preimages part)
      → Stored p (row_images rows) (row_preimages rows) u w k (row_images all) (row_preimages all)
  first_stored h =
      let same : length part ≡ d =
      omega (arith, h.slots.0, length-map part (λ r. r.image), length-map (take d rows) (λ r. r.image), length-take-le d rows reach) in
      record {
        row = rw (image_at, preimage_at, at_first same low) (rw (image_at, preimage_at) at h.row);
        slots = (of_all same (λ r. r.image), of_all same (λ r. r.preimage));
        image = λ j ne. image_at all j ∙ others same (λ r. r.image) (λ l. sym (image_at part j) ∙ h.image j ne ∙ image_at (take d rows) j)
            ∙ sym (image_at rows j);
        preimage = λ j ne. preimage_at all j
            ∙ others same (λ r. r.preimage) (λ l. sym (preimage_at part j) ∙ h.preimage j ne ∙ preimage_at (take d rows) j) ∙ sym (preimage_at rows j);
      }

-- c is the inverse of the leading coefficient, and the slot holds r and s
pub monic_row : {p : ℕ} → Prime p → {u w r s : List ℕ} {k : ℕ} (c : ℕ) {u' w' : List ℕ} → get_or u k 0 * c % p ≡ 1 → Represents p r 𝟎 → Represents p s 𝟎
    → Added p r c u u' → Added p s c w w' → MonicRow p u w k u' w'
monic_row {p} P {u} {w} {r} {s} {k} c e hr hs au aw = record {
  scale = residue p c;
  unit = ap ((Residues p).mul (residue p c)) (coef_poly p u k) ∙ residue_inverse p (prime_pos P) (get_or u k 0) c e;
  image = multiple_represented c u hr.is (multiple_added_to p r c u hr.reduced au);
  preimage = multiple_represented c w hs.is (multiple_added_to p s c w hs.reduced aw);
}

module _ {p : ℕ} {rows preimages : List (List ℕ)} {u w : List ℕ} {k : ℕ} {rows' preimages' : List (List ℕ)}
    (h : Stored p rows preimages u w k rows' preimages') where
  pub reduced_stored : ReducedRows p rows → ReducedRows p preimages → ReducedRows p rows' × ReducedRows p preimages'
  reduced_stored R S = (
    λ j l. at rows rows' h.row.image.reduced h.image R j l (ℕ_discrete j k),
    λ j l. at preimages preimages' h.row.preimage.reduced h.preimage S j l (ℕ_discrete j k),
  )
    where
      at : (a b : List (List ℕ)) → Reduced p 33 (get_or b k []) → ((j : ℕ) → j ≢ k → get_or b j [] ≡ get_or a j []) → ReducedRows p a
          → (j : ℕ) → j < 33 → Dec (j ≡ k) → Reduced p 33 (get_or b j [])
      at a b new old A j l (yes e) = rw e new
      at a b new old A j l (no ne) = rw (old j ne) (A j l)

  pub stage_stored : Prime p → {t : ℕ → ℤ[x]/ p} {m n o i κ : ℕ} → o ≤ i → i < m → k < n → κ ≤ suc k → poly_at p rows k ≡ 𝟎
      → Below (suc k) (poly p u) → Stage t m n o (poly_at p rows) (poly_at p preimages) i → Reducing t m n o (poly_at p rows) i κ (poly p u) (poly p w)
      → Stage t m n o (poly_at p rows') (poly_at p preimages') (suc i)
  stage_stored P {t} {m} {n} {o} first last fits level free small S D =
      stage_more t m n o S D (residue_field p P) first last k fits level free h.row.scale h.row.unit small h.row.image.is
      h.row.preimage.is (λ j ne. ap (poly p) (h.image j ne)) (λ j ne. ap (poly p) (h.preimage j ne))
