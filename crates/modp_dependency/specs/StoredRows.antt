-- Rows and their preimages, in an array of 33 slots: `row_images`, `row_preimages`, one of the two of each; `poly_at p rows k` is the polynomial of slot k;
-- `ReducedRows p rows`, all entries are below p.
-- Proves when a slot is free, and that no row is stored at first. Assumes nothing.
use Rattle.std.specs.Prelude.{◌≡◌, List, [], ◌≢◌, ℕ, ◌<◌, get_or, map, replicate}
use Rattle.std.proofs.Common.{sym, ◌∙◌, ap, ⊎_elim, zero-le}
use Rattle.std.proofs.lemmas.List.{get_or-replicate}
use Rattle.std.proofs.Math.ListN.{get_or-eq_default, get_or-map}
use Rattle.algebra.specs.Numbers.{lt_or_le}
use Rattle.algebra.specs.Residues.{residue, residue_zero}
use Rattle.algebra.specs.PolynomialRing.{𝟎}
use Rattle.algebra.specs.Degree.{Monic, below_𝟎}
use Rattle.algebra.specs.Fields.{residue_nontrivial}
use Rattle.algebra.specs.CoefficientLists.{ℤ[x]/, poly, Reduced, poly_nil, coef_poly}
use Rattle.algebra.specs.ListDivision.{poly_zeros}
use Rattle.arrays.specs.Represents.{Represents, zeros}
use Rattle.arrays.specs.SameEntries.{zero_above}
use Rattle.frobenius.specs.Span.{Slot}
use Rattle.frobenius.specs.RowReduction.{Stage, stage_none}
use Rattle.modp_dependency.specs.declared.Row.{Row}

abbrev pub row_images : List Row → List (List ℕ)
row_images rows = map (λ r. r.image) rows

abbrev pub row_preimages : List Row → List (List ℕ)
row_preimages rows = map (λ r. r.preimage) rows

-- what is read past the last slot
abbrev pub no_row : Row
no_row = record { image = []; preimage = [] }

pub image_at : (rows : List Row) (k : ℕ) → get_or (row_images rows) k [] ≡ (get_or rows k no_row).image
image_at rows k = get_or-map (λ r. r.image) rows k no_row

pub preimage_at : (rows : List Row) (k : ℕ) → get_or (row_preimages rows) k [] ≡ (get_or rows k no_row).preimage
preimage_at rows k = get_or-map (λ r. r.preimage) rows k no_row

-- image and preimage in slot k are 0
abbrev pub FreeSlot : ℕ → List Row → ℕ → Type 0
FreeSlot p rows k = Represents p (get_or rows k no_row).image 𝟎 × Represents p (get_or rows k no_row).preimage 𝟎

-- for rows, preimages and the images given; past the last slot, 0
abbrev pub poly_at : (p : ℕ) → List (List ℕ) → ℕ → ℤ[x]/ p
poly_at p rows k = poly p (get_or rows k [])

abbrev pub ReducedRows : ℕ → List (List ℕ) → Type 0
ReducedRows p rows = (k : ℕ) → k < 33 → Reduced p 33 (get_or rows k [])

-- what a free slot holds
abbrev pub free : List ℕ
free = replicate 33 0

abbrev pub no_rows : List (List ℕ)
no_rows = replicate 33 free

-- the entry at the degree tells whether there is a row in slot k
module _ {p : ℕ} (rows : List (List ℕ)) (k : ℕ) (s : Slot (poly_at p rows) k) where
  pub slot_free : 1 < p → get_or (get_or rows k []) k 0 ≡ 0 → poly_at p rows k ≡ 𝟎
  slot_free large e =
      ⊎_elim (λ h. h) (λ m. absurd (residue_nontrivial large (sym m.leading ∙ coef_poly p (get_or rows k []) k ∙ ap (residue p) e ∙ residue_zero p))) s

  pub slot_filled : Reduced p 33 (get_or rows k []) → get_or (get_or rows k []) k 0 ≢ 0 → Monic k (poly_at p rows k)
  slot_filled h ne = ⊎_elim (λ e. absurd (ne (zero_above h (rw e (below_𝟎 0)) k zero-le))) (λ m. m) s

module _ (p : ℕ) {t : ℕ → ℤ[x]/ p} {m n o : ℕ} where
  pub stage_free : Stage t m n o (poly_at p no_rows) (poly_at p no_rows) o
  stage_free = stage_none t m n o (poly_at p no_rows) (poly_at p no_rows) none none
    where
      none : (k : ℕ) → poly_at p no_rows k ≡ 𝟎
      none k =
          ⊎_elim (λ l. ap (poly p) (get_or-replicate 33 k free [] l) ∙ poly_zeros p 33)
          (λ l. ap (poly p) (get_or-eq_default no_rows [] {n = k} l) ∙ poly_nil p) (lt_or_le k 33)

pub free_reduced : {p : ℕ} → 0 < p → ReducedRows p no_rows
free_reduced {p} pos k l = rw (get_or-replicate 33 k free [] l) (zeros p pos).reduced
