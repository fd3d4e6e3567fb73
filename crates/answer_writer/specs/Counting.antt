-- The three totals of an answer as sums over the parts: each part adds its factors with repeats, its records, its free digits.
-- Proves what the code's struct of a part adds, what a loop over the parts adds up, and that the sums are the totals of the definitions where no two factors
-- are the same. Assumes nothing.
use Rattle.std.specs.Prelude.{◌≡◌, refl, ℕ, ◌+◌, ◌-◌, ◌*◌, ◌≤◌, ◌<◌, get_or, take, Some, None}
use Rattle.std.proofs.Common.{sym, ◌∙◌, arith}
use Rattle.std.proofs.Math.Path.{ap}
use mathlib.Core.List.{List, [], ◌∷◌, flat_map}
use Rattle.std.proofs.Math.Nat.{add-zero}
use Rattle.std.proofs.Math.ListN.{length}
use Rattle.std.proofs.Math.Seq.{take-length}
use Rattle.specification.specs.Polynomials.{degree}
use Rattle.specification.specs.Parts as parts
use Rattle.specification.specs.Totals.{copies, members, list_of, total, different, free_digits}
use Rattle.lists.specs.Members.{All, all_read}
use Rattle.lists.specs.Sums.{total as sum, total_more, total_below}
use Rattle.lists.specs.FlatMaps.{length_flat_map}
use Rattle.arrays.specs.Listed.{degree_listed}
use Rattle.items.specs.Factors.{length_members}
use Rattle.part_verdict.specs.declared.Factor.{Factor}
use Rattle.part_verdict.specs.declared.Part.{Part}
use Rattle.part_verdict.specs.AsPart.{as_factor, as_part}
use Rattle.answer_writer.specs.declared.Totals.{Totals}
use Rattle.answer_writer.specs.FactorsWritten.{split_factors, other_factors}
use Rattle.answer_writer.specs.AnswerArrays.{TotalsOf}

-- ---- what a part adds

-- "factors of that part, with repeats"
abbrev pub part_factors : parts.Part → ℕ
part_factors P = length (members P)

-- its 0x12 commands
abbrev pub part_records : parts.Part → ℕ
part_records P = length P.splitting.factors

-- "d times (factors of that part, with repeats, minus 1)"
abbrev pub part_free : parts.Part → ℕ
part_free P = degree P.base * (part_factors P - 1)

-- the part P adds these to the three totals
abbrev pub Adds : parts.Part → ℕ → ℕ → ℕ → Type 0
Adds P t u v = (t ≡ part_factors P) × (u ≡ part_records P) × (v ≡ part_free P)

-- the totals t with those of P are one byte each
abbrev pub LowWith : parts.Part → Totals → Type 0
LowWith P t = (t.factors + part_factors P < 256) × (t.different + part_records P < 256) × (t.free + part_free P < 256)

-- and they are r
abbrev pub With : parts.Part → Totals → Totals → Type 0
With P t r =
    (r.factors ≡ t.factors + part_factors P) × (r.different ≡ t.different + part_records P) × (r.free ≡ t.free + part_free P)

-- the same of the code's struct
module _ (x : Part) where
  pub split_counts : {b : Factor} → x.second ≡ Some b → (part_factors (as_part x) ≡ x.first.times + b.times) × (part_records (as_part x) ≡ 2)
  unfolding members sum
  split_counts {b} e =
      let q = split_factors x.first x.second e in (
        ap (λ qs. length (flat_map copies qs)) q ∙ length_members (as_factor x.first ∷ as_factor b ∷ [])
            ∙ ap (λ k. x.first.times + k) (add-zero b.times),
        ap length q,
      )

  pub other_counts : x.second ≡ None → (part_factors (as_part x) ≡ x.first.times) × (part_records (as_part x) ≡ 1)
  unfolding members sum
  other_counts e =
      let q = other_factors x.first x.second e in (
        ap (λ qs. length (flat_map copies qs)) q ∙ length_members (as_factor x.first ∷ []) ∙ add-zero x.first.times,
        ap length q,
      )

  pub free_counts : length x.base ≡ 33 → x.degree ≤ 32 → {s : ℕ} → part_factors (as_part x) ≡ s → x.degree * (s - 1) ≡ part_free (as_part x)
  free_counts long l e = rw (degree_listed x.degree x.base (omega arith), e)

  -- s factors, z of them different
  pub added : length x.base ≡ 33 → x.degree ≤ 32 → {s z t u v : ℕ} → (part_factors (as_part x) ≡ s) × (part_records (as_part x) ≡ z)
      → (t ≡ s) × (u ≡ z) × (v ≡ x.degree * (s - 1)) → Adds (as_part x) t u v
  added long l (factors, records) (e, f, g) = (e ∙ sym factors, f ∙ sym records, g ∙ free_counts long l factors)

-- ---- the totals are sums

pub total_sum : (Ps : List parts.Part) → total Ps ≡ sum part_factors Ps
unfolding list_of
total_sum Ps = length_flat_map members Ps

pub free_sum : (Ps : List parts.Part) → free_digits Ps ≡ sum part_free Ps
unfolding free_digits sum
free_sum [] = refl
free_sum (P ∷ Ps) = ap (λ k. part_free P + k) (free_sum Ps)

-- ---- counting the parts

-- the totals so far
pub record Counted (Ps : List parts.Part) (t : Totals) : Type 0 where
  pub factors : t.factors ≡ sum part_factors Ps
  pub different : t.different ≡ sum part_records Ps
  pub free : t.free ≡ sum part_free Ps

-- what is asked of parts that are counted: no two factors are the same, no part is without one, and each total is one byte
pub record Countable (Ps : List parts.Part) : Type 0 where
  pub apart : different (list_of Ps) ≡ sum part_records Ps
  pub factors : sum part_factors Ps < 256
  pub different : sum part_records Ps < 256
  pub free : sum part_free Ps < 256
  pub repeated : All (λ P. 1 ≤ part_factors P) Ps

pub counted_none : (Ps : List parts.Part) → Counted (take 0 Ps) (record { factors = 0; different = 0; free = 0 })
unfolding sum
counted_none Ps = record { factors = refl; different = refl; free = refl }

-- what is counted are the three totals
pub counted_done : {Ps : List parts.Part} {t : Totals} → Countable Ps → Counted Ps t → TotalsOf Ps t
counted_done {Ps} h w = rw (w.factors ∙ sym (total_sum Ps), w.different ∙ sym h.apart, w.free ∙ sym (free_sum Ps)) refl

-- a turn at the place i; d is what is read past the list's end
module _ (d : parts.Part) (Ps : List parts.Part) (i : ℕ) (l : i < length Ps) {t : Totals} (w : Counted (take i Ps) t) where
  pub counted_more : {r : Totals} → With (get_or Ps i d) t r → Counted (take (i + 1) Ps) r
  counted_more (e, f, g) = record {
    factors = e ∙ total_more part_factors d Ps i l w.factors refl;
    different = f ∙ total_more part_records d Ps i l w.different refl;
    free = g ∙ total_more part_free d Ps i l w.free refl;
  }

  module _ (h : Countable Ps) where
    -- no sum on the way is more than one byte
    pub counted_low : LowWith (get_or Ps i d) t
    counted_low = (
      low part_factors h.factors (total_more part_factors d Ps i l w.factors refl),
      low part_records h.different (total_more part_records d Ps i l w.different refl),
      low part_free h.free (total_more part_free d Ps i l w.free refl),
    )
      where
        low : (f : parts.Part → ℕ) {k : ℕ} → sum f Ps < 256 → k ≡ sum f (take (i + 1) Ps) → k < 256
        low f u e = total_below f Ps i (length Ps) l (rw (take-length Ps) u) e

    pub part_repeated : 1 ≤ part_factors (get_or Ps i d)
    part_repeated = all_read (λ P. 1 ≤ part_factors P) d Ps h.repeated i l
