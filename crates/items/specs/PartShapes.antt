-- The shape of parts that an answer's size rests on: `PartShape n P`, factors monic modulo n, none of lower degree than the base,
-- whose degrees add up to the part's. Proves that each of the three totals is at most the sum of the parts' degrees. Assumes nothing.
use Rattle.std.specs.Prelude.{◌≡◌, refl}
use Rattle.std.proofs.Common.{◌∙◌}
use Rattle.std.proofs.Math.Path.{ap}
use mathlib.Core.List.{List, [], ◌∷◌, flat_map}
use mathlib.Core.List.Memᴰ.{head as here}
use Prim.Native.Nat.{ℕ, ◌≤◌, ◌+◌, ◌-◌, ◌*◌}
use Rattle.std.proofs.Math.Nat.{mul-le-mul_left, mul-le-mul_right}
use native.Mathlib.Omega.{arith}
use Rattle.std.proofs.Math.ListN.{length, length-append}
use Rattle.std.proofs.lemmas.List.{length-replicate}
use Rattle.specification.specs.Lists.{any_passes, same}
use Rattle.specification.specs.Polynomials.{Poly, degree}
use Rattle.specification.specs.Parts.{Factor, Part}
use Rattle.specification.specs.Totals.{copies, members, list_of, total, different, free_digits}
use Rattle.specification.specs.Longest as claimed
use Rattle.lists.specs.Members.{All, all_tail}
use Rattle.lists.specs.Sums.{total as sum}
use Rattle.lists.specs.Tests.{picked}
use Rattle.items.specs.Factors.{degrees}
use Rattle.items.specs.ListOfParts.{copies_cons, list_of_cons}

-- the degree of G to the m
abbrev pub part_degree : Part → ℕ
part_degree P = degree P.base * P.exponent

abbrev pub part_degrees : List Part → ℕ
part_degrees Ps = sum part_degree Ps

-- how many factors are written, each once: the 0x12 commands of an answer
abbrev pub records : List Part → ℕ
records Ps = sum (λ (P : Part). length P.splitting.factors) Ps

-- a factor of a part over a base of degree d
pub record FactorShape (n d : ℕ) (q : Factor) : Type 0 where
  pub monic : claimed.Monic n q.poly
  pub not_lower : d ≤ degree q.poly
  pub repeated : 1 ≤ q.times

pub record PartShape (n : ℕ) (P : Part) : Type 0 where
  pub base : 1 ≤ degree P.base
  pub exponent : 1 ≤ P.exponent
  pub factors : All (FactorShape n (degree P.base)) P.splitting.factors
  pub degrees : degrees P.splitting.factors ≡ part_degree P

module _ {n : ℕ} where
  -- every copy of a factor has at least the base's degree
  members_degrees : {d : ℕ} (qs : List Factor) → All (FactorShape n d) qs → d * length (flat_map copies qs) ≤ degrees qs
  unfolding sum
  members_degrees {d} [] h = unfold flat_map in omega arith
  members_degrees {d} (q ∷ qs) h =
      let m : ℕ = length (flat_map copies qs) in
      let long : length (flat_map copies (q ∷ qs)) ≡ q.times + m =
      ap length (copies_cons q qs) ∙ length-append (copies q) (flat_map copies qs) ∙ ap (λ (k : ℕ). k + m) (length-replicate q.times q.poly) in
      omega (arith, ap (λ (k : ℕ). d * k) long, mul-le-mul_right q.times (h q (here refl)).not_lower, members_degrees qs (all_tail h))

  pub total_bound : (Ps : List Part) → All (PartShape n) Ps → total Ps ≤ part_degrees Ps
  unfolding sum
  total_bound [] h = unfold list_of flat_map in omega arith
  total_bound (P ∷ Ps) h =
      let P-is = h P (here refl) in
      let m : ℕ = length (flat_map copies P.splitting.factors) in
      omega (
        arith,
        ap length (list_of_cons P Ps),
        length-append (flat_map copies P.splitting.factors) (list_of Ps),
        mul-le-mul_right m P-is.base,
        members_degrees P.splitting.factors P-is.factors,
        P-is.degrees,
        total_bound Ps (all_tail h),
      )

  pub free_bound : (Ps : List Part) → All (PartShape n) Ps → free_digits Ps ≤ part_degrees Ps
  unfolding sum free_digits members
  free_bound [] h = omega arith
  free_bound (P ∷ Ps) h =
      let P-is = h P (here refl) in
      let m : ℕ = length (flat_map copies P.splitting.factors) in
      omega (
        arith,
        mul-le-mul_left (degree P.base) (let l : m - 1 ≤ m = omega arith in l),
        members_degrees P.splitting.factors P-is.factors,
        P-is.degrees,
        free_bound Ps (all_tail h),
      )

pub different_bound : (fs : List Poly) → different fs ≤ length fs
unfolding different
different_bound [] = omega arith
different_bound (f ∷ fs) =
    picked (λ (k : ℕ). k + different fs ≤ length (f ∷ fs)) (any_passes (same f) fs) (λ t. omega (arith, different_bound fs))
    (λ t. omega (arith, different_bound fs))
