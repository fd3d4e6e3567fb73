-- How long texts are: `Sized k bytes`, at most k bytes, each below 256.
-- Proves that the lines for a good sheet are at most 64 bytes and 42 for each degree, and with them that `text_room` is room for any text.
-- Assumes nothing.
use Rattle.std.specs.Prelude.{◌≡◌, true, length, T, ltb}
use Rattle.std.proofs.Common.{subst, arith, length-append, ltb→lt}
use mathlib.Core.List.{List, ◌++◌, flat_map}
use Prim.Native.Nat.{ℕ, ◌≤◌, ◌<◌, ◌+◌, ◌*◌, ◌^◌}
use Prim.Native.String.{String}
use Rattle.std.proofs.Math.Nat.{mul-le-mul_left, mul-le-mul_right}
use Rattle.specification.specs.Limits.{taken, degree_limit}
use Rattle.specification.specs.Lists.{all_pass}
use Rattle.specification.specs.Polynomials.{Poly, degree}
use Rattle.specification.specs.Parts.{Verdict, basic, solid, power, split, Factor, Part}
use Rattle.specification.specs.Totals.{list_of, total, different, free_digits}
use Rattle.specification.specs.RunLength.{run_length}
use Rattle.specification.specs.Sheets.{Sheet}
use Rattle.specification.specs.Text.{
  ascii,
  item,
  head_text,
  verdict_text,
  coefficient_text,
  factor_text,
  part_text,
  total_text,
  parts_text,
  run_text,
  answer_text,
  refusal_text,
}
use Rattle.specification.specs.SheetClaims.{GoodSheet, sheet_limit}
use Rattle.lists.specs.Tests.{picked, passes}
use Rattle.lists.specs.AllAny.{all_member}
use Rattle.lists.specs.FlatMaps.{all_flat_map, length_weighed}
use Rattle.algebra.specs.TakenPrimes.{fits_byte, square_small}
use Rattle.lists.specs.Members.{All, all_append, all_entries}
use Rattle.lists.specs.Sums.{total as sum, total_one, member_le}
use Rattle.runs.specs.RunLengths.{run_limit_lem}
use Rattle.layouts.specs.AnswerLayout.{sheet_parts}
use Rattle.layouts.specs.CommandBytes.{Byte}
use Rattle.layouts.specs.ReaderBounds.{last_number}
use Rattle.items.specs.PartShapes.{part_degree, part_degrees, FactorShape, PartShape, total_bound, free_bound, different_bound}
use Rattle.claims.specs.Proved.{shapes, degrees_low}
use Rattle.area.specs.Wrote.{Room}
use Rattle.split_text.specs.Decimal.{length_decimal, bytes_decimal}

-- room for any text
abbrev pub text_room : ℕ
text_room = 2048

pub record Sized (k : ℕ) (bytes : List ℕ) : Type 0 where
  pub short : length bytes ≤ k
  pub low : All Byte bytes

pub sized_room : {k : ℕ} {bytes area : List ℕ} → Sized k bytes → k ≤ length area → Room area 0 bytes
sized_room h l = record { fits = omega (arith, h.short); low = h.low }

sized_within : {j k : ℕ} {bytes : List ℕ} → j ≤ k → Sized j bytes → Sized k bytes
sized_within l h = record { short = omega (arith, h.short); low = h.low }

sized_append : {j k : ℕ} {xs ys : List ℕ} → Sized j xs → Sized k ys → Sized (j + k) (xs ++ ys)
sized_append {xs = xs} {ys} h g = record { short = omega (arith, length-append xs ys, h.short, g.short); low = all_append h.low g.low }

-- what is written for each of a list, k times its weight
module _ {A : Type 0} (k : ℕ) (weight : A → ℕ) (write : A → List ℕ) where
  sized_each : (xs : List A) → All (λ a. Sized (k * weight a) (write a)) xs → Sized (k * sum weight xs) (flat_map write xs)
  sized_each xs h = record {
    short = length_weighed write k weight xs (λ a i. (h a i).short);
    low = all_flat_map write xs (λ a i. (h a i).low);
  }

-- ---- words and numbers

low_bytes : (l : List ℕ) → T (all_pass (λ b. ltb b 256) l) → All Byte l
low_bytes l t b i = ltb→lt b 256 (all_member (λ b. ltb b 256) l t i)

-- the test of a word is computed
sized_word : (word : String) → T (all_pass (λ b. ltb b 256) (ascii word)) → Sized (length (ascii word)) (ascii word)
sized_word word t = record { short = omega arith; low = low_bytes (ascii word) t }

-- a number of k digits after its word
sized_number : (word : String) → T (all_pass (λ b. ltb b 256) (ascii word)) → (k n : ℕ) → 1 ≤ k → n < 10 ^ k → Sized (length (ascii word) + k) (item word n)
sized_number word t k n l u = sized_append (sized_word word t) (record { short = length_decimal k n l u; low = bytes_decimal n })

-- three digits are enough for a byte
sized_item : (word : String) → T (all_pass (λ b. ltb b 256) (ascii word)) → (n : ℕ) → n < 1000 → Sized (length (ascii word) + 3) (item word n)
sized_item word t n l = sized_number word t 3 n (omega arith) l

-- ---- a factor and a part

sized_verdict : (v : Verdict) → Sized 7 (verdict_text v)
unfolding all_pass
sized_verdict basic = sized_word " basic\n" tt
sized_verdict solid = sized_word " solid\n" tt
sized_verdict power = sized_word " power\n" tt
sized_verdict (split m1) = sized_word " split\n" tt

-- a coefficient has five digits
sized_coefficients : (f : Poly) → All (λ a. a < 65536) f → Sized (6 * length f) (coefficient_text f)
unfolding coefficient_text all_pass
sized_coefficients f h =
    subst (λ k. Sized (6 * k) (flat_map (item " ") f)) (total_one f)
    (sized_each 6 (λ a. 1) (item " ") f (λ a i. sized_number " " tt 5 a (omega arith) (omega (arith, h a i))))

module _ {n : ℕ} (small : n ≤ 65536) where
  -- 17 bytes, and 6 for each degree
  sized_factor : {d : ℕ} (q : Factor) → FactorShape n d q → degree q.poly * q.times ≤ degree_limit
      → Sized (23 * (degree q.poly * q.times)) (factor_text q)
  unfolding factor_text all_pass
  sized_factor q s l =
      let positive = s.monic.positive in
      let coefficients : All (λ a. a < 65536) q.poly = all_entries (λ a. a < 65536) 0 q.poly (λ j u. omega (arith, small, s.monic.reduced j u)) in
      sized_within (omega (arith, mul-le-mul_left (degree q.poly) s.repeated))
      (sized_append (sized_append (sized_item "factor " tt q.times (omega (arith, mul-le-mul_right q.times positive)))
      (sized_coefficients q.poly coefficients)) (sized_word "\n" tt))

  -- 19 bytes, and those of its factors
  sized_part : (P : Part) → PartShape n P → part_degree P ≤ degree_limit → Sized (42 * part_degree P) (part_text P)
  unfolding part_text all_pass
  sized_part P s l =
      let low-degree = mul-le-mul_left (degree P.base) s.exponent in
      let low-exponent = mul-le-mul_right P.exponent s.base in
      sized_within (omega (arith, low-degree, s.base, s.degrees))
      (sized_append (sized_append (sized_append (sized_item "part " tt (degree P.base) (omega arith)) (sized_item " " tt P.exponent (omega arith)))
      (sized_verdict P.splitting.verdict)) (sized_each 23 weight factor_text P.splitting.factors factors))
    where
      weight : Factor → ℕ
      weight q = degree q.poly * q.times

      factors : All (λ q. Sized (23 * (degree q.poly * q.times)) (factor_text q)) P.splitting.factors
      factors q i = sized_factor q (s.factors q i) (omega (arith, member_le (λ (r : Factor). degree r.poly * r.times) i, s.degrees))

  -- a run has five digits
  sized_run : (s : Sheet) → Sized 10 (run_text s)
  unfolding run_text all_pass
  sized_run s = picked (Sized 10) s.run
      (λ t. sized_append (sized_number "run " tt 5 (run_length s.prime s.poly) (omega arith) (omega (arith, run_limit_lem s.prime s.poly)))
      (sized_word "\n" tt))
      (λ t. record { short = omega arith; low = λ b i. elim i [ ] })

  sized_parts : (s : Sheet) (Ps : List Part) → s.prime < 1000 → degree s.poly < 1000 → All (PartShape n) Ps → part_degrees Ps ≤ degree_limit
      → Sized (64 + 42 * part_degrees Ps) (parts_text s Ps)
  unfolding parts_text head_text total_text all_pass
  sized_parts s Ps k l h u =
      let all-low = total_bound Ps h in
      sized_within (omega arith)
      (sized_append (sized_append
      (sized_append (sized_append (sized_append (sized_item "prime " tt s.prime k) (sized_item " degree " tt (degree s.poly) l)) (sized_word "\n" tt))
      (sized_each 42 part_degree part_text Ps (λ P i. sized_part P (h P i) (omega (arith, member_le part_degree i)))))
      (sized_append (sized_append (sized_append (sized_item "total " tt (total Ps) (omega arith))
      (sized_item " different " tt (different (list_of Ps)) (omega (arith, different_bound (list_of Ps)))))
      (sized_item " free " tt (free_digits Ps) (omega (arith, free_bound Ps h)))) (sized_word "\n" tt))) (sized_run s))

-- ---- the texts

pub answer_sized : (s : Sheet) → GoodSheet s → Sized text_room (answer_text s)
unfolding answer_text
answer_sized s g =
    let p : ℕ = s.prime in
    let t : taken p ≡ true = passes (taken p) g.prime in
    let prime : p < 1000 = omega (arith, fits_byte t) in
    let low = degrees_low s g in
    sized_within (omega arith) (sized_parts (omega (arith, square_small p t)) s (sheet_parts s) prime (omega (arith, g.fits)) (shapes s g) low)

-- a line of 19 bytes at most
pub refusal_line : (k at : ℕ) → k < 1000 → at < 1000 → Sized 19 (refusal_text k at)
unfolding refusal_text all_pass
refusal_line k at l u = sized_append (sized_append (sized_item "refused " tt k l) (sized_item " at " tt at u)) (sized_word "\n" tt)

pub refusal_sized : (k at : ℕ) → k ≤ last_number → at ≤ sheet_limit → Sized text_room (refusal_text k at)
refusal_sized k at l u = sized_within (omega arith) (refusal_line k at (omega arith) (omega arith))
