-- The promises of documents 00, 01 and 02 about every accepted sheet and every typed line, as the claims of `specification` state them.
-- Proves which primes are taken, term 3 over every prime, of the answer's bytes and of a call, items 1 to 9 and that Algorithm 4.5 splits alike, what is
-- read off an answer, the degrees, the settings, the run length, the answer's size and bytes, which sheets are taken, that inputs too long are refused, the
-- reader, what copies are and show, and how typed lines are read and answered.
-- Assumes nothing.
use Rattle.std.specs.Prelude.{◌≡◌, refl, ◌↔◌, List, [], ◌∷◌, ℕ, ◌≤◌, ◌<◌, take, drop}
use Rattle.std.proofs.Common.{sym, ◌∙◌, subst, le-leb}
use Rattle.std.proofs.Math.Path.{ap}
use mathlib.Core.List.Memᴰ.{head as here}
use mathlib.Core.List.Memᴰ.{tail as there}
use native.Mathlib.Omega.{arith}
use Rattle.std.proofs.Math.ListN.{length}
use Rattle.std.proofs.Math.Seq.{take-append_seam}
use Rattle.std.proofs.lemmas.Bool.{lt-leb}
use Rattle.specification.specs.Limits.{degree_limit, answer_area, ◌²}
use Rattle.specification.specs.Polynomials.{Poly, degree, product}
use Rattle.specification.specs.Powers.{powers}
use Rattle.specification.specs.Parts.{Part, part_of, parts_of}
use Rattle.specification.specs.Totals.{list_of, different}
use Rattle.specification.specs.Sheets.{Sheet, accepted, read_sheet, sheet_bytes}
use Rattle.specification.specs.Answers.{answer}
use Rattle.specification.specs.FactorList.{factor_list}
use Rattle.specification.specs.Calls.{Outcome, success, split_call, read_call, count, area_after}
use Rattle.specification.specs.ReadOff.{AnswersReadOff, DegreesAddUp, degree_sum}
use Rattle.specification.specs.Items1to3.{Items1to3}
use Rattle.specification.specs.Items4to9.{Items4to9}
use Rattle.specification.specs.Algorithm45.{AsPrinted}
use Rattle.specification.specs.Term3.{LongestIn, Term3, Term3Call}
use Rattle.specification.specs.PrimeClaims.{PrimesTaken, Widths, LongestOverPrimes}
use Rattle.specification.specs.Longest as claimed
use Rattle.specification.specs.ReaderClaims.{AnswerTo, ReaderExact, ReaderRefuses}
use Rattle.specification.specs.SheetClaims.{AnswersFit, Fits, GoodSheet, LongInputs, SheetsTaken}
use Rattle.specification.specs.Settings.{Settings}
use Rattle.specification.specs.RunClaims.{Run, Runs, RunsShown, NoRun}
use Rattle.specification.specs.CopyClaims.{Sorts, FiguresReadOff, copy, CopiesShow, CopiesFit, AlikeCopies, NothingElseSeen}
use Rattle.specification.specs.Grammar.{Tree, Line}
use Rattle.specification.specs.TypedLines.{Typed}
use Rattle.specification.specs.TypedClaims.{OneReading, LineOrPlace, AnyPart, OneOutcome, SheetsTyped, RefusalsInCase, typed_sheet}
use Rattle.specification.specs.TypedTrials.{TypedTrials}
use Rattle.algebra.specs.Numbers.{square_large}
use Rattle.algebra.specs.Fields.{Prime, taken_prime}
use Rattle.algebra.specs.TakenPrimes.{number_prime, prime_count, primes_ascend}
use Rattle.algebra.proofs.TakenPrimes.{taken_exactly}
use Rattle.lists.specs.Members.{◌∈◌, All, all_map}
use Rattle.items.specs.MonicLists.{MonicList, from_claimed, monic_list_mul}
use Rattle.items.specs.MonicDivision.{monic_list_one}
use Rattle.items.specs.Reductions.{digit_lift_lem}
use Rattle.items.proofs.Items1to3Hold.{items}
use Rattle.items.specs.PartForm.{base_monic}
use Rattle.items.specs.PartValues.{values}
use Rattle.items.specs.AlgorithmOrder as algorithm
use Rattle.layouts.specs.SheetsRead.{read_is_good, read_is_written, accepted_exactly}
use Rattle.layouts.specs.SheetLength.{fault_place, long_refused}
use Rattle.layouts.specs.AnswerLayout.{sheet_parts}
use Rattle.layouts.specs.AnswerReadBack.{MonicFactors, list_back, total_back, different_back, free_back, run_shown, run_back, longest_in}
use Rattle.items.specs.PartShapes.{PartShape, part_degrees, records}
use Rattle.layouts.specs.AnswerSize.{answer_fits, answer_is_bytes}
use Rattle.layouts.specs.AnswersAccepted as reader
use Rattle.layouts.specs.AnswersAccepted.{split_written}
use Rattle.items.specs.AllParts.{Known, parts_monic}
use Rattle.items.proofs.AllParts.{known}
use Rattle.items.proofs.LongestParts.{longest, different_records, part_longest}
use Rattle.runs.proofs.NoRun as none
use Rattle.runs.proofs.RunsHold.{run_holds}
use Rattle.settings.specs.SettingsCounted.{settings_counted}
use Rattle.copies.specs.SortedPairs as sorted
use Rattle.copies.specs.CopyReadBack as read
use Rattle.copies.proofs.CopySize.{copy_fits}
use Rattle.copies.specs.CopiesHold as seen
use Rattle.copies.specs.CopiesHold.{copying, alike_exactly}
use Rattle.grammar.proofs.Readings as readings
use Rattle.grammar.specs.TreeParts as parts
use Rattle.grammar.proofs.TypedOutcomes as outcomes
use Rattle.grammar.specs.TypedSheets as typed
use Rattle.grammar.specs.TypedRefusals as refusals
use Rattle.grammar.proofs.Trials as trials

module _ (s : Sheet) (g : GoodSheet s) where
  abbrev p : ℕ
  p = s.prime

  prime : Prime p
  prime = taken_prime p g.prime

  monic : MonicList (p ²) (degree s.poly) s.poly
  monic = from_claimed (omega (arith, square_large p prime.large)) g.monic

  -- what holds of the part over each power
  all_parts : (C : Part → Type 0) → ((P : _) → Known p prime monic P → C (part_of p s.poly P)) → All C (sheet_parts s)
  unfolding parts_of
  all_parts C h = all_map C (part_of p s.poly) (powers p s.poly) (λ P i. h P (known p prime monic P i))

  monic_factors : MonicFactors (p ²) (sheet_parts s)
  monic_factors = all_parts _ (λ P k. k.split.monic)

  pub shapes : All (PartShape (p ²)) (sheet_parts s)
  shapes =
      all_parts (PartShape (p ²))
      (λ P k. record {
        base = k.over.irreducible.monic.positive;
        exponent = k.over.positive;
        factors = λ q i. record { monic = k.split.monic q i; not_lower = k.split.not_lower q i; repeated = k.split.repeated q i };
        degrees = omega (arith, k.split.degree_sum);
      })

  -- the parts' degrees add up to the degree of f
  pub parts_degrees : part_degrees (sheet_parts s) ≡ degree s.poly
  unfolding parts_of
  parts_degrees =
      omega (
        arith,
        (parts_monic p prime monic (powers p s.poly) (known p prime monic)).reduced.len,
        ap length (items p prime monic).parts_multiply,
        monic.reduced.len,
      )

  answer_longest : LongestIn s (answer s)
  answer_longest = longest_in s monic_factors (longest p prime monic)

  pub degrees_low : part_degrees (sheet_parts s) ≤ degree_limit
  degrees_low = omega (arith, parts_degrees, g.fits)

  pub fits : Fits (answer s)
  fits = record { short = answer_fits s shapes degrees_low; low = answer_is_bytes s shapes degrees_low g }

  pub copy_fit : Fits (copy s)
  copy_fit = copy_fits s g shapes degrees_low

  -- the factors that are written are different ones
  pub factors_differ : different (list_of (sheet_parts s)) ≡ records (sheet_parts s)
  factors_differ = different_records p prime monic

-- ---- the primes

pub primes_taken : PrimesTaken
primes_taken = record { exactly = taken_exactly; ascend = primes_ascend; count = prime_count }

pub widths : (p : ℕ) → Widths p
widths p = record {
  one_byte = λ l. rw (lt-leb 17 p l) ((λ i v. refl), refl);
  two_bytes = λ l. rw (le-leb 17 p l) ((λ i v. refl), refl);
}

-- no list of primes enters: a prime is all that is asked for
pub longest_over_primes : LongestOverPrimes
longest_over_primes p P f m =
    let prime : Prime p = number_prime P in
    longest p prime (from_claimed (omega (arith, square_large p prime.large)) m)

-- ---- terms 2 and 3

-- "a single claim about the whole list of f, over all accepted sheets and all lists set against it"
pub term_3 : Term3
term_3 bytes s e = answer_longest s (read_is_good bytes s e)

-- the call finds the answer
split_accepted : (area : ℕ) → answer_area ≤ area → (bytes : List ℕ) (s : Sheet) → read_sheet bytes ≡ accepted s → split_call area bytes ≡ success (answer s)
split_accepted area l bytes s e = ap (split_call area) (read_is_written bytes s e) ∙ split_written area l s (read_is_good bytes s e)

pub term_3_call : Term3Call
term_3_call area bytes s l e = subst (LongestIn s) (sym written) (term_3 bytes s e)
  where
    written : take (count (split_call (length area) bytes)) (area_after (split_call (length area) bytes) area) ≡ answer s
    written =
        ap (λ (o : Outcome). take (count o) (area_after o area)) (split_accepted (length area) l bytes s e)
        ∙ take-append_seam (answer s) (drop (length (answer s)) area)

-- ---- items 1 to 9

pub items_1_to_3 : Items1to3
items_1_to_3 bytes s e = let g = read_is_good bytes s e in items s.prime (prime s g) (monic s g)

pub items_4_to_9 : Items4to9
items_4_to_9 bytes s e P i =
    let g = read_is_good bytes s e in
    let k = known s.prime (prime s g) (monic s g) P i in
    record {
      values = values (prime s g) k.over (digit_lift_lem s.prime (prime s g).large (base_monic (prime s g).large k.over));
      longest = part_longest s.prime (prime s g) (monic s g) P i;
      repeated = k.split.repeated;
    }

-- "(Algorithm 4.5)"
pub as_printed : AsPrinted
as_printed bytes s e P i =
    let g = read_is_good bytes s e in
    let large = (prime s g).large in
    let over = (known s.prime (prime s g) (monic s g) P i).over in
    algorithm.as_printed large over (digit_lift_lem s.prime large (base_monic large over))

pub answers_read_off : AnswersReadOff
answers_read_off bytes s e = record {
  list = list_back s (monic_factors s (read_is_good bytes s e));
  total = total_back s;
  different = different_back s;
  free = free_back s;
}

-- the degree of a product of monic polynomials
product_degree : {n : ℕ} → 1 < n → (L : List Poly) → ((q : Poly) → q ∈ L → claimed.Monic n q) → MonicList n (degree_sum L) (product n L)
unfolding degree_sum product
product_degree large [] h = monic_list_one large
product_degree large (q ∷ L) h =
    monic_list_mul large (from_claimed (omega arith) (h q (here refl))) (product_degree large L (λ r i. h r (there i)))

pub degrees_add_up : DegreesAddUp
degrees_add_up bytes s e =
    let g = read_is_good bytes s e in
    let t = term_3 bytes s e in
    omega (
      arith,
      (product_degree (square_large s.prime (prime s g).large) (factor_list (answer s)) (λ q i. (t.irreducible q i).monic)).reduced.len,
      ap length t.multiplies,
      (monic s g).reduced.len,
    )

-- ---- settings

pub settings : Settings
settings bytes s e = let g = read_is_good bytes s e in rw (free_back s) (settings_counted s.prime (prime s g) (monic s g))

-- ---- run lengths

pub runs : Runs
runs bytes s e asked =
    let g = read_is_good bytes s e in
    subst (Run s.prime s.poly) (sym (run_back s asked)) (run_holds (prime s g) (monic s g) g.monic.positive (g.may_ask asked))

pub runs_shown : RunsShown
runs_shown bytes s e = run_shown s

-- 14 turns back only what has no run
pub no_run : NoRun
no_run p f t m = let prime = taken_prime p t in none.no_run prime (from_claimed (omega (arith, square_large p prime.large)) m)

-- ---- answers and sheets

pub answers_fit : AnswersFit
answers_fit bytes s e = fits s (read_is_good bytes s e)

pub sheets_taken : SheetsTaken
sheets_taken = accepted_exactly

pub long_inputs : LongInputs
long_inputs bytes l =
    let (k, at, e) = long_refused bytes l in
    record { number = k; place = at; refusal = e; within = (fault_place bytes k at e).0 }

-- ---- the answer reader

multiplies : (s : Sheet) → GoodSheet s → product (s.prime ²) (factor_list (answer s)) ≡ s.poly
multiplies s g = (answer_longest s g).multiplies

-- the two ways to say that b is the answer to the sheet t
answer_to_lem : {b t : List ℕ} → reader.Answered b t ↔ AnswerTo t b
answer_to_lem = (
  (λ (s, g, e, w). (s, (accepted_exactly _ s).1 (g, w), e)),
  (λ (s, r, e). (s, ((accepted_exactly _ s).0 r).0, e, ((accepted_exactly _ s).0 r).1)),
)

pub reader_exact : ReaderExact
reader_exact area l b t =
    let (to, from) = reader.reader_accepts_exactly multiplies area l b t in
    ((λ e. answer_to_lem.0 (to e)), (λ a. from (answer_to_lem.1 a)))

pub reader_refuses : ReaderRefuses
reader_refuses area l b =
    let (to, from) = reader.reader_refuses_exactly multiplies area l b in (
      (λ e t a. let (s, g, is-answer, w) = answer_to_lem.1 a in to e s g is-answer),
      (λ h. from (λ s g e. h (sheet_bytes s) (answer_to_lem.0 (s, g, e, refl)))),
    )

-- each call undoes the other
pub read_then_split : (area : ℕ) (b t : List ℕ) → read_call area b ≡ success t → split_call area t ≡ success b
read_then_split = reader.read_then_split

pub split_then_read : (area : ℕ) (b t : List ℕ) → split_call area t ≡ success b → read_call area b ≡ success t
split_then_read = reader.split_then_read multiplies

-- number 0 is success
pub split_succeeds : (area : ℕ) (t : List ℕ) → (split_call area t).number ≡ 0 → split_call area t ≡ success (split_call area t).bytes
split_succeeds = reader.split_succeeds

pub read_succeeds : (area : ℕ) (b : List ℕ) → (read_call area b).number ≡ 0 → read_call area b ≡ success (read_call area b).bytes
read_succeeds = reader.read_succeeds multiplies

-- ---- copies

pub sorts : Sorts
sorts = sorted.sorts

pub figures_read_off : FiguresReadOff
figures_read_off = read.figures_read_off

pub copies_show : CopiesShow
copies_show bytes s e = copying s

pub copies_fit : CopiesFit
copies_fit bytes s e = copy_fit s (read_is_good bytes s e)

-- "Any two accepted sheets alike in exactly those figures give the same copy, byte for byte"
pub alike_copies : AlikeCopies
alike_copies b c s t e f = alike_exactly s t

pub nothing_else_seen : NothingElseSeen
nothing_else_seen = seen.nothing_else_seen

-- ---- typed lines

-- "and its reading is the only one"
pub one_reading : OneReading
one_reading = readings.one_reading

-- "A line passes 15 exactly when that grammar gives it"
pub line_or_place : LineOrPlace
line_or_place = readings.line_or_place

pub any_part_lem : AnyPart
any_part_lem = parts.any_part_lem

pub one_outcome : OneOutcome
one_outcome = outcomes.one_outcome

pub sheets_typed : SheetsTyped
sheets_typed = typed.sheets_typed

-- the sheet of a line is taken, as the sheet of what the line means
pub typed_accepted : (area : ℕ) (line bytes : List ℕ) (p : ℕ) (t : Tree) → Line line p t → Typed area line (success bytes)
    → read_sheet bytes ≡ accepted (typed_sheet p t)
typed_accepted area line bytes p t v w =
    let s = typed.line_sheet w in
    let same = one_reading line p s.prime t s.tree v s.read_as.read in
    (sheets_taken bytes (typed_sheet s.prime s.tree)).1 (s.good, s.is)
    ∙ sym (ap (λ (q : ℕ). accepted (typed_sheet q t)) same.0 ∙ ap (λ (u : Tree). accepted (typed_sheet s.prime u)) same.1)

-- "Each is given in its case and in no other"
pub refusals_in_case : RefusalsInCase
refusals_in_case = refusals.refusals_in_case

pub typed_trials_lem : TypedTrials
typed_trials_lem = trials.typed_trials_lem
