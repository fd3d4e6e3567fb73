-- Good sheets: a taken prime p and a monic polynomial modulo p² of degree 1 to 32.
-- Proves that x to a power makes one, that a coefficient below the top may be set, and when the run may be asked for. Assumes nothing.
use Rattle.std.specs.Prelude.{◌≡◌, ◌≢◌, Bool, true, [], ◌∷◌, ℕ, ◌≤◌, ◌<◌, length, get_or, set, replicate, T}
use Rattle.std.proofs.Common.{sym, ◌∙◌, ap, ⊎_elim, eq-or-lt_of_le, arith, length-set, get_or-set_same, get_or-set_other}
use Rattle.std.proofs.lemmas.Bool.{false≢true}
use Rattle.std.proofs.lemmas.List.{length-replicate, get_or-replicate, get_or_at}
use Rattle.std.proofs.Math.ListN.{get_or-append}
use Rattle.specification.specs.Limits.{taken, degree_limit, ◌²}
use Rattle.specification.specs.Polynomials.{Poly, degree, monomial}
use Rattle.specification.specs.RunLength.{has_run}
use Rattle.specification.specs.Sheets.{Sheet, sheet_of}
use Rattle.specification.specs.SheetClaims.{GoodSheet}
use Rattle.algebra.specs.Numbers.{lt_or_le, square_large}
use Rattle.algebra.specs.Fields.{taken_prime}
use Rattle.algebra.specs.ListShapes.{degree_monomial}

-- ---- x to the power n

pub monomial_low : (n i : ℕ) → i < n → get_or (monomial n) i 0 ≡ 0
monomial_low n i l =
    get_or-append (replicate n 0) (1 ∷ []) 0 i (omega (arith, length-replicate {A = ℕ} n 0)) ∙ get_or-replicate n i 0 0 l

monomial_top : (n i : ℕ) → n ≡ i → get_or (monomial n) i 0 ≡ 1
monomial_top n i e = get_or_at (replicate n 0) 1 [] 0 i (length-replicate {A = ℕ} n 0 ∙ e)

pub monomial_good : (p n : ℕ) → T (taken p) → 0 < n → n ≤ degree_limit → GoodSheet (sheet_of p (monomial n))
monomial_good p n t l u = record {
  prime = t;
  monic = record { positive = omega (arith, degree_monomial n); leads_with_one = monomial_top n (degree (monomial n)) (sym (degree_monomial n)); reduced = low };
  fits = omega (arith, degree_monomial n);
  may_ask = λ e. absurd (false≢true e);
}
  where
    square : 1 < p ²
    square = square_large p (taken_prime p t).large

    low : (i : ℕ) → i < length (monomial n) → get_or (monomial n) i 0 < p ²
    low i h =
        ⊎_elim (λ k. rw (monomial_low n i k) (omega (arith, square)))
        (λ k. rw (monomial_top n i (omega (arith, degree_monomial n))) square) (lt_or_le i n)

-- ---- a coefficient set

pub set_good : (s : Sheet) (i v : ℕ) → GoodSheet s → i < degree s.poly → v < s.prime ² → GoodSheet (sheet_of s.prime (set s.poly i v))
set_good s i v g l u = record {
  prime = g.prime;
  monic = record {
    positive = omega (arith, long, g.monic.positive);
    leads_with_one = top;
    reduced = low;
  };
  fits = omega (arith, long, g.fits);
  may_ask = λ e. absurd (false≢true e);
}
  where
    long : length (set s.poly i v) ≡ length s.poly
    long = length-set s.poly i v

    top : get_or (set s.poly i v) (degree (set s.poly i v)) 0 ≡ 1
    top =
        get_or-set_other s.poly i (degree (set s.poly i v)) v 0 (omega (arith, long))
        ∙ ap (λ (k : ℕ). get_or s.poly k 0) (omega (arith, long)) ∙ g.monic.leads_with_one

    other : (j : ℕ) → j ≢ i → j < length s.poly → get_or (set s.poly i v) j 0 < s.prime ²
    other j k h = rw (get_or-set_other s.poly i j v 0 k) (g.monic.reduced j h)

    low : (j : ℕ) → j < length (set s.poly i v) → get_or (set s.poly i v) j 0 < s.prime ²
    low j h =
        ⊎_elim (λ k. other j (omega arith) (omega (arith, long)))
        (λ k.
        ⊎_elim (λ e. rw (← e, get_or-set_same s.poly i v 0 (omega arith)) u) (λ k. other j (omega arith) (omega (arith, long))) (eq-or-lt_of_le k))
        (lt_or_le j i)

-- ---- the run asked for

pub asked_good : {p : ℕ} {f : Poly} {run : Bool} → GoodSheet (sheet_of p f) → (run ≡ true → T (has_run p f))
    → GoodSheet (record { prime = p; poly = f; run = run })
asked_good g may-ask = record { prime = g.prime; monic = g.monic; fits = g.fits; may_ask = may-ask }
