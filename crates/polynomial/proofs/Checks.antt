-- The numbers of a pair, a product and a division, by what the checks find.
-- Proves each of them at each way out of its check. Assumes nothing.
use Rattle.std.proofs.Common.{◌≡◌, refl, true, false, cond, ◌&&◌, ℕ, ◌+◌, ◌-◌, ◌<◌, ◌≤◌, arith, ne_eqb, eq-eqb}
use lib.Dec.{ltb}
use mathlib.Core.Logic.{⊎_elim}
use borrow.Author.Tests.{lt-ltb, le-ltb}
use Rattle.specification.specs.Polynomials.{leading}
use Rattle.specification.specs.Records.{PolyRecord, proper, polynomial, pair_number, product_number, division_number}
use Rattle.algebra.specs.Numbers.{lt_or_le}
use Rattle.arrays.specs.Sizes.{Size}
use Rattle.arrays.specs.Trimming.{length_trim}

module _ (a b : PolyRecord) where
  pub first_improper : proper a ≡ false → 10 ≡ pair_number a b
  unfolding pair_number
  first_improper h = rw h

  pub second_improper : proper a ≡ true → proper b ≡ false → 10 ≡ pair_number a b
  unfolding pair_number
  second_improper g h = rw (g, h)

  pub primes_differ : proper a ≡ true → proper b ≡ true → (a.prime ≡ b.prime → ⊥) → 11 ≡ pair_number a b
  unfolding pair_number
  primes_differ g h n = rw (g, h, ne_eqb _ _ n)

  pub is_pair : proper a ≡ true → proper b ≡ true → a.prime ≡ b.prime → 0 ≡ pair_number a b
  unfolding pair_number
  is_pair g h e = rw (g, h, eq-eqb _ _ e)

  -- ---- a product

  pub product_refused : {k : ℕ} → k ≡ pair_number a b → (k ≡ 0 → ⊥) → k ≡ product_number a b
  unfolding product_number
  product_refused {k} e h = rw (← e, ne_eqb k 0 h)

  module _ {s t : ℕ} (pair : 0 ≡ pair_number a b) (p : Size a.coefficients s) (q : Size b.coefficients t) where
    by_sizes : product_number a b ≡ cond (ltb 0 s && ltb 0 t && ltb 32 (s - 1 + (t - 1))) 12 0
    unfolding product_number
    by_sizes = rw (← pair, length_trim p, length_trim q) refl

    pub too_high : 34 < s + t → 12 ≡ product_number a b
    too_high l =
        let both : 32 < s - 1 + (t - 1) = omega arith in
        rw (by_sizes, lt-ltb 0 s (omega (arith, p.limit, q.limit)), lt-ltb 0 t (omega (arith, p.limit, q.limit)), lt-ltb 32 (s - 1 + (t - 1)) both)

    pub is_product : s + t ≤ 34 → 0 ≡ product_number a b
    is_product l = rw by_sizes (at s t l)
      where
        at : (s t : ℕ) → s + t ≤ 34 → ◌≡◌ {A = ℕ} 0 (cond (ltb 0 s && ltb 0 t && ltb 32 (s - 1 + (t - 1))) 12 0)
        at s t l =
            ⊎_elim (λ h. ⊎_elim (λ g. rw (lt-ltb 0 s h, lt-ltb 0 t g, le-ltb 32 (s - 1 + (t - 1)) (omega arith)))
            (λ g. rw (lt-ltb 0 s h, le-ltb 0 t g)) (lt_or_le 0 t)) (λ h. rw (le-ltb 0 s h)) (lt_or_le 0 s)

  -- ---- a division

  pub division_refused : {k : ℕ} → k ≡ pair_number a b → (k ≡ 0 → ⊥) → k ≡ division_number a b
  unfolding division_number
  division_refused {k} e h = rw (← e, ne_eqb k 0 h)

  module _ {c : ℕ} (pair : 0 ≡ pair_number a b) (l : c ≡ leading (polynomial b)) where
    pub not_monic : (c ≡ 1 → ⊥) → 13 ≡ division_number a b
    unfolding division_number
    not_monic h = rw (← pair, ← l, ne_eqb c 1 h)

    pub is_division : c ≡ 1 → 0 ≡ division_number a b
    unfolding division_number
    is_division h = rw (← pair, ← l, eq-eqb c 1 h)
