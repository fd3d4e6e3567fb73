-- What a tree means, as a polynomial: `value p t`, the tree by the operations of the ring ℤ/p²[x] alone.
-- Proves that the list it means has that polynomial and entries below p², when a power or a product is too high by the lengths of the lists, and that
-- where nothing is too high the degree is 32 at most. Assumes nothing.
use Rattle.std.specs.Prelude.{◌≡◌, true, false, not, ◌&&◌, ◌||◌, ◌⊎◌, eqb, ltb, length, get_or}
use Rattle.std.proofs.Common.{sym, ◌∙◌, inl, inr, mod-lt}
use Rattle.std.proofs.Math.Path.{ap, ap₂}
use mathlib.Core.List.{List, [], ◌∷◌}
use Prim.Native.Nat.{ℕ, zero, suc, ◌+◌, ◌-◌, ◌*◌, ◌%◌, ◌<◌, ◌≤◌}
use native.Mathlib.Omega.{arith}
use borrow.Author.Tests.{lt-ltb, le-ltb, ltb-false, ne_eqb}
use Rattle.specification.specs.Limits.{taken, ◌², degree_limit}
use Rattle.specification.specs.Polynomials as spec
use Rattle.specification.specs.Records.{trim}
use Rattle.specification.specs.Grammar.{Tree, number, variable, power, times, plus, minus}
use Rattle.specification.specs.TypedLines.{meaning, any_part, is_high, degree_of}
use Rattle.lists.specs.Tests.{neither}
use Rattle.algebra.specs.Numbers.{lt_or_le}
use Rattle.algebra.specs.TakenPrimes.{square_above_one}
use Rattle.algebra.specs.Residues.{residue, residue_mod}
use Rattle.algebra.specs.Divisibility.{pow}
use Rattle.algebra.specs.PolynomialRing.{◌+ᴿ◌, ◌·◌, -ᴿ◌, x, constant}
use Rattle.algebra.specs.Degree.{Below, below_up, below_add, below_neg, below_mul, below_pow, below_constant, monic_x}
use Rattle.algebra.specs.CoefficientLists.{ℤ[x]/, 𝓩[x]/, poly, poly_single, poly_x, poly_add, poly_sub, poly_mul, poly_pow}
use Rattle.algebra.specs.ListShapes.{low_reduce}
use Rattle.arrays.specs.Represents.{Within}
use Rattle.arrays.specs.Trimming.{trim_short, below_trim, zero_trim}

-- ---- by the ring alone

unfoldable pub value : (p : ℕ) → Tree → ℤ[x]/ (p ²)
value p (number n) = constant (residue (p ²) n)
value p variable = x
value p (power t e) = pow (𝓩[x]/ (p ²)) (value p t) e
value p (times a b) = value p a · value p b
value p (plus a b) = value p a +ᴿ value p b
value p (minus a b) = value p a +ᴿ -ᴿ value p b

module _ (p : ℕ) where
  module _ (pos : 0 < p ²) where
    pub meaning_is : (t : Tree) → poly (p ²) (meaning p t) ≡ value p t
    unfolding meaning value
    meaning_is (number n) = poly_single (p ²) (n % p ²) ∙ ap constant (residue_mod (p ²) pos n)
    meaning_is variable = poly_x (p ²)
    meaning_is (power t e) = poly_pow (p ²) pos (meaning p t) e ∙ ap (λ f. pow (𝓩[x]/ (p ²)) f e) (meaning_is t)
    meaning_is (times a b) = poly_mul (p ²) pos (meaning p a) (meaning p b) ∙ ap₂ ◌·◌ (meaning_is a) (meaning_is b)
    meaning_is (plus a b) = poly_add (p ²) pos (meaning p a) (meaning p b) ∙ ap₂ ◌+ᴿ◌ (meaning_is a) (meaning_is b)
    meaning_is (minus a b) = poly_sub (p ²) pos (meaning p a) (meaning p b) ∙ ap₂ (λ f g. f +ᴿ -ᴿ g) (meaning_is a) (meaning_is b)

low_cons : (n a : ℕ) (f : List ℕ) → a < n → Within n f → Within n (a ∷ f)
low_cons n a f l h zero = l
low_cons n a f l h (suc k) = h k

low_nil : (n : ℕ) → 0 < n → Within n []
low_nil n pos k = pos

low_pow : (n : ℕ) → 1 < n → (f : List ℕ) (e : ℕ) → Within n (spec.pow n f e)
unfolding spec.pow
low_pow n large f zero = low_cons n 1 [] large (low_nil n (omega arith))
low_pow n large f (suc e) = unfold spec.mul in low_reduce n (omega arith) (spec.times f (spec.pow n f e))

module _ (p : ℕ) (prime : taken p ≡ true) where
  large : 1 < p ²
  large = square_above_one p prime

  pos : 0 < p ²
  pos = omega (arith, large)

  -- every entry is below p²
  pub meaning_low : (t : Tree) (k : ℕ) → get_or (meaning p t) k 0 < p ²
  unfolding meaning
  meaning_low (number n) = low_cons (p ²) (n % p ²) [] (mod-lt n pos) (low_nil (p ²) pos)
  meaning_low variable = low_cons (p ²) 0 (1 ∷ []) pos (low_cons (p ²) 1 [] large (low_nil (p ²) pos))
  meaning_low (power t e) = low_pow (p ²) large (meaning p t) e
  meaning_low (times a b) = unfold spec.mul in low_reduce (p ²) pos (spec.times (meaning p a) (meaning p b))
  meaning_low (plus a b) = unfold spec.add in low_reduce (p ²) pos (spec.plus (meaning p a) (meaning p b))
  meaning_low (minus a b) = unfold spec.sub spec.add in low_reduce (p ²) pos _

-- ---- too high, by the lengths without zeros

-- of a product of two that are not too long themselves
product_high : (s t : ℕ) → s ≤ 33 → t ≤ 33 → (not (eqb s 0) && not (eqb t 0) && ltb 32 (s - 1 + (t - 1))) ≡ ltb 34 (s + t)
product_high zero t l m = sym (le-ltb 34 (0 + t) (omega arith))
product_high (suc s) zero l m = rw (ne_eqb (suc s) 0 (λ e. absurd (omega (arith, e)))) (sym (le-ltb 34 (suc s + 0) (omega arith)))
product_high (suc s) (suc t) l m =
    rw (ne_eqb (suc s) 0 (λ e. absurd (omega (arith, e))), ne_eqb (suc t) 0 (λ e. absurd (omega (arith, e)))) (at (lt_or_le 34 (suc s + suc t)))
  where
    at : (34 < suc s + suc t) ⊎ (suc s + suc t ≤ 34) → ltb 32 (suc s - 1 + (suc t - 1)) ≡ ltb 34 (suc s + suc t)
    at (inl h) = lt-ltb 32 (suc s - 1 + (suc t - 1)) (omega arith) ∙ sym (lt-ltb 34 (suc s + suc t) h)
    at (inr h) = le-ltb 32 (suc s - 1 + (suc t - 1)) (omega arith) ∙ sym (le-ltb 34 (suc s + suc t) h)

power_high : (s e : ℕ) → (not (eqb s 0) && ltb 32 (e * (s - 1))) ≡ ltb 32 (e * (s - 1))
power_high zero e = sym (le-ltb 32 (e * (0 - 1)) (omega arith))
power_high (suc s) e = rw (ne_eqb (suc s) 0 (λ e. absurd (omega (arith, e))))

-- how many terms a tree has
abbrev pub terms : ℕ → Tree → ℕ
terms p t = length (trim (meaning p t))

pub high_times : (p : ℕ) (a b : Tree) → terms p a ≤ 33 → terms p b ≤ 33 → is_high p (times a b) ≡ ltb 34 (terms p a + terms p b)
unfolding is_high
high_times p a b l m = rw (zero_trim (meaning p a), zero_trim (meaning p b)) (product_high (terms p a) (terms p b) l m)

pub high_power : (p : ℕ) (t : Tree) (e : ℕ) → is_high p (power t e) ≡ ltb 32 (e * (terms p t - 1))
unfolding is_high
high_power p t e = rw (zero_trim (meaning p t)) (power_high (terms p t) e)

-- ---- nothing is too high

module _ (p : ℕ) (prime : taken p ≡ true) where
  abbrev n : ℕ
  n = p ²

  abbrev Fits : Tree → Type 0
  Fits t = Below 33 (poly n (meaning p t))

  fits_terms : (t : Tree) → Fits t → terms p t ≤ 33
  fits_terms t h = trim_short (meaning p t) (meaning_low p prime t) h

  fits_power : (t : Tree) (e : ℕ) → is_high p (power t e) ≡ false → Fits (power t e)
  unfolding meaning
  fits_power t e h =
      rw (poly_pow n (pos p prime) (meaning p t) e)
      (below_up (omega (arith, ltb-false 32 (e * (terms p t - 1)) (sym (high_power p t e) ∙ h)))
      (below_pow (below_up {e = suc (terms p t - 1)} (omega arith) (below_trim n (meaning p t))) e))

  fits_times : (a b : Tree) → Fits a → Fits b → is_high p (times a b) ≡ false → Fits (times a b)
  unfolding meaning
  fits_times a b ha hb h =
      rw (poly_mul n (pos p prime) (meaning p a) (meaning p b))
      (below_up
      (omega (
        arith,
        fits_terms a ha,
        fits_terms b hb,
        ltb-false 34 (terms p a + terms p b) (sym (high_times p a b (fits_terms a ha) (fits_terms b hb)) ∙ h),
      ))
      (below_mul (below_trim n (meaning p a)) (below_up {e = suc (terms p b - 1)} (omega arith) (below_trim n (meaning p b)))))

  pub meaning_fits : (t : Tree) → any_part (is_high p) t ≡ false → Below 33 (poly (p ²) (meaning p t))
  unfolding any_part meaning
  meaning_fits (number k) h = rw (poly_single n (k % n)) (below_up (omega arith) (below_constant (residue n (k % n))))
  meaning_fits variable h = rw (poly_x n) (below_up (omega arith) monic_x.below)
  meaning_fits (power t e) h = fits_power t e (neither (any_part (is_high p) t) _ h).1
  meaning_fits (times a b) h =
      let (both, top) = neither (any_part (is_high p) a || any_part (is_high p) b) (is_high p (times a b)) h in
      let (left, right) = neither (any_part (is_high p) a) (any_part (is_high p) b) both in
      fits_times a b (meaning_fits a left) (meaning_fits b right) top
  meaning_fits (plus a b) h =
      let (both, top) = neither (any_part (is_high p) a || any_part (is_high p) b) (is_high p (plus a b)) h in
      let (left, right) = neither (any_part (is_high p) a) (any_part (is_high p) b) both in
      rw (poly_add n (pos p prime) (meaning p a) (meaning p b)) (below_add (meaning_fits a left) (meaning_fits b right))
  meaning_fits (minus a b) h =
      let (both, top) = neither (any_part (is_high p) a || any_part (is_high p) b) (is_high p (minus a b)) h in
      let (left, right) = neither (any_part (is_high p) a) (any_part (is_high p) b) both in
      rw (poly_sub n (pos p prime) (meaning p a) (meaning p b)) (below_add (meaning_fits a left) (below_neg (meaning_fits b right)))

  -- the length, and the degree
  pub meaning_terms : (t : Tree) → any_part (is_high p) t ≡ false → terms p t ≤ 33
  meaning_terms t h = fits_terms t (meaning_fits t h)

  pub meaning_degree : (t : Tree) → any_part (is_high p) t ≡ false → degree_of (meaning p t) ≤ degree_limit
  meaning_degree t h = omega (arith, meaning_terms t h)
