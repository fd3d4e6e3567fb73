-- Trimming of coefficient lists, as the specification's records have it.
-- Proves that it keeps the entries and the polynomial, how long the trimmed list is and what it leads with, that lists of one polynomial, their entries below
-- the modulus, are trimmed to one list, and that an array is trimmed to its list. Assumes nothing.
use Rattle.std.specs.Prelude.{◌≡◌, refl, Bool, true, false, cond, List, [], ◌∷◌, ℕ, zero, suc, ◌≤◌, ◌<◌, ◌-◌, eqb, length, get_or}
use Rattle.std.proofs.Common.{sym, ◌∙◌, ap, ap₂, ⊎_elim, zero-le, suc-le-suc, le_refl, sub-one, arith, ext_get_or, eq-eqb, ne_eqb}
use Rattle.std.proofs.lemmas.Bool.{false≢true}
use Rattle.std.proofs.Math.Decide.{ℕ_discrete}
use Rattle.std.proofs.Math.ListN.{get_or-eq_default}
use Rattle.specification.specs.Polynomials.{is_zero, leading}
use Rattle.specification.specs.Records.{trim}
use Rattle.lists.specs.AllAny.{all_true, all_false}
use Rattle.algebra.specs.Numbers.{lt_or_le}
use Rattle.algebra.specs.Degree.{Below}
use Rattle.algebra.specs.CoefficientLists.{poly, Reduced}
use Rattle.arrays.specs.Represents.{Within, ZeroFrom, below_zeros}
use Rattle.arrays.specs.SameEntries.{same_entries, same_poly, zero_above}
use Rattle.arrays.specs.Sizes.{Size}
use Rattle.arrays.specs.Listed.{listed, length_listed, listed_at}

pub zero_true : (f : List ℕ) → ((k : ℕ) → get_or f k 0 ≡ 0) → is_zero f ≡ true
unfolding is_zero
zero_true f h = sym (all_true (λ a. eqb a 0) 0 f (length f) (λ k l. eq-eqb _ _ (h k)) (le_refl (length f)))

pub zero_false : (f : List ℕ) (k : ℕ) → (get_or f k 0 ≡ 0 → ⊥) → is_zero f ≡ false
unfolding is_zero
zero_false f k h =
    ⊎_elim (λ l. sym (all_false (λ a. eqb a 0) 0 f k l (ne_eqb _ _ h)))
    (λ l. absurd (h (get_or-eq_default f 0 l))) (lt_or_le k (length f))

pub zero_at : (f : List ℕ) → is_zero f ≡ true → (k : ℕ) → get_or f k 0 ≡ 0
zero_at f e k = at (ℕ_discrete (get_or f k 0) 0)
  where
    at : Dec (get_or f k 0 ≡ 0) → get_or f k 0 ≡ 0
    at (yes z) = z
    at (no h) = absurd (false≢true (sym (zero_false f k h) ∙ e))

pub get_d_trim : (f : List ℕ) (k : ℕ) → get_or (trim f) k 0 ≡ get_or f k 0
unfolding trim
get_d_trim [] k = refl
get_d_trim (a ∷ f) k = at (is_zero (a ∷ f)) refl (get_d_trim f) k
  where
    at : (t : Bool) → is_zero (a ∷ f) ≡ t → ((k : ℕ) → get_or (trim f) k 0 ≡ get_or f k 0)
        → (k : ℕ) → get_or (cond t [] (a ∷ trim f)) k 0 ≡ get_or (a ∷ f) k 0
    at true e rest k = sym (zero_at (a ∷ f) e k)
    at false e rest zero = refl
    at false e rest (suc k) = rest k

pub poly_trim : (n : ℕ) (f : List ℕ) → poly n (trim f) ≡ poly n f
poly_trim n f = same_poly n (trim f) f (get_d_trim f)

pub length_trim_le : (f : List ℕ) → length (trim f) ≤ length f
unfolding trim
length_trim_le [] = zero-le
length_trim_le (a ∷ f) = at (is_zero (a ∷ f)) (length_trim_le f)
  where
    at : (t : Bool) → length (trim f) ≤ length f → length (cond t [] (a ∷ trim f)) ≤ suc (length f)
    at true l = zero-le
    at false l = suc-le-suc l

-- the size that the code finds
length_trim_from : (f : List ℕ) (s : ℕ) → ((k : ℕ) → s ≤ k → get_or f k 0 ≡ 0) → (0 < s → get_or f (s - 1) 0 ≡ 0 → ⊥) → length (trim f) ≡ s
unfolding trim
length_trim_from [] zero above top = refl
length_trim_from [] (suc s) above top = absurd (top (suc-le-suc zero-le) refl)
length_trim_from (a ∷ f) zero above top = rw (zero_true (a ∷ f) (λ k. above k zero-le)) refl
length_trim_from (a ∷ f) (suc s) above top =
    let last : get_or (a ∷ f) s 0 ≡ 0 → ⊥ = rw sub-one at (top (suc-le-suc zero-le)) in
    rw (zero_false (a ∷ f) s last) (ap suc (length_trim_from f s (λ k l. above (suc k) (suc-le-suc l)) (inner s last)))
  where
    inner : (s : ℕ) → (get_or (a ∷ f) s 0 ≡ 0 → ⊥) → 0 < s → get_or f (s - 1) 0 ≡ 0 → ⊥
    inner zero last l = absurd (omega arith)
    inner (suc s) last l = rw sub-one last

pub length_trim : {f : List ℕ} {s : ℕ} → Size f s → length (trim f) ≡ s
length_trim {f} {s} h = length_trim_from f s h.above h.top

-- the coefficient at the degree
pub leading_trim : {f : List ℕ} {s : ℕ} → Size f s → leading (trim f) ≡ get_or f (s - 1) 0
leading_trim {f} {s} h = get_d_trim f (length (trim f) - 1) ∙ ap (λ (k : ℕ). get_or f (k - 1) 0) (length_trim h)

-- ---- lists with the same entries

pub same_zero : (f g : List ℕ) → ((k : ℕ) → get_or f k 0 ≡ get_or g k 0) → is_zero f ≡ is_zero g
same_zero f g e = at (is_zero f) (is_zero g) refl refl
  where
    at : (t u : Bool) → is_zero f ≡ t → is_zero g ≡ u → is_zero f ≡ is_zero g
    at true u z w = z ∙ sym (zero_true g (λ k. sym (e k) ∙ zero_at f z k))
    at false true z w = zero_true f (λ k. e k ∙ zero_at g w k) ∙ sym w
    at false false z w = z ∙ sym w

pub trim_entries : (f g : List ℕ) → ((k : ℕ) → get_or f k 0 ≡ get_or g k 0) → trim f ≡ trim g
unfolding trim
trim_entries [] [] e = refl
trim_entries [] (b ∷ g) e = rw (zero_true (b ∷ g) (λ k. sym (e k))) refl
trim_entries (a ∷ f) [] e = rw (zero_true (a ∷ f) e) refl
trim_entries (a ∷ f) (b ∷ g) e =
    ap₂ (λ (t : Bool) (l : List ℕ). cond t [] l) (same_zero (a ∷ f) (b ∷ g) e) (ap₂ ◌∷◌ (e 0) (trim_entries f g (λ k. e (suc k))))

reduced_within : {n : ℕ} (f : List ℕ) → Within n f → Reduced n (length f) f
reduced_within f h = record { len = refl; low = h }

-- lists of one polynomial modulo n, with entries below n
pub same_trim : {n : ℕ} (f g : List ℕ) → Within n f → Within n g → poly n f ≡ poly n g → trim f ≡ trim g
same_trim f g hf hg e = trim_entries f g (same_entries (reduced_within f hf) (reduced_within g hg) e)

-- ---- how long a list is without its zeros

pub trim_zero : (f : List ℕ) → is_zero f ≡ true → trim f ≡ []
unfolding trim
trim_zero [] e = refl
trim_zero (a ∷ f) e = rw e refl

-- no term from there on
pub trim_above : (f : List ℕ) → ZeroFrom (length (trim f)) f
trim_above f k l = sym (get_d_trim f k) ∙ get_or-eq_default (trim f) 0 {n = k} l

pub below_trim : (n : ℕ) (f : List ℕ) → Below (length (trim f)) (poly n f)
below_trim n f = below_zeros n f (trim_above f)

pub trim_length : (k : ℕ) (f : List ℕ) → ZeroFrom k f → length (trim f) ≤ k
unfolding trim
trim_length k [] z = zero-le
trim_length zero (a ∷ f) z = rw (zero_true (a ∷ f) (λ k. z k zero-le)) zero-le
trim_length (suc k) (a ∷ f) z = at (is_zero (a ∷ f)) (trim_length k f (λ j l. z (suc j) (suc-le-suc l)))
  where
    at : (t : Bool) → length (trim f) ≤ k → length (cond t [] (a ∷ trim f)) ≤ suc k
    at true l = zero-le
    at false l = suc-le-suc l

pub trim_short : {n k : ℕ} (f : List ℕ) → Within n f → Below k (poly n f) → length (trim f) ≤ k
trim_short {k = k} f low h = trim_length k f (zero_above (reduced_within f low) h)

pub zero_trim : (f : List ℕ) → is_zero f ≡ eqb (length (trim f)) 0
unfolding trim
zero_trim [] = zero_true [] (λ k. refl)
zero_trim (a ∷ f) = at (is_zero (a ∷ f))
  where
    at : (t : Bool) → t ≡ eqb (length (cond t [] (a ∷ trim f))) 0
    at true = refl
    at false = sym (ne_eqb (suc (length (trim f))) 0 (λ e. absurd (omega (arith, e))))

-- an array's entries up to its degree
pub trim_listed : {f : List ℕ} {s : ℕ} → Size f s → 0 < s → s ≤ length f → trim f ≡ listed (s - 1) f
trim_listed {f} {s} h pos l =
    ext_get_or 0 (trim f) (listed (s - 1) f) (long ∙ sym long₂)
    (λ k u. get_d_trim f k ∙ sym (listed_at (s - 1) f k (omega (arith, long))))
  where
    long : length (trim f) ≡ s
    long = length_trim h

    long₂ : length (listed (s - 1) f) ≡ s
    long₂ = length_listed (s - 1) f (omega arith) ∙ omega arith
