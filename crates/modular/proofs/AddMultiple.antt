-- Arrays to which `add_by` or `add_in_place` added c·b, from the entry k on or from the first: a + c·x^k·b.
-- Proves that such an array represents this polynomial, also where it is lent, and that a part of a reduced array has no entry from n on. Assumes nothing.
use mathlib.Core.Path.{◌≡◌, sym, ◌∙◌, ap}
use mathlib.Core.List.{List}
use mathlib.Core.Logic.{⊎_elim}
use Prim.Native.Nat.{ℕ, ◌≤◌, ◌<◌, ◌-◌, ◌%◌, ◌+◌, ◌*◌}
use native.Mathlib.Nat.{mod-lt}
use native.Mathlib.Omega.{arith}
use lib.ListN.{length, get_or}
use borrow.Rule.Slice.PartMut.{mid_of, put_mid}
use Rattle.lists.specs.Entries.{Replaced, replaced_each}
use Rattle.lists.specs.LentParts.{part_length, part_entry, part_past, part_replaced}
use Rattle.algebra.specs.Numbers.{lt_or_le}
use Rattle.algebra.specs.Ring.{add_zero, mul_zero}
use Rattle.algebra.specs.Residues.{residue, Residues, residue_add, residue_mul, residue_mod}
use Rattle.algebra.specs.PolynomialRing.{◌+ᴿ◌, ◌·◌, constant, poly_ext}
use Rattle.algebra.specs.Degree.{Below}
use Rattle.algebra.specs.CoefficientLists.{ℤ[x]/, poly, Reduced, coef_poly}
use Rattle.algebra.specs.Monomials.{x^, coef_shift_below, coef_shift}
use Rattle.arrays.specs.Represents.{Represents, Within, ZeroFrom, coef_added}
use Rattle.arrays.specs.SameEntries.{zero_above}
use Rattle.modular.specs.InPlace.{Added}

module _ (n : ℕ) (a : List ℕ) (c : ℕ) (b : List ℕ) (k : ℕ) where
  -- a + c·x^k·b
  abbrev whole : ℤ[x]/ n
  whole = poly n a +ᴿ constant (residue n c) · (x^ k · poly n b)

  -- where x^k·b has no term, the entry stays that of a
  kept : (j : ℕ) → (x^ k · poly n b).coef j ≡ (Residues n).𝟘 → residue n (get_or a j 0) ≡ whole.coef j
  kept j e = sym (coef_added n a c (x^ k · poly n b) j ∙ simp (e, mul_zero, add_zero))

  stored : (j : ℕ) → 0 < n → k ≤ j → residue n ((get_or a j 0 + c * get_or b (j - k) 0) % n) ≡ whole.coef j
  stored j pos l =
      residue_mod n pos (get_or a j 0 + c * get_or b (j - k) 0)
      ∙ residue_add n (get_or a j 0) (c * get_or b (j - k) 0)
      ∙ ap ((Residues n).add (residue n (get_or a j 0)))
      (residue_mul n c (get_or b (j - k) 0)
      ∙ ap ((Residues n).mul (residue n c)) (sym (coef_shift k (poly n b) j l ∙ coef_poly n b (j - k))))
      ∙ sym (coef_added n a c (x^ k · poly n b) j)

-- every entry of a part of a reduced array is below n
pub part_within : {n : ℕ} (k : ℕ) (a : List ℕ) → Reduced n 33 a → k ≤ 33 → Within n (mid_of k (33 - k) a)
part_within {n} k a h l j =
    ⊎_elim (λ u. rw (part_entry 0 k (33 - k) a fits j u) (h.low (k + j))) (λ u. rw (part_past 0 k (33 - k) a fits j u) (omega (arith, h.low 0)))
    (lt_or_le j (33 - k))
  where
    fits : k + (33 - k) ≤ length a
    fits = omega (arith, h.len)

-- c·b was added to the part from k on
pub multiple_added : (n : ℕ) (a : List ℕ) (c : ℕ) (b : List ℕ) (k : ℕ) {m : ℕ} {r : List ℕ} → Reduced n 33 a → Below m (poly n b) → k + m ≤ 33
    → Added n (mid_of k (33 - k) a) c b r → Represents n (put_mid k (33 - k) a r) (poly n a +ᴿ constant (residue n c) · (x^ k · poly n b))
multiple_added n a c b k {m} {r} ha hb room w = record {
  reduced = record {
    len = all.len ∙ ha.len;
    low = replaced_each (λ j v. v < n) all (λ j l. ha.low j) (λ j l u. rw (w.each (j - k)) (mod-lt _ pos)) (λ j l. ha.low j);
  };
  is = poly_ext (λ j.
      coef_poly n (put_mid k (33 - k) a r) j
      ∙ replaced_each (λ j v. residue n v ≡ (whole n a c b k).coef j) all (λ j l. kept n a c b k j (coef_shift_below k (poly n b) j l))
      (λ j l u. ap (residue n) (added j l u) ∙ stored n a c b k j pos l)
      (λ j l. kept n a c b k j (coef_shift k (poly n b) j (omega arith) ∙ hb.high (j - k) (omega arith))) j);
}
  where
    pos : 0 < n
    pos = omega (arith, ha.low 0)

    fits : k + (33 - k) ≤ length a
    fits = omega (arith, ha.len)

    all : Replaced 0 (λ j. get_or r (j - k) 0) a k (put_mid k (33 - k) a r) (k + (33 - k))
    all = part_replaced 0 k (33 - k) a fits r w.len

    added : (j : ℕ) → k ≤ j → j < k + (33 - k) → get_or r (j - k) 0 ≡ (get_or a j 0 + c * get_or b (j - k) 0) % n
    added j l u =
        w.each (j - k)
        ∙ ap (λ (y : ℕ). (y + c * get_or b (j - k) 0) % n)
        (part_entry 0 k (33 - k) a fits (j - k) (omega arith) ∙ ap (λ (t : ℕ). get_or a t 0) (let e : k + (j - k) ≡ j = omega arith in e))

-- the same of an array that is lent, whose length is known by what it holds: `add_by` may add c·b to the part from k on
pub lent_part : {n : ℕ} (k : ℕ) {m c : ℕ} (a b : List ℕ) → Reduced n 33 a → Reduced n 33 b → Below m (poly n b) → k + m ≤ 33 → c ≤ n
    → (c ≤ n) × (m ≤ length (mid_of k (length a - k) a)) × (length (mid_of k (length a - k) a) ≤ length b) × Within n (mid_of k (length a - k) a)
    × Within n b × ZeroFrom m b
lent_part k {m} a b ha hb few room low =
    (low, omega (arith, long, ha.len), omega (arith, long, ha.len, hb.len), rw ha.len (part_within k a ha (omega arith)), hb.low, zero_above hb few)
  where
    long : length (mid_of k (length a - k) a) ≡ length a - k
    long = part_length 0 k (length a - k) a (omega (arith, ha.len))

pub lent_added : (n : ℕ) (a : List ℕ) (c : ℕ) (b : List ℕ) (k : ℕ) {m : ℕ} {r : List ℕ} → Reduced n 33 a → Below m (poly n b) → k + m ≤ 33
    → Added n (mid_of k (length a - k) a) c b r → Represents n (put_mid k (length a - k) a r) (poly n a +ᴿ constant (residue n c) · (x^ k · poly n b))
lent_added n a c b k {m} {r} ha hb room = rw ha.len (multiple_added n a c b k ha hb room)

-- c·b was added to the whole
pub multiple_added_to : (n : ℕ) (a : List ℕ) (c : ℕ) (b : List ℕ) {r : List ℕ} → Reduced n 33 a → Added n a c b r
    → Represents n r (poly n a +ᴿ constant (residue n c) · (x^ 0 · poly n b))
multiple_added_to n a c b {r} ha w = record {
  reduced = record { len = w.len ∙ ha.len; low = λ j. rw (w.each j) (mod-lt _ pos) };
  is = poly_ext (λ j. coef_poly n r j ∙ ap (residue n) (added j) ∙ stored n a c b 0 j pos (omega arith));
}
  where
    pos : 0 < n
    pos = omega (arith, ha.low 0)

    added : (j : ℕ) → get_or r j 0 ≡ (get_or a j 0 + c * get_or b (j - 0) 0) % n
    added j = w.each j ∙ ap (λ (t : ℕ). (get_or a j 0 + c * get_or b t 0) % n) (let e : j ≡ j - 0 = omega arith in e)
