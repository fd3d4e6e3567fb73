-- Monic coefficient lists and monic polynomials over ℤ/n are the same thing: `list m a` writes out the first m coefficients of a.
-- Proves that products of monic lists are monic lists, of the right length, and that a monic list is found again from its polynomial.
-- Assumes nothing.
use Rattle.std.specs.Prelude.{◌≡◌, refl, List, [], ◌∷◌, ℕ, zero, suc, ◌≤◌, ◌<◌, ◌+◌, length, get_or}
use Rattle.std.proofs.Common.{sym, ◌∙◌, ap, subst, ⊎_elim, mod-eq_of_lt, arith}
use Rattle.std.proofs.Math.ListN.{get_or-eq_default}
use Rattle.specification.specs.Polynomials.{Poly, degree, mul, times}
use Rattle.specification.specs.Longest as claimed
use Rattle.algebra.specs.Numbers.{lt_or_le}
use Rattle.algebra.specs.Residues.{ℤ/, residue, residue_value, residue_one, value_below, same_remainder}
use Rattle.algebra.specs.PolynomialRing.{poly_ext, tail, coef_tail}
use Rattle.algebra.specs.Degree.{Below, Monic, monic_mul_lem}
use Rattle.algebra.specs.CoefficientLists.{ℤ[x]/, poly, Reduced, coef_poly, below_poly, poly_mul, same_list}
use Rattle.algebra.specs.ListShapes.{length_mul, low_reduce}

-- the first m coefficients
unfoldable pub list : {n : ℕ} → ℕ → ℤ[x]/ n → List ℕ
list zero a = []
list (suc m) a = (a.coef 0).value ∷ list m (tail a)

length_list : {n : ℕ} (m : ℕ) (a : ℤ[x]/ n) → length (list m a) ≡ m
unfolding list
length_list zero a = refl
length_list (suc m) a = ap suc (length_list m (tail a))

get_d_list : {n : ℕ} (m : ℕ) (a : ℤ[x]/ n) (k : ℕ) → k < m → get_or (list m a) k 0 ≡ (a.coef k).value
unfolding list
get_d_list zero a k h = absurd (omega arith)
get_d_list (suc m) a zero h = refl
get_d_list {n} (suc m) a (suc k) h = get_d_list m (tail a) k (omega arith) ∙ ap (λ (c : ℤ/ n). c.value) (coef_tail a k)

pub poly_list : {n : ℕ} (m : ℕ) (a : ℤ[x]/ n) → Below m a → poly n (list m a) ≡ a
poly_list {n} m a h = poly_ext at
  where
    at : (k : ℕ) → (poly n (list m a)).coef k ≡ a.coef k
    at k =
        ⊎_elim (λ l. coef_poly n (list m a) k ∙ ap (residue n) (get_d_list m a k l) ∙ residue_value n (a.coef k))
        (λ l. (below_poly n (list m a)).high k (omega (arith, length_list m a)) ∙ sym (h.high k l)) (lt_or_le k m)

reduced_list : {n : ℕ} → 0 < n → (m : ℕ) (a : ℤ[x]/ n) → Reduced n m (list m a)
reduced_list {n} pos m a = record { len = length_list m a; low = low }
  where
    low : (k : ℕ) → get_or (list m a) k 0 < n
    low k =
        ⊎_elim (λ l. subst (λ v. v < n) (sym (get_d_list m a k l)) (value_below n pos (a.coef k)))
        (λ l. subst (λ v. v < n) (sym (get_or-eq_default (list m a) 0 {n = k} (omega (arith, length_list m a)))) pos) (lt_or_le k m)

-- ---- monic lists

-- a list of degree d that ends in 1, each entry below n: of any degree, 0 too
pub record MonicList (n d : ℕ) (f : Poly) : Type 0 where
  pub reduced : Reduced n (suc d) f
  pub leads : get_or f d 0 ≡ 1

module _ {n : ℕ} where
  pub monic_poly : {d : ℕ} {f : Poly} → MonicList n d f → Monic d (poly n f)
  monic_poly {d} {f} m = record {
    leading = coef_poly n f d ∙ ap (residue n) m.leads ∙ residue_one n;
    below = subst (λ k. Below k (poly n f)) m.reduced.len (below_poly n f);
  }

  pub monic_reduced : 1 < n → {d : ℕ} {f : Poly} → Reduced n (suc d) f → Monic d (poly n f) → MonicList n d f
  monic_reduced l {d} {f} r m = record { reduced = r; leads = one }
    where
      one : get_or f d 0 ≡ 1
      one =
          sym (mod-eq_of_lt (r.low d))
          ∙ same_remainder n (omega arith) (get_or f d 0) 1 (sym (coef_poly n f d) ∙ m.leading ∙ sym (residue_one n)) ∙ mod-eq_of_lt l

  pub list_monic : 1 < n → {d : ℕ} {a : ℤ[x]/ n} → Monic d a → MonicList n d (list (suc d) a)
  list_monic l {d} {a} m =
      monic_reduced l (reduced_list (omega arith) (suc d) a) (subst (Monic d) (sym (poly_list (suc d) a m.below)) m)

  -- document 01's monic lists of degree 1 or more
  pub from_claimed : 0 < n → {f : Poly} → claimed.Monic n f → MonicList n (degree f) f
  from_claimed pos {f} m = record {
    reduced = record {
      len = omega (arith, m.positive);
      low = λ k. ⊎_elim (m.reduced k) (λ l. subst (λ v. v < n) (sym (get_or-eq_default f 0 {n = k} l)) pos) (lt_or_le k (length f));
    };
    leads = m.leads_with_one;
  }

  pub to_claimed : {d : ℕ} {f : Poly} → 1 ≤ d → MonicList n d f → claimed.Monic n f
  to_claimed {d} {f} l m = record {
    positive = omega (arith, m.reduced.len);
    leads_with_one = ap (λ k. get_or f k 0) (let e : degree f ≡ d = omega (arith, m.reduced.len) in e) ∙ m.leads;
    reduced = λ i h. m.reduced.low i;
  }

  -- equal polynomials, equal lists
  pub monic_same : {d e : ℕ} {f g : Poly} → d ≡ e → MonicList n d f → MonicList n e g → poly n f ≡ poly n g → f ≡ g
  monic_same {d} {e} {f} {g} q m k p = same_list m.reduced (subst (λ j. Reduced n (suc j) g) (sym q) k.reduced) p

  -- products of monic lists are monic lists, with no zeros at the end
  pub monic_list_mul : 1 < n → {d e : ℕ} {f g : Poly} → MonicList n d f → MonicList n e g → MonicList n (d + e) (mul n f g)
  monic_list_mul l {d} {e} {f} {g} m k =
      monic_reduced l
      (record { len = length_mul n f g m.reduced.len k.reduced.len; low = unfold mul in low_reduce n (omega arith) (times f g) })
      (subst (Monic (d + e)) (sym (poly_mul n (omega arith) f g)) (monic_mul_lem (monic_poly m) (monic_poly k)))

  -- of degree 0 there is only 1
  pub monic_list_zero : (f : Poly) → MonicList n 0 f → f ≡ 1 ∷ []
  monic_list_zero [] m = absurd (omega (arith, m.reduced.len))
  monic_list_zero (a ∷ []) m = ap (λ (b : ℕ). b ∷ []) m.leads
  monic_list_zero (a ∷ b ∷ f) m = absurd (omega (arith, m.reduced.len))
