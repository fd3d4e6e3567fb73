-- The specification's quotient and remainder of coefficient lists are those of polynomials over ℤ/n, for a monic divisor.
-- Proves the law of division, the bounds and shapes of both lists, that a list is congruent to its remainder and to no other list so short,
-- and that `divides` decides divisibility. Assumes nothing.
use Rattle.std.specs.Prelude.{◌≡◌, length, take, replicate}
use Rattle.std.proofs.Math.Path.{refl, sym, ap, ap₂, subst}
use Rattle.std.proofs.Common.{◌∙◌, ⊎_elim, mod-eq_of_lt, arith, length-take, get_or-take, length-take-le, eqb→eq}
use mathlib.Core.List.{List, [], ◌∷◌}
use Prim.Native.Nat.{ℕ, zero, suc, ◌<◌, ◌-◌}
use Rattle.std.proofs.Math.ListN.{get_or, length-replicate, get_or-eq_default}
use Rattle.std.proofs.Math.Dec.{T, eqb}
use Rattle.specification.specs.Polynomials as spec
use Rattle.algebra.specs.Numbers.{lt_or_le}
use Rattle.algebra.specs.Ring.{linear1, linear2, add_zero}
use Rattle.algebra.specs.Identities.{con, ◌⊕◌, ◌⊖◌, ◌⊗◌, ⊝◌, ◌≈◌, solve}
use Rattle.algebra.specs.Divisibility.{◌∣◌}
use Rattle.algebra.specs.Residues.{residue, Residues, residue_zero, zero_remainder}
use Rattle.algebra.specs.PolynomialRing.{◌+ᴿ◌, ◌·◌, -ᴿ◌, 𝟎, 𝟏, x, constant, poly_ext, coef_zero}
use Rattle.algebra.specs.Degree.{Below, Monic, below_up, below_add, below_neg, below_factor, below_𝟎}
use Rattle.algebra.specs.Division.{below_top, divided_unique}
use Rattle.algebra.specs.Congruence.{Congruent, congruent_sym, congruent_remainder, congruent_unique}
use Rattle.algebra.specs.CoefficientLists.{
  ℤ[x]/,
  poly,
  Reduced,
  coef_poly,
  below_poly,
  poly_nil,
  poly_cons,
  poly_sub,
  poly_scale,
  constant_residue_one,
  same_list,
  𝓩[x]/,
}
use Rattle.lists.specs.AllAny.{all_at, all_from}
use Rattle.algebra.specs.ListShapes.{length_sub, length_scale, low_reduce, low_take, get_d_zeros}

-- ---- parts of lists

-- the terms from d on may be cut off where they vanish
pub poly_take : (n d : ℕ) (f : List ℕ) → Below d (poly n f) → poly n (take d f) ≡ poly n f
poly_take n d f h = poly_ext at
  where
    at : (k : ℕ) → (poly n (take d f)).coef k ≡ (poly n f).coef k
    at k =
        ⊎_elim
        (λ l. coef_poly n (take d f) k ∙ ap (residue n) (get_or-take d f k 0 l) ∙ sym (coef_poly n f k))
        (λ l.
        (below_poly n (take d f)).high k (omega (arith, length-take d f)) ∙ sym (h.high k l))
        (lt_or_le k d)

pub poly_zeros : (n k : ℕ) → poly n (replicate k 0) ≡ 𝟎
poly_zeros n k =
    poly_ext (λ j. coef_poly n (replicate k 0) j ∙ ap (residue n) (get_d_zeros k j) ∙ residue_zero n ∙ sym (coef_zero (Residues n) j))

pub poly_unit : (n k : ℕ) → poly n (1 ∷ replicate k 0) ≡ 𝟏
poly_unit n k =
    poly_cons n 1 (replicate k 0) ∙ ap₂ (λ c f. c +ᴿ x · f) (constant_residue_one n) (poly_zeros n k)
    ∙ solve (𝓩[x]/ n) 1 (λ x. con 1 ⊕ x ⊗ con 0 ≈ con 1) tt x

-- a list that is zero everywhere is the polynomial 𝟎, and where its entries are below n no other is
pub poly_is_zero : (n : ℕ) (f : List ℕ) → T (spec.is_zero f) → poly n f ≡ 𝟎
poly_is_zero n f t = poly_ext (λ k. coef_poly n f k ∙ ap (residue n) (zero_at k) ∙ residue_zero n ∙ sym (coef_zero (Residues n) k))
  where
    zero_at : (k : ℕ) → get_or f k 0 ≡ 0
    zero_at k =
        ⊎_elim (λ l. eqb→eq (get_or f k 0) 0 (all_at (λ (a : ℕ). eqb a 0) 0 f (unfold spec.is_zero in t) k l))
        (λ l. get_or-eq_default f 0 {n = k} l) (lt_or_le k (length f))

pub is_zero_poly : (n : ℕ) → 0 < n → (f : List ℕ) → ((k : ℕ) → get_or f k 0 < n) → poly n f ≡ 𝟎 → T (spec.is_zero f)
is_zero_poly n pos f h e = unfold spec.is_zero in all_from (λ (a : ℕ). eqb a 0) 0 f (λ k l. subst (λ a. T (eqb a 0)) (sym (zero_at k)) tt)
  where
    zero_at : (k : ℕ) → get_or f k 0 ≡ 0
    zero_at k =
        sym (mod-eq_of_lt (h k))
        ∙ zero_remainder n pos (get_or f k 0) (sym (coef_poly n f k) ∙ ap (λ a. a.coef k) e ∙ coef_zero (Residues n) k)

-- ---- division by g, monic of degree d

module _ (n : ℕ) (pos : 0 < n) (d : ℕ) (g : List ℕ) (long : length g ≡ suc d) (monic : Monic d (poly n g)) where
  degree_is_lem : spec.degree g ≡ d
  degree_is_lem = omega arith

  -- one step: s less its top coefficient times g
  module _ (s : List ℕ) (fits : length s ≡ suc d) where
    abbrev top : ℕ
    top = get_or s d 0

    abbrev less : List ℕ
    less = spec.sub n s (spec.scale n top g)

    without_top_lem : spec.without_top n g s ≡ take d less
    unfolding spec.without_top
    without_top_lem = rw degree_is_lem

    poly_less : poly n less ≡ poly n s +ᴿ -ᴿ (constant ((poly n s).coef d) · poly n g)
    poly_less =
        poly_sub n pos s (spec.scale n top g)
        ∙ ap (λ h. poly n s +ᴿ -ᴿ h) (poly_scale n pos top g ∙ ap (λ c. constant c · poly n g) (sym (coef_poly n s d)))

    below_less : Below d (poly n less)
    below_less = rw poly_less (below_top monic (poly n s) (subst (λ m. Below m (poly n s)) fits (below_poly n s)))

    poly_without_top : poly n (spec.without_top n g s) ≡ poly n s +ᴿ -ᴿ (constant ((poly n s).coef d) · poly n g)
    poly_without_top = ap (poly n) without_top_lem ∙ poly_take n d less below_less ∙ poly_less

    length_without_top : length (spec.without_top n g s) ≡ d
    length_without_top =
        ap length without_top_lem
        ∙ length-take-le d less (omega (arith, length_sub n s (spec.scale n top g) (omega (arith, length_scale n top g))))

    low_without_top : (k : ℕ) → get_or (spec.without_top n g s) k 0 < n
    low_without_top k = rw without_top_lem (low_take n pos d less (unfold spec.sub spec.add in low_reduce n pos _) k)

  pub length_remainder : (f : List ℕ) → length (spec.remainder n g f) ≡ d
  unfolding spec.remainder
  length_remainder [] = length-replicate {A = ℕ} (spec.degree g) 0 ∙ degree_is_lem
  length_remainder (a ∷ f) = length_without_top (a ∷ spec.remainder n g f) (ap suc (length_remainder f))

  pub low_remainder : (f : List ℕ) (k : ℕ) → get_or (spec.remainder n g f) k 0 < n
  unfolding spec.remainder
  low_remainder [] k = rw (get_d_zeros (spec.degree g) k) pos
  low_remainder (a ∷ f) k = low_without_top (a ∷ spec.remainder n g f) (ap suc (length_remainder f)) k

  -- what is left is of lower degree
  pub below_remainder : (f : List ℕ) → Below d (poly n (spec.remainder n g f))
  below_remainder f = subst (λ m. Below m (poly n (spec.remainder n g f))) (length_remainder f) (below_poly n (spec.remainder n g f))

  quotients_law : (f : List ℕ) → poly n (spec.quotients n g f) · poly n g +ᴿ poly n (spec.remainder n g f) ≡ poly n f
  unfolding spec.quotients spec.remainder
  quotients_law [] =
      ap₂ (λ q r. q · poly n g +ᴿ r) (poly_nil n) (poly_zeros n (spec.degree g))
      ∙ solve (𝓩[x]/ n) 1 (λ g. con 0 ⊗ g ⊕ con 0 ≈ con 0) tt (poly n g) ∙ sym (poly_nil n)
  quotients_law (a ∷ f) =
      let r : List ℕ = spec.remainder n g f in
      let q : List ℕ = spec.quotients n g f in
      let s : List ℕ = a ∷ r in
      let c : ℤ[x]/ n = constant ((poly n s).coef d) in
      ap₂ (λ q r. q · poly n g +ᴿ r)
      (poly_cons n (get_or s (spec.degree g) 0) q ∙ ap (λ e. constant e +ᴿ x · poly n q) (ap (λ k. residue n (get_or s k 0)) degree_is_lem ∙ sym (coef_poly n s d)))
      (poly_without_top s (ap suc (length_remainder f)) ∙ ap (λ t. t +ᴿ -ᴿ (c · poly n g)) (poly_cons n a r))
      ∙ solve (𝓩[x]/ n) 6 (λ c x q g a r. (c ⊕ x ⊗ q) ⊗ g ⊕ (a ⊕ x ⊗ r ⊖ c ⊗ g) ≈ a ⊕ x ⊗ (q ⊗ g ⊕ r)) tt
      c x (poly n q) (poly n g) (constant (residue n a)) (poly n r)
      ∙ ap (λ t. constant (residue n a) +ᴿ x · t) (quotients_law f)
      ∙ sym (poly_cons n a f)

  length_quotients : (f : List ℕ) → length (spec.quotients n g f) ≡ length f
  unfolding spec.quotients
  length_quotients [] = refl
  length_quotients (a ∷ f) = ap suc (length_quotients f)

  -- the quotient's degree
  below_quotients : (f : List ℕ) → Below (length f - d) (poly n (spec.quotients n g f))
  below_quotients f = below_factor monic (length f - d) (poly n (spec.quotients n g f)) (rw multiple (below_add
      (below_up (omega arith) (below_poly n f)) (below_neg (below_up (omega arith) (below_remainder f)))))
    where
      multiple : poly n (spec.quotients n g f) · poly n g ≡ poly n f +ᴿ -ᴿ poly n (spec.remainder n g f)
      multiple =
          linear1 (𝓩[x]/ n) 𝟏 (quotients_law f)
          (solve (𝓩[x]/ n) 4 (λ q g r f. q ⊗ g ⊖ (f ⊖ r) ≈ con 1 ⊗ (q ⊗ g ⊕ r ⊖ f)) tt
          (poly n (spec.quotients n g f)) (poly n g) (poly n (spec.remainder n g f)) (poly n f))

  quotient_is : (f : List ℕ) → spec.quotient n g f ≡ take (length f - d) (spec.quotients n g f)
  unfolding spec.quotient
  quotient_is f = rw degree_is_lem

  poly_quotient : (f : List ℕ) → poly n (spec.quotient n g f) ≡ poly n (spec.quotients n g f)
  poly_quotient f = ap (poly n) (quotient_is f) ∙ poly_take n (length f - d) (spec.quotients n g f) (below_quotients f)

  pub length_quotient : (f : List ℕ) → length (spec.quotient n g f) ≡ length f - d
  length_quotient f = ap length (quotient_is f) ∙ length-take-le (length f - d) (spec.quotients n g f) (omega (arith, length_quotients f))

  -- quotient times divisor, plus remainder
  pub division_law : (f : List ℕ) → poly n (spec.quotient n g f) · poly n g +ᴿ poly n (spec.remainder n g f) ≡ poly n f
  division_law f = ap (λ q. q · poly n g +ᴿ poly n (spec.remainder n g f)) (poly_quotient f) ∙ quotients_law f

  -- ---- remainders

  pub remainder_reduced : (f : List ℕ) → Reduced n d (spec.remainder n g f)
  remainder_reduced f = record { len = length_remainder f; low = low_remainder f }

  pub remainder_congruent : (f : List ℕ) → Congruent (𝓩[x]/ n) (poly n g) (poly n (spec.remainder n g f)) (poly n f)
  remainder_congruent f =
      congruent_sym (𝓩[x]/ n)
      (congruent_remainder (record {
        quotient = poly n (spec.quotient n g f);
        remainder = poly n (spec.remainder n g f);
        law = division_law f;
        small = below_remainder f;
      }))

  below_reduced : {f : List ℕ} → Reduced n d f → Below d (poly n f)
  below_reduced {f} r = subst (λ m. Below m (poly n f)) r.len (below_poly n f)

  -- congruent lists of d coefficients are the same
  pub congruent_same : {f h : List ℕ} → Reduced n d f → Reduced n d h → Congruent (𝓩[x]/ n) (poly n g) (poly n f) (poly n h) → f ≡ h
  congruent_same r s c = same_list r s (congruent_unique monic (below_reduced r) (below_reduced s) c)

  -- ---- quotients

  low_quotients : (f : List ℕ) → ((k : ℕ) → get_or f k 0 < n) → (k : ℕ) → get_or (spec.quotients n g f) k 0 < n
  unfolding spec.quotients
  low_quotients [] h k = pos
  low_quotients (a ∷ f) h zero = at (spec.degree g)
    where
      at : (e : ℕ) → get_or (a ∷ spec.remainder n g f) e 0 < n
      at zero = h 0
      at (suc e) = low_remainder f e
  low_quotients (a ∷ f) h (suc k) = low_quotients f (λ j. h (suc j)) k

  pub low_quotient : (f : List ℕ) → ((k : ℕ) → get_or f k 0 < n) → (k : ℕ) → get_or (spec.quotient n g f) k 0 < n
  low_quotient f h k = rw quotient_is (low_take n pos (length f - d) (spec.quotients n g f) (low_quotients f h) k)

  -- ---- divisors

  pub divides_sound : (f : List ℕ) → T (spec.divides n g f) → ◌∣◌ (𝓩[x]/ n) (poly n g) (poly n f)
  divides_sound f t = (poly n (spec.quotient n g f), exact)
    where
      exact : poly n (spec.quotient n g f) · poly n g ≡ poly n f
      exact =
          linear2 (𝓩[x]/ n) 𝟏 (-ᴿ 𝟏) (division_law f) (poly_is_zero n (spec.remainder n g f) (unfold spec.divides in t))
          (solve (𝓩[x]/ n) 4 (λ q g r f. q ⊗ g ⊖ f ≈ con 1 ⊗ (q ⊗ g ⊕ r ⊖ f) ⊕ ⊝ con 1 ⊗ (r ⊖ con 0)) tt
          (poly n (spec.quotient n g f)) (poly n g) (poly n (spec.remainder n g f)) (poly n f))

  -- any cofactor is the quotient, and nothing is left
  divided_is : (f : List ℕ) (q : ℤ[x]/ n) → q · poly n g ≡ poly n f
      → (q ≡ poly n (spec.quotient n g f)) × (𝟎 ≡ poly n (spec.remainder n g f))
  divided_is f q e =
      divided_unique monic q 𝟎 (poly n (spec.quotient n g f)) (poly n (spec.remainder n g f)) (below_𝟎 d) (below_remainder f)
      (add_zero (𝓩[x]/ n) (q · poly n g) ∙ e ∙ sym (division_law f))

  pub divides_complete : (f : List ℕ) → ◌∣◌ (𝓩[x]/ n) (poly n g) (poly n f) → T (spec.divides n g f)
  divides_complete f (q, e) = unfold spec.divides in is_zero_poly n pos (spec.remainder n g f) (low_remainder f) (sym (divided_is f q e).1)

  pub divides_exact : (f : List ℕ) → ◌∣◌ (𝓩[x]/ n) (poly n g) (poly n f) → poly n (spec.quotient n g f) · poly n g ≡ poly n f
  divides_exact f (q, e) = ap (λ a. a · poly n g) (sym (divided_is f q e).0) ∙ e
