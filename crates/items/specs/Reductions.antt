-- Lists modulo p² and their bars: the specification's `reduce p` and `lift p` are reduction and lift of polynomials over ℤ/p² → ℤ/p.
-- Defines `LiftOf`: monic lists modulo p² with a given bar. Proves that the specification's lifts of a monic list are exactly these.
-- Assumes nothing.
use Rattle.std.specs.Prelude.{◌≡◌, refl, List, map, ℕ, suc, ◌≤◌, ◌<◌, ◌%◌, ◌/◌, get_or, take}
use Rattle.std.proofs.Math.Path.{sym, ap, subst}
use Rattle.std.proofs.Common.{◌∙◌, ⊎_elim, mul-le-mul_left, div-lt_iff_lt-mul, eq-or-lt_of_le, mod-eq_of_lt, arith, length-take, get_or-take}
use mathlib.Core.List.Memᴰ
use Rattle.std.proofs.Math.Nat.{mod-add-div, div-eq_of_lt, zero-div}
use Rattle.std.proofs.Math.ListN.{length, length-map, get_or-eq_default}
use Rattle.std.proofs.Math.Seq.{length-take-le}
use Rattle.specification.specs.Polynomials as spec
use Rattle.specification.specs.Powers.{lifts, polynomials}
use Rattle.specification.specs.Parts.{digit_lift}
use Rattle.specification.specs.Limits.{◌²}
use Rattle.algebra.specs.Numbers.{lt_or_le, square_large}
use Rattle.algebra.specs.Residues.{residue, Residues, residue_add, residue_mul}
use Rattle.algebra.specs.PolynomialRing.{◌+ᴿ◌, ◌·◌, constant, poly_ext, coef_add, coef_constant_mul}
use Rattle.algebra.specs.Degree.{Below, Monic, below_up, monic_add}
use Rattle.algebra.specs.Homomorphisms.{map_poly, coef_map, monic_map}
use Rattle.algebra.specs.Extension.{Extension, bar, bar_residue, residue_extension, residue_π, poly_extension, poly_π}
use Rattle.algebra.specs.CoefficientLists.{ℤ[x]/, poly, Reduced, coef_poly, below_poly, poly_add, poly_scale, poly_reduce, same_list, 𝓩[x]/}
use Rattle.algebra.specs.ListShapes.{length_add, length_reduce, length_scale, low_reduce, get_d_map, get_d_reduce}
use Rattle.lists.specs.Members.{◌∈◌}
use Rattle.factorisation.specs.ExtensionLaws.{bar_add_π, π_equal}
use Rattle.factorisation.specs.PolynomialExtension.{below_lift, below_π}
use Rattle.items.specs.MonicLists.{MonicList, monic_poly, monic_reduced, monic_same}
use Rattle.items.specs.Enumeration.{polynomials_member, polynomials_has}

-- a monic list modulo p² whose bar is G
pub record LiftOf (p : ℕ) (G g : spec.Poly) : Type 0 where
  pub monic : MonicList (p ²) (spec.degree G) g
  pub bar : spec.reduce p g ≡ G

-- the bar of a monic list
pub monic_reduce : {p : ℕ} → 1 < p → {n d : ℕ} {f : spec.Poly} → MonicList n d f → MonicList p d (spec.reduce p f)
monic_reduce {p} large {d = d} {f} m = record {
  reduced = record { len = length_reduce p f ∙ m.reduced.len; low = low_reduce p (omega arith) f };
  leads = get_d_reduce p f d ∙ ap (λ (a : ℕ). a % p) m.leads ∙ mod-eq_of_lt large;
}

module _ (p : ℕ) (large : 1 < p) where
  -- ℤ/p² → ℤ/p
  abbrev pub coefficients : Extension (Residues (p ²)) (Residues p) (bar p)
  coefficients = residue_extension p (omega arith)

  -- "a bar means reduction modulo p"
  abbrev pub barred : ℤ[x]/ (p ²) → ℤ[x]/ p
  barred = map_poly coefficients.hom

  pub bar_poly : (f : List ℕ) → barred (poly (p ²) f) ≡ poly p f
  bar_poly f = poly_ext (λ k. coef_map coefficients.hom (poly (p ²) f) k ∙ ap (bar p) (coef_poly (p ²) f k)
      ∙ bar_residue p (omega arith) (get_or f k 0) ∙ sym (coef_poly p f k))

  pub bar_reduce : (f : spec.Poly) → barred (poly (p ²) f) ≡ poly p (spec.reduce p f)
  bar_reduce f = bar_poly f ∙ sym (poly_reduce p (omega arith) f)

  abbrev large² : 1 < p ²
  large² = square_large p large

  -- digits below p read modulo p²
  digits_monic : {d : ℕ} {q : spec.Poly} → MonicList p d q → MonicList (p ²) d q
  digits_monic m = record {
    reduced = record { len = m.reduced.len; low = λ k. omega (arith, m.reduced.low k, mul-le-mul_left p (let l : 1 ≤ p = omega arith in l)) };
    leads = m.leads;
  }

  -- the bar of a lift
  pub lift_over : {G g : spec.Poly} → LiftOf p G g → barred (poly (p ²) g) ≡ poly p G
  lift_over {g = g} l = bar_reduce g ∙ ap (poly p) l.bar

  -- item 5: G itself, read modulo p², is one
  pub digit_lift_lem : {G : spec.Poly} → MonicList p (spec.degree G) G → LiftOf p G (digit_lift G)
  digit_lift_lem {G} m = record {
    monic = digits_monic m;
    bar = same_list (record { len = length_reduce p G ∙ m.reduced.len; low = low_reduce p (omega arith) G }) m.reduced (poly_reduce p (omega arith) G);
  }

  -- p, as a constant polynomial
  abbrev pub π : ℤ[x]/ (p ²)
  π = constant (residue (p ²) p)

  pub poly_lift : (q t : spec.Poly) → poly (p ²) (spec.lift p q t) ≡ poly (p ²) q +ᴿ π · poly (p ²) t
  unfolding spec.lift
  poly_lift q t =
      poly_add (p ²) (omega (arith, large²)) q (spec.scale (p ²) p t)
      ∙ ap (λ a. poly (p ²) q +ᴿ a) (poly_scale (p ²) (omega (arith, large²)) p t)

  -- ℤ/p²[x] → ℤ/p[x]
  abbrev pub extension : Extension (𝓩[x]/ (p ²)) (𝓩[x]/ p) barred
  extension = poly_extension coefficients

  pub π_is : extension.π ≡ π
  π_is = poly_π coefficients ∙ ap constant (residue_π p (omega arith))

  pub lift_is : (q t : spec.Poly) → poly (p ²) (spec.lift p q t) ≡ poly (p ²) q +ᴿ extension.π · poly (p ²) t
  lift_is q t = poly_lift q t ∙ ap (λ a. poly (p ²) q +ᴿ a · poly (p ²) t) (sym π_is)

  bar_lifted : (q t : spec.Poly) → poly p (spec.lift p q t) ≡ poly p q
  bar_lifted q t =
      sym (bar_poly (spec.lift p q t)) ∙ ap barred (lift_is q t) ∙ bar_add_π extension (poly (p ²) q) (poly (p ²) t) ∙ bar_poly q

  pub bar_monic_lem : {d : ℕ} (f : List ℕ) → Monic d (poly (p ²) f) → Monic d (poly p f)
  bar_monic_lem {d} f m = subst (Monic d) (bar_poly f) (monic_map coefficients.hom m)

  -- q + p·t, where t is of lower degree modulo p
  pub lift_list_monic : {d : ℕ} {q : spec.Poly} → MonicList (p ²) d q → (t : spec.Poly) → length t ≤ suc d → Below d (poly p t)
      → MonicList (p ²) d (spec.lift p q t)
  lift_list_monic {d} {q} m t l b =
      monic_reduced large²
      (record {
        len = unfold spec.lift in
            length_add (p ²) q (spec.scale (p ²) p t) (omega (arith, length_scale (p ²) p t, m.reduced.len)) ∙ m.reduced.len;
        low = unfold spec.lift spec.add in low_reduce (p ²) (omega (arith, large²)) _;
      })
      (subst (Monic d) (sym (lift_is q t)) (monic_add (monic_poly m) (rw multiple (below_π coefficients (below_lift coefficients b)))))
    where
      multiple : extension.π · poly (p ²) t ≡ extension.π · extension.lift (poly p t)
      multiple = π_equal extension (bar_poly t ∙ sym (extension.bar_lift (poly p t)))

  module _ {d : ℕ} {q : spec.Poly} (m : MonicList p d q) where
    pub lift_monic : (t : spec.Poly) → length t ≤ d → MonicList (p ²) d (spec.lift p q t)
    lift_monic t l = lift_list_monic (digits_monic m) t (omega arith) (below_up l (below_poly p t))

    pub lift_bar : (t : spec.Poly) → length t ≤ d → spec.reduce p (spec.lift p q t) ≡ q
    lift_bar t l =
        same_list
        (record { len = length_reduce p (spec.lift p q t) ∙ (lift_monic t l).reduced.len; low = low_reduce p (omega arith) (spec.lift p q t) })
        m.reduced (poly_reduce p (omega arith) (spec.lift p q t) ∙ bar_lifted q t)

    -- what stands above the digits
    abbrev above : spec.Poly → spec.Poly
    above f = take d (map (λ (a : ℕ). a / p) f)

    high : (f : spec.Poly) → MonicList (p ²) d f → (k : ℕ) → get_or (above f) k 0 ≡ get_or f k 0 / p
    high f mf k = ⊎_elim (λ l. get_or-take d _ k 0 l ∙ whole) (λ l. past l ∙ sym (div-eq_of_lt (small l))) (lt_or_le k d)
      where
        whole : get_or (map (λ (a : ℕ). a / p) f) k 0 ≡ get_or f k 0 / p
        whole = get_d_map (λ (a : ℕ). a / p) (zero-div p) f k

        past : d ≤ k → get_or (above f) k 0 ≡ 0
        past l = get_or-eq_default (above f) 0 {n = k} (omega (arith, length-take d (map (λ (a : ℕ). a / p) f)))

        small : d ≤ k → get_or f k 0 < p
        small l =
            ⊎_elim (λ e. subst (λ i. get_or f i 0 < p) e (subst (λ v. v < p) (sym mf.leads) large))
            (λ g. subst (λ v. v < p) (sym (get_or-eq_default f 0 {n = k} (omega (arith, mf.reduced.len)))) (omega arith)) (eq-or-lt_of_le l)

    -- f = q + p·above f, where q is the bar of f
    lifted_again : (f : spec.Poly) → MonicList (p ²) d f → spec.reduce p f ≡ q → spec.lift p q (above f) ≡ f
    lifted_again f mf e =
        monic_same refl (lift_monic (above f) (omega (arith, length-take d (map (λ (a : ℕ). a / p) f)))) mf (poly_lift q (above f) ∙ poly_ext at)
      where
        digit : (k : ℕ) → get_or q k 0 ≡ get_or f k 0 % p
        digit k = ap (λ g. get_or g k 0) (sym e) ∙ get_d_reduce p f k

        at : (k : ℕ) → (poly (p ²) q +ᴿ π · poly (p ²) (above f)).coef k ≡ (poly (p ²) f).coef k
        at k = simp (coef_add, coef_constant_mul, coef_poly, digit k, high f mf k, ← residue_mul, ← residue_add, mod-add-div)

    pub lifts_member : {f : spec.Poly} → f ∈ lifts p q → MonicList (p ²) d f × (spec.reduce p f ≡ q)
    unfolding lifts
    lifts_member i =
        let (t, j, e) = Memᴰ.of_map (spec.lift p q) (polynomials p (spec.degree q)) i in
        let r = polynomials_member p (omega arith) (spec.degree q) j in
        let l : length t ≤ d = omega (arith, r.len, m.reduced.len) in
        (subst (MonicList (p ²) d) e (lift_monic t l), ap (spec.reduce p) (sym e) ∙ lift_bar t l)

    pub lifts_has : (f : spec.Poly) → MonicList (p ²) d f → spec.reduce p f ≡ q → f ∈ lifts p q
    unfolding lifts
    lifts_has f mf e =
        Memᴰ.cast (sym (lifted_again f mf e))
        (Memᴰ.map (spec.lift p q) (polynomials_has p (omega arith) (spec.degree q) (above f) digits))
      where
        digits : Reduced p (spec.degree q) (above f)
        digits = record {
          len = length-take-le d _ (omega (arith, length-map f (λ (a : ℕ). a / p), mf.reduced.len)) ∙ omega (arith, m.reduced.len);
          low = λ k. subst (λ v. v < p) (sym (high f mf k)) ((div-lt_iff_lt-mul (omega arith)).1 (mf.reduced.low k));
        }
