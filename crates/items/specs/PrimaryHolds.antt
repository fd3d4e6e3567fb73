-- Item 2: the primary part over each power of the bar of f.
-- Proves that what the specification finds is monic, has the bar G^m and divides f, that nothing else does, and that the parts multiply to f.
-- Assumes nothing.
use Rattle.std.specs.Prelude.{◌≡◌, refl, ℕ, suc, ◌≤◌, ◌<◌, ◌*◌}
use Rattle.std.proofs.Common.{sym, ◌∙◌, ap, ap₂, subst, mul-pos, mod-eq_of_lt, arith}
use mathlib.Core.List.Memᴰ
use mathlib.Core.List.{List, [], ◌∷◌, map, head-eq_of_cons-eq, tail-eq_of_cons-eq, cons-ne-nil, map-map}
use mathlib.Core.List.Memᴰ.{head as here}
use mathlib.Core.List.Memᴰ.{tail as there}
use Rattle.specification.specs.Polynomials as spec
use Rattle.specification.specs.Powers.{Power, primary, lifts}
use Rattle.specification.specs.Items1to3 as items1to3
use Rattle.specification.specs.Limits.{◌²}
use Rattle.algebra.specs.Numbers.{square_large}
use Rattle.algebra.specs.Divisibility.{◌∣◌, product}
use Rattle.algebra.specs.Residues.{ℤ/, residue, Residues, residue_one, value_residue}
use Rattle.algebra.specs.PolynomialRing.{◌·◌}
use Rattle.algebra.specs.Degree.{Monic}
use Rattle.algebra.specs.Extension.{residue_lift}
use Rattle.algebra.specs.Fields.{Prime, prime_pos, residue_field, residue_discrete, residue_nontrivial}
use Rattle.algebra.specs.Homomorphisms.{monic_map}
use Rattle.algebra.specs.CoefficientLists.{ℤ[x]/, poly, poly_pow, poly_product, same_list, 𝓩[x]/}
use Rattle.algebra.specs.ListShapes.{length_reduce, low_reduce}
use Rattle.lists.specs.Firsts.{first_passes}
use Rattle.algebra.specs.ListDivision.{divides_sound, divides_complete}
use Rattle.lists.specs.Members.{◌∈◌, all_map}
use Rattle.factorisation.specs.MemberProducts.{member_divides}
use Rattle.factorisation.specs.MonicDivisors.{monic_degree}
use Rattle.factorisation.specs.UniqueFactorisation.{power, PowersOf}
use Rattle.factorisation.proofs.PrimaryParts.{Lifts, primary_parts, primary_part_unique}
use Rattle.items.specs.MonicLists.{MonicList, list, poly_list, from_claimed, list_monic, monic_poly, monic_same}
use Rattle.items.specs.MonicDivision.{Divides, monic_list_pow, monic_list_product}
use Rattle.items.specs.Factorisations.{monic_equal}
use Rattle.items.specs.Reductions.{coefficients, barred, bar_reduce, lifts_member, lifts_has}
use Rattle.items.specs.PowersSame.{pair, as_powers_of}

module _ (p : ℕ) (prime : Prime p) {d : ℕ} {f : spec.Poly} (mf : MonicList (p ²) d f) {Ps : List Power}
    (items : items1to3.PowersInAnyOrder p (spec.reduce p f) Ps) where
  large : 1 < p
  large = prime.large

  abbrev large² : 1 < p ²
  large² = square_large p large

  abbrev F : ℤ[x]/ (p ²)
  F = poly (p ²) f

  bar_powers : PowersOf (barred p large F) (map (pair p prime) Ps)
  bar_powers = rw (bar_reduce p large f) (as_powers_of p prime items)

  lift_one : (coefficients p large).lift (Residues p).𝟙 ≡ (Residues (p ²)).𝟙
  lift_one =
      residue_lift p (omega (arith, large)) (Residues p).𝟙
      ∙ ap (residue (p ²)) (ap (λ (c : ℤ/ p). c.value) (sym (residue_one p)) ∙ value_residue p (prime_pos prime) 1 ∙ mod-eq_of_lt large)
      ∙ residue_one (p ²)

  -- the parts over ℤ/p²
  parts : (L : List (ℤ[x]/ (p ²))) × Lifts (coefficients p large) F (map power (map (pair p prime) Ps)) L
  parts = primary_parts (coefficients p large) (residue_field p prime) (residue_discrete (p ²)) lift_one (d, monic_poly mf) bar_powers

  -- a divisor of F times its cofactor
  times : (X : ℤ[x]/ (p ²)) (v : ◌∣◌ (𝓩[x]/ (p ²)) X F) → X · v.0 ≡ F
  times X v = (𝓩[x]/ (p ²)).*_comm X v.0 ∙ v.1

  -- one power of the list
  module _ (P : Power) (i : P ∈ Ps) where
    -- G, and the degree of G^m
    m_g : MonicList p (spec.degree P.base) P.base
    m_g = from_claimed (prime_pos prime) (items.irreducible P i).monic

    abbrev pub D : ℕ
    D = P.exponent * spec.degree P.base

    pub m_power : MonicList p D (items1to3.power_of p P)
    m_power = monic_list_pow large m_g P.exponent

    pub positive : 1 ≤ D
    positive = mul-pos (items.positive P i) (items.irreducible P i).monic.positive

    -- what item 2 asks of a list, in the form that is used
    pub record IsPart (q : spec.Poly) : Type 0 where
      pub monic : MonicList (p ²) D q
      pub bar : spec.reduce p q ≡ items1to3.power_of p P
      pub divides : Divides (p ²) q f

    bar_power : (q : spec.Poly) → spec.reduce p q ≡ items1to3.power_of p P → barred p large (poly (p ²) q) ≡ power (pair p prime P)
    bar_power q e =
        bar_reduce p large q ∙ ap (poly p) e ∙ poly_pow p (prime_pos prime) P.base P.exponent

    monic_power : Monic D (power (pair p prime P))
    monic_power = rw (← poly_pow p (prime_pos prime) P.base P.exponent) (monic_poly m_power)

    -- a polynomial with that bar, as a list
    part_list : (X : ℤ[x]/ (p ²)) → Monic D X → barred p large X ≡ power (pair p prime P) → ◌∣◌ (𝓩[x]/ (p ²)) X F → IsPart (list (suc D) X)
    part_list X m_x e v = record {
      monic = mq;
      bar = same_list
          (record { len = length_reduce p (list (suc D) X) ∙ mq.reduced.len; low = low_reduce p (prime_pos prime) (list (suc D) X) })
          m_power.reduced
          (sym (bar_reduce p large (list (suc D) X)) ∙ ap (barred p large) back ∙ e ∙ sym (poly_pow p (prime_pos prime) P.base P.exponent));
      divides = rw back v;
    }
      where
        mq : MonicList (p ²) D (list (suc D) X)
        mq = list_monic large² m_x

        back : poly (p ²) (list (suc D) X) ≡ X
        back = poly_list (suc D) X m_x.below

    -- there is one
    some_part : (q : spec.Poly) × IsPart q
    some_part =
        let (X, k, e) = Memᴰ.of_map (barred p large) parts.0
        (subst (λ l. power (pair p prime P) ∈ l) (sym parts.1.bars) (Memᴰ.map power (Memᴰ.map (pair p prime) i))) in
        let (j, m_x) = parts.1.monic X k in
        let same : j ≡ D = monic_degree (residue_nontrivial large) (rw e at (monic_map (coefficients p large).hom m_x)) monic_power in
        (list (suc D) X, part_list X (rw same at m_x) e (rw parts.1.multiplies at (member_divides (𝓩[x]/ (p ²)) k)))

    pub primary_is : IsPart (primary p f P)
    unfolding primary
    primary_is =
        let (q, h) = some_part in
        let (j, t) = first_passes (λ (q : spec.Poly). spec.divides (p ²) q f) f (lifts p (items1to3.power_of p P))
        (lifts_has p large m_power q h.monic h.bar)
        (divides_complete (p ²) (omega (arith, large²)) D q h.monic.reduced.len (monic_poly h.monic) f h.divides) in
        let (m, b) = lifts_member p large m_power j in
        record { monic = m; bar = b; divides = divides_sound (p ²) (omega (arith, large²)) D (primary p f P) m.reduced.len (monic_poly m) f t }

    pub part_only_lem : (q : spec.Poly) → IsPart q → q ≡ primary p f P
    part_only_lem q h =
        monic_same refl h.monic primary_is.monic
        (primary_part_unique (coefficients p large) (residue_field p prime) bar_powers (pair p prime P) (Memᴰ.map (pair p prime) i)
        (D, monic_poly h.monic) (D, monic_poly primary_is.monic) (bar_power q h.bar) (bar_power (primary p f P) primary_is.bar)
        h.divides.0 primary_is.divides.0 (times _ h.divides) (times _ primary_is.divides))

  -- ---- all parts

  -- lists that agree in their bars agree, where each bar determines the polynomial
  all_equal : (L : List (ℤ[x]/ (p ²))) (Qs : List Power) (φ : Power → ℤ[x]/ p) (ψ : Power → ℤ[x]/ (p ²))
      → map (barred p large) L ≡ map φ Qs → ((X : ℤ[x]/ (p ²)) (Q : Power) → X ∈ L → Q ∈ Qs → barred p large X ≡ φ Q → X ≡ ψ Q) → L ≡ map ψ Qs
  all_equal [] [] φ ψ e h = refl
  all_equal [] (Q ∷ Qs) φ ψ e h = absurd (cons-ne-nil _ _ (sym e))
  all_equal (X ∷ L) [] φ ψ e h = absurd (cons-ne-nil _ _ e)
  all_equal (X ∷ L) (Q ∷ Qs) φ ψ e h =
      ap₂ ◌∷◌ (h X Q (here refl) (here refl) (head-eq_of_cons-eq e)) (all_equal L Qs φ ψ (tail-eq_of_cons-eq e) (λ Y R i j. h Y R (there i) (there j)))

  pub parts_multiply_lem : spec.product (p ²) (map (primary p f) Ps) ≡ f
  parts_multiply_lem =
      let (j, m) = monic_list_product large² (map (primary p f) Ps)
      (all_map (λ q. (e : ℕ) × MonicList (p ²) e q) (primary p f) Ps (λ P i. (D P i, (primary_is P i).monic))) in
      monic_equal large² m mf poly_is
    where
      one : (X : ℤ[x]/ (p ²)) (Q : Power) → X ∈ parts.0 → Q ∈ Ps → barred p large X ≡ power (pair p prime Q) → X ≡ poly (p ²) (primary p f Q)
      one X Q k i e =
          let v = rw parts.1.multiplies at (member_divides (𝓩[x]/ (p ²)) k) in
          let h = primary_is Q i in
          primary_part_unique (coefficients p large) (residue_field p prime) bar_powers (pair p prime Q) (Memᴰ.map (pair p prime) i)
          (parts.1.monic X k) (D Q i, monic_poly h.monic) e (bar_power Q i (primary p f Q) h.bar)
          v.0 h.divides.0 (times X v) (times _ h.divides)

      poly_is : poly (p ²) (spec.product (p ²) (map (primary p f) Ps)) ≡ poly (p ²) f
      poly_is =
          poly_product (p ²) (omega (arith, large²)) (map (primary p f) Ps)
          ∙ ap (product (𝓩[x]/ (p ²)))
          (map-map (poly (p ²)) (primary p f) Ps
          ∙ sym (all_equal parts.0 Ps (λ Q. power (pair p prime Q)) (λ Q. poly (p ²) (primary p f Q)) (parts.1.bars
          ∙ map-map power (pair p prime) Ps) one))
          ∙ parts.1.multiplies
