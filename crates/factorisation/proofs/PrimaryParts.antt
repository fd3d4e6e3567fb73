-- Lifting a factorisation into any number of coprime monic factors, and the primary parts of f: monic, with the bars G^m, product f.
-- Proves that they exist, and that only one monic divisor of f has the bar G^m. Assumes nothing.
use Rattle.std.specs.Prelude.{◌≡◌, refl, List, [], ◌∷◌, map, ◌≢◌, ℕ}
use Rattle.std.proofs.Common.{sym, ◌∙◌, ap}
use Rattle.std.proofs.Math.Path.{◌≡⟨◌⟩◌, ◌∎}
use mathlib.Core.List.Memᴰ
use mathlib.Core.List.Memᴰ.{head as here}
use Rattle.algebra.specs.Ring.{CommRing}
use Rattle.algebra.specs.Divisibility.{Coprime, product, product_nil, product_cons}
use Rattle.algebra.specs.PolynomialRing.{Poly, PolyRing, ◌·◌}
use Rattle.algebra.specs.Degree.{Monic, monic_one_lem, monic_zero, monic_pow}
use Rattle.algebra.specs.Fields.{Field}
use Rattle.algebra.specs.Homomorphisms.{map_homomorphism, monic_map}
use Rattle.algebra.specs.Extension.{Extension}
use Rattle.lists.specs.Members.{◌∈◌, All, all_cons, all_tail}
use Rattle.lists.specs.InOrder.{InOrder}
use Rattle.factorisation.specs.MonicDivisors.{IsMonic, monic_degree, monic_cancel_eq}
use Rattle.factorisation.specs.Irreducible.{Irreducible}
use Rattle.factorisation.specs.UniqueFactorisation.{power, PowersOf, Others, power_coprime}
use Rattle.factorisation.proofs.UniqueFactorisation.{coprime_powers, others}
use Rattle.factorisation.specs.Lifting.{reduce, LiftedPair, lift_two, part_unique}

-- monic, and each coprime to the product of those that follow
abbrev CoprimeMonics : {R : Type 0} {𝓡 : CommRing R} → List (Poly 𝓡) → Type 0
CoprimeMonics [] = Unit {0}
CoprimeMonics {𝓡 = 𝓡} (X ∷ l) = IsMonic X × Coprime (PolyRing 𝓡) X (product (PolyRing 𝓡) l) × CoprimeMonics l

module _ {A B : Type 0} {𝓐 : CommRing A} {𝓑 : CommRing B} {bar : A → B} (E : Extension 𝓐 𝓑 bar) where
  -- monic polynomials with the bars l that multiply to f
  pub record Lifts (f : Poly 𝓐) (l : List (Poly 𝓑)) (L : List (Poly 𝓐)) : Type 0 where
    pub monic : All IsMonic L
    pub bars : map (reduce E) L ≡ l
    pub multiplies : product (PolyRing 𝓐) L ≡ f

  module _ (nontrivial : 𝓑.𝟙 ≢ 𝓑.𝟘) where
    lift_nil : {n : ℕ} {f : Poly 𝓐} → Monic n f → product (PolyRing 𝓑) [] ≡ reduce E f → Lifts f [] []
    lift_nil {n} {f} m e = record {
      monic = λ P i. absurd (Memᴰ.not-nil i);
      bars = refl;
      multiplies = product_nil (PolyRing 𝓐) ∙ sym (monic_zero (rw same at m));
    }
      where
        same : n ≡ 0
        same = monic_degree nontrivial (monic_map E.hom m) (rw (← e, product_nil (PolyRing 𝓑)) monic_one_lem)

    lift_cons : {d : ℕ} {f : Poly 𝓐} {X : Poly 𝓑} {l : List (Poly 𝓑)} {L : List (Poly 𝓐)} (t : LiftedPair E d f X (product (PolyRing 𝓑) l))
        → Lifts t.b l L → Lifts f (X ∷ l) (t.a ∷ L)
    lift_cons {d} {L = L} t h = record {
      monic = all_cons (d, t.monic_a) h.monic;
      bars = λ i. t.bar_a i ∷ h.bars i;
      multiplies = product_cons (PolyRing 𝓐) t.a L ∙ ap (λ c. t.a · c) h.multiplies ∙ t.multiplies;
    }

    lifts : Discrete A → E.lift 𝓑.𝟙 ≡ 𝓐.𝟙 → (l : List (Poly 𝓑)) → CoprimeMonics l → {f : Poly 𝓐} → IsMonic f
        → product (PolyRing 𝓑) l ≡ reduce E f → (L : List (Poly 𝓐)) × Lifts f l L
    lifts decide lift_one [] c m e = ([], lift_nil m.1 e)
    lifts decide lift_one (X ∷ l) (m_x, c, cs) {f} m e =
        let t = lift_two E nontrivial decide lift_one m.1 m_x.1 (sym e ∙ product_cons (PolyRing 𝓑) X l) c in
        let (L, h) = lifts decide lift_one l cs t.monic_b (sym t.bar_b) in
        (t.a ∷ L, lift_cons t h)

-- ---- primary parts

module _ {R : Type 0} {𝓡 : CommRing R} (field : Field 𝓡) where
  first_coprime : (P : Poly 𝓡 × ℕ) (l : List (Poly 𝓡 × ℕ)) → Irreducible P.0 → All (λ Q. Irreducible Q.0) l
      → All (λ Q. P.0 ≢ Q.0) l → Coprime (PolyRing 𝓡) (power P) (product (PolyRing 𝓡) (map power l))
  first_coprime P l I h n = power_coprime P (coprime_powers field I l h n)

  powers_coprime : (l : List (Poly 𝓡 × ℕ)) → All (λ P. Irreducible P.0) l → InOrder (λ P Q. P.0 ≢ Q.0) l
      → CoprimeMonics (map power l)
  powers_coprime [] h n = tt
  powers_coprime (P ∷ l) h (n, ns) = (
    (_, monic_pow (h P (here refl)).monic P.1),
    first_coprime P l (h P (here refl)) (all_tail h) n,
    powers_coprime l (all_tail h) ns,
  )

module _ {A B : Type 0} {𝓐 : CommRing A} {𝓑 : CommRing B} {bar : A → B} (E : Extension 𝓐 𝓑 bar) (field : Field 𝓑) where
  pub primary_parts : Discrete A → E.lift 𝓑.𝟙 ≡ 𝓐.𝟙 → {f : Poly 𝓐} {l : List (Poly 𝓑 × ℕ)} → IsMonic f → PowersOf (reduce E f) l
      → (L : List (Poly 𝓐)) × Lifts E f (map power l) L
  primary_parts decide lift_one {l = l} m l-is =
      lifts E field.one_ne_zero decide lift_one (map power l) (powers_coprime field l l-is.irreducible l-is.different) m l-is.multiplies

  -- P and P' divide f, with the cofactors C and C'
  pub primary_part_unique : {f : Poly 𝓐} {l : List (Poly 𝓑 × ℕ)} → PowersOf (reduce E f) l → (Q : Poly 𝓑 × ℕ) → Q ∈ l
      → {P P' : Poly 𝓐} → IsMonic P → IsMonic P' → reduce E P ≡ power Q → reduce E P' ≡ power Q
      → (C C' : Poly 𝓐) → P · C ≡ f → P' · C' ≡ f → P ≡ P'
  primary_part_unique {f} l-is Q i {P} m m' b b' C C' e e' =
      part_unique E field.one_ne_zero C C' m.1 m'.1 (e ∙ sym e') (b ∙ sym b') (rw (b, cofactor) (power_coprime Q t.coprime))
    where
      t : Others Q (reduce E f)
      t = others field l-is Q i

      cofactor : reduce E C ≡ t.rest
      cofactor = monic_cancel_eq (monic_map E.hom m.1) same
        where
          same : reduce E C · reduce E P ≡ t.rest · reduce E P
          same =
              reduce E C · reduce E P ≡⟨ (PolyRing 𝓑).*_comm (reduce E C) (reduce E P) ⟩
              reduce E P · reduce E C ≡⟨ sym ((map_homomorphism E.hom).keeps_mul P C) ⟩
              reduce E (P · C) ≡⟨ ap (reduce E) e ⟩
              reduce E f ≡⟨ sym t.multiplies ⟩
              power Q · t.rest ≡⟨ ap (λ X. X · t.rest) (sym b) ⟩
              reduce E P · t.rest ≡⟨ (PolyRing 𝓑).*_comm (reduce E P) t.rest ⟩
              t.rest · reduce E P ∎
