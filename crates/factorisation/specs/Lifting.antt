-- Lifting a factorisation into coprime factors along a square-zero extension of the coefficients.
-- Proves that f = a·b with monic a, b wherever the bar of f is A·B with A monic and coprime to B, that such factors are unique, and that a
-- monic divisor of f is determined by its bar where that is coprime to the cofactor's. Assumes nothing.
use Rattle.std.specs.Prelude.{◌≡◌, ◌≢◌, ℕ}
use Rattle.std.proofs.Common.{sym, ◌∙◌, ap, ap₂}
use Rattle.std.proofs.Math.Path.{◌≡⟨◌⟩◌, ◌∎}
use Rattle.algebra.specs.Ring.{CommRing, linear3}
use Rattle.algebra.specs.Identities.{con, ◌⊕◌, ◌⊖◌, ◌⊗◌, ◌≈◌, solve}
use Rattle.algebra.specs.Divisibility.{Coprime, gauss}
use Rattle.algebra.specs.PolynomialRing.{Poly, PolyRing, ◌+ᴿ◌, ◌·◌, -ᴿ◌, 𝟎, 𝟏}
use Rattle.algebra.specs.Degree.{Monic, below_𝟎, monic_add}
use Rattle.algebra.specs.Division.{Divided, divided_unique}
use Rattle.algebra.specs.Leading.{divide, monic_cofactor}
use Rattle.algebra.specs.Homomorphisms.{keeps_zero, map_poly, map_homomorphism, below_map, monic_map}
use Rattle.algebra.specs.Extension.{Extension, poly_extension}
use Rattle.factorisation.specs.PolynomialExtension.{monic_lift}
use Rattle.factorisation.specs.Kernel.{kernel_sub, kernel_multiple, bar_add_kernel, kernel_mul}
use Rattle.factorisation.specs.ExtensionLaws.{coprime_lift}
use Rattle.factorisation.specs.MonicDivisors.{IsMonic, monic_cancel_eq, monic_antisym}

module _ {A B : Type 0} {𝓐 : CommRing A} {𝓑 : CommRing B} {bar : A → B} (E : Extension 𝓐 𝓑 bar) where
  -- the bar of a polynomial
  abbrev pub reduce : Poly 𝓐 → Poly 𝓑
  reduce = map_poly E.hom

  -- f = a·b over 𝓐, with the bars X and Y
  pub record LiftedPair (d : ℕ) (f : Poly 𝓐) (X Y : Poly 𝓑) : Type 0 where
    pub a : Poly 𝓐
    pub b : Poly 𝓐
    pub monic_a : Monic d a
    pub monic_b : IsMonic b
    pub bar_a : reduce a ≡ X
    pub bar_b : reduce b ≡ Y
    pub multiplies : a · b ≡ f

  module _ (nontrivial : 𝓑.𝟙 ≢ 𝓑.𝟘) where
    nontrivial_above : 𝓐.𝟙 ≢ 𝓐.𝟘
    nontrivial_above e = nontrivial (sym E.hom.keeps_one ∙ ap bar e ∙ keeps_zero E.hom)

    -- x·y, where s·x + t·y = 1, misses f by z = f − x·y, whose bar is 𝟎. Divide z·t by x: it is q·x + r, and the bars of q and r are 𝟎 too.
    -- Then f = (x + r)·(y + (z·s + q·y)), since a product of two elements with bar 𝟎 is 𝟎.
    lift_step : Discrete A → {d n : ℕ} {f x y : Poly 𝓐} → Monic n f → Monic d x → Coprime (PolyRing 𝓐) x y → reduce f ≡ reduce (x · y)
        → LiftedPair d f (reduce x) (reduce y)
    lift_step decide {d} {n} {f} {x} {y} mf mx c e = make (divide decide mx (z · c.v))
      where
        P : Extension (PolyRing 𝓐) (PolyRing 𝓑) reduce
        P = poly_extension E

        z : Poly 𝓐
        z = f +ᴿ -ᴿ (x · y)

        make : Divided d x (z · c.v) → LiftedPair d f (reduce x) (reduce y)
        make D = record {
          a = x +ᴿ r;
          b = b;
          monic_a = monic_a_lem;
          monic_b = let t = monic_cofactor decide nontrivial_above b (x +ᴿ r) monic_a_lem whole in (t.0, t.1);
          bar_a = bar_add_kernel P x bars.1;
          bar_b = bar_add_kernel P y small;
          multiplies = law;
        }
          where
            q : Poly 𝓐
            q = D.quotient

            r : Poly 𝓐
            r = D.remainder

            b : Poly 𝓐
            b = y +ᴿ (z · c.u +ᴿ q · y)

            monic_a_lem : Monic d (x +ᴿ r)
            monic_a_lem = monic_add mx D.small

            nothing : reduce q · reduce x +ᴿ reduce r ≡ 𝟎 · reduce x +ᴿ 𝟎
            nothing =
                reduce q · reduce x +ᴿ reduce r ≡⟨ ap (λ w. w +ᴿ reduce r) (sym (P.hom.keeps_mul q x)) ⟩
                reduce (q · x) +ᴿ reduce r ≡⟨ sym (P.hom.keeps_add (q · x) r) ⟩
                reduce (q · x +ᴿ r) ≡⟨ ap reduce D.law ⟩
                reduce (z · c.v) ≡⟨ kernel_multiple P c.v (kernel_sub P e) ⟩
                𝟎 ≡⟨ solve (PolyRing 𝓑) 1 (λ x. con 0 ≈ con 0 ⊗ x ⊕ con 0) tt (reduce x) ⟩
                𝟎 · reduce x +ᴿ 𝟎 ∎

            bars : (reduce q ≡ 𝟎) × (reduce r ≡ 𝟎)
            bars =
                divided_unique (monic_map E.hom mx) (reduce q) (reduce r) 𝟎 𝟎 (below_map E.hom D.small) (below_𝟎 d) nothing

            small : reduce (z · c.u +ᴿ q · y) ≡ 𝟎
            small =
                bar_add_kernel P (z · c.u) (kernel_multiple P y bars.0) ∙ kernel_multiple P c.u (kernel_sub P e)

            law : (x +ᴿ r) · b ≡ f
            law =
                linear3 (PolyRing 𝓐) y 𝟏 z D.law (kernel_mul P bars.1 small) c.law
                (solve (PolyRing 𝓐) 7
                (λ x y f s t q r.
                (x ⊕ r) ⊗ (y ⊕ ((f ⊖ x ⊗ y) ⊗ s ⊕ q ⊗ y)) ⊖ f
                ≈ y ⊗ (q ⊗ x ⊕ r ⊖ (f ⊖ x ⊗ y) ⊗ t) ⊕ con 1 ⊗ (r ⊗ ((f ⊖ x ⊗ y) ⊗ s ⊕ q ⊗ y) ⊖ con 0)
                ⊕ (f ⊖ x ⊗ y) ⊗ (s ⊗ x ⊕ t ⊗ y ⊖ con 1)) tt x y f c.u c.v q r)

            whole : Monic n (b · (x +ᴿ r))
            whole = rw ((PolyRing 𝓐).*_comm b (x +ᴿ r) ∙ law) mf

    pub lift_two : Discrete A → E.lift 𝓑.𝟙 ≡ 𝓐.𝟙 → {d n : ℕ} {f : Poly 𝓐} {X Y : Poly 𝓑}
        → Monic n f → Monic d X → reduce f ≡ X · Y → Coprime (PolyRing 𝓑) X Y → LiftedPair d f X Y
    lift_two decide lift_one {f = f} {X} {Y} mf m_x e c =
        rw (P.bar_lift X, P.bar_lift Y) at
        (lift_step decide mf (monic_lift E lift_one m_x) (coprime_lift P (rw (P.bar_lift X, P.bar_lift Y) c)) (e ∙ sym bars))
      where
        P : Extension (PolyRing 𝓐) (PolyRing 𝓑) reduce
        P = poly_extension E

        bars : reduce (P.lift X · P.lift Y) ≡ X · Y
        bars = P.hom.keeps_mul (P.lift X) (P.lift Y) ∙ ap₂ ◌·◌ (P.bar_lift X) (P.bar_lift Y)

    -- the bars matter only in so far as they are coprime
    pub lift_unique : {d e : ℕ} {a a' : Poly 𝓐} (b b' : Poly 𝓐) → Monic d a → Monic e a' → a · b ≡ a' · b'
        → Coprime (PolyRing 𝓑) (reduce a) (reduce b') → Coprime (PolyRing 𝓑) (reduce a') (reduce b) → a ≡ a'
    lift_unique {a = a} {a'} b b' m m' e c c' =
        monic_antisym nontrivial_above m m'
        (gauss (PolyRing 𝓐) (coprime_lift (poly_extension E) c) (b, (PolyRing 𝓐).*_comm b a ∙ e))
        (gauss (PolyRing 𝓐) (coprime_lift (poly_extension E) c') (b', (PolyRing 𝓐).*_comm b' a' ∙ sym e))

    -- "exactly one": P and P' divide f with the cofactors C and C'
    pub part_unique : {d e : ℕ} {P P' : Poly 𝓐} (C C' : Poly 𝓐) → Monic d P → Monic e P' → P · C ≡ P' · C' → reduce P ≡ reduce P'
        → Coprime (PolyRing 𝓑) (reduce P) (reduce C) → P ≡ P'
    part_unique {P = P} {P'} C C' m m' e same c = lift_unique C C' m m' e (rw cofactors at c) (rw same at c)
      where
        times : (a b : Poly 𝓐) → reduce (a · b) ≡ reduce b · reduce a
        times a b = (map_homomorphism E.hom).keeps_mul a b ∙ (PolyRing 𝓑).*_comm (reduce a) (reduce b)

        cofactors : reduce C ≡ reduce C'
        cofactors =
            monic_cancel_eq (monic_map E.hom m)
            (sym (times P C) ∙ ap reduce e ∙ times P' C' ∙ ap (λ b. reduce C' · b) (sym same))
