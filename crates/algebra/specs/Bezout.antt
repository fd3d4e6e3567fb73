-- Polynomials over a field: Euclid's algorithm.
-- Proves Bézout: two polynomials, not both 𝟎, have a monic common divisor that is a combination of them. Assumes nothing.
use Rattle.std.specs.Prelude.{◌≡◌, ◌⊎◌, ◌≢◌, ℕ, zero, suc}
use Rattle.std.proofs.Common.{sym, ◌∙◌, ap, inl, inr, ⊎_elim, arith}
use Rattle.algebra.specs.Ring.{CommRing, ring, mul_zero}
use Rattle.algebra.specs.Identities.{◌⊕◌, ◌⊖◌, ◌⊗◌, ◌≈◌, solve}
use Rattle.algebra.specs.Divisibility.{◌∣◌, Coprime, divides_refl, divides_mul, divides_add, divides_trans}
use Rattle.algebra.specs.PolynomialRing.{Poly, PolyRing, ◌+ᴿ◌, ◌·◌, -ᴿ◌, 𝟎, 𝟏, constant, constant_unit, coef_constant_mul}
use Rattle.algebra.specs.Degree.{Below, Monic, below_up, below_zero, below_constant_mul}
use Rattle.algebra.specs.Leading.{Leading, leading, bound, divide, degree_below}
use Rattle.algebra.specs.Fields.{Field}

module _ {R : Type 0} {𝓡 : CommRing R} where
  -- a common divisor that is a combination
  pub record Bezout (a b : Poly 𝓡) : Type 0 where
    pub gcd : Poly 𝓡
    pub u : Poly 𝓡
    pub v : Poly 𝓡
    pub combination : u · a +ᴿ v · b ≡ gcd
    pub left : ◌∣◌ (PolyRing 𝓡) gcd a
    pub right : ◌∣◌ (PolyRing 𝓡) gcd b

  pub bezout_coprime : {a b : Poly 𝓡} (z : Bezout a b) → z.gcd ≡ 𝟏 → Coprime (PolyRing 𝓡) a b
  bezout_coprime z e = record { u = z.u; v = z.v; law = z.combination ∙ e }

  module _ (field : Field 𝓡) where
    -- a nonzero polynomial is a constant with an inverse times a monic one
    record MonicMultiple (d : ℕ) (a : Poly 𝓡) : Type 0 where
      c : Poly 𝓡
      inverse : Poly 𝓡
      unit : inverse · c ≡ 𝟏
      monic : Monic d (c · a)

    monic_multiple : (a : Poly 𝓡) (t : Leading a) → MonicMultiple t.degree a
    monic_multiple a t =
        let i = field.inverse (a.coef t.degree) t.nonzero in
        record {
          c = constant i.0;
          inverse = constant (a.coef t.degree);
          unit = constant_unit 𝓡 i.1;
          monic = record {
            leading = coef_constant_mul i.0 a t.degree ∙ 𝓡.*_comm i.0 (a.coef t.degree) ∙ i.1;
            below = below_constant_mul i.0 t.below;
          };
        }

    multiple_back : (i c a : Poly 𝓡) → i · c ≡ 𝟏 → i · (c · a) ≡ a
    multiple_back i c a unit = sym ((PolyRing 𝓡).*_assoc i c a) ∙ ap (λ y. y · a) unit ∙ (PolyRing 𝓡).*_one a

    multiple_of_zero : {g a : Poly 𝓡} → ◌∣◌ (PolyRing 𝓡) g a → g ≡ 𝟎 → a ≡ 𝟎
    multiple_of_zero (q, e) z = sym e ∙ ap (λ y. q · y) z ∙ mul_zero (PolyRing 𝓡) q

    bezout_zero : (a b : Poly 𝓡) → b ≡ 𝟎 → Bezout a b
    bezout_zero a b e = record {
      gcd = a;
      u = 𝟏;
      v = 𝟎;
      combination = simp ring;
      left = divides_refl (PolyRing 𝓡) a;
      right = (𝟎, simp ring (sym e));
    }

    -- a divided by the monic multiple c·b leaves r
    bezout_step : (a b c i q r : Poly 𝓡) → i · c ≡ 𝟏 → q · (c · b) +ᴿ r ≡ a → Bezout (c · b) r → Bezout a b
    bezout_step a b c i q r unit law z = record {
      gcd = z.gcd;
      u = z.v;
      v = (z.u +ᴿ -ᴿ (z.v · q)) · c;
      combination = ap (λ y. z.v · y +ᴿ (z.u +ᴿ -ᴿ (z.v · q)) · c · b) (sym law)
          ∙ solve (PolyRing 𝓡) 6 (λ v q c b r u. v ⊗ (q ⊗ (c ⊗ b) ⊕ r) ⊕ (u ⊖ v ⊗ q) ⊗ c ⊗ b ≈ u ⊗ (c ⊗ b) ⊕ v ⊗ r) tt z.v q c b r z.u
          ∙ z.combination;
      left = rw (← law) (divides_add (PolyRing 𝓡) (divides_mul (PolyRing 𝓡) q z.left) z.right);
      right = rw (← multiple_back i c b unit) (divides_mul (PolyRing 𝓡) i z.left);
    }

    bezout_from : (n : ℕ) (a b : Poly 𝓡) → Below n b → Bezout a b
    bezout_from zero a b h = bezout_zero a b (below_zero h)
    bezout_from (suc n) a b h = go (leading field.decide b) (λ a' b'. bezout_from n a' b')
      where
        go : (b ≡ 𝟎) ⊎ Leading b → ((a' b' : Poly 𝓡) → Below n b' → Bezout a' b') → Bezout a b
        go (inl e) f = bezout_zero a b e
        go (inr t) f =
            let m = monic_multiple b t in
            let D = divide field.decide m.monic a in
            bezout_step a b m.c m.inverse D.quotient D.remainder m.unit D.law
            (f (m.c · b) D.remainder (below_up (omega (arith, degree_below t h)) D.small))

    bezout : (a b : Poly 𝓡) → Bezout a b
    bezout a b = let B = bound field.decide b in bezout_from B.0 a b B.1

    -- Bézout with a monic divisor
    pub record MonicBezout (a b : Poly 𝓡) : Type 0 where
      pub degree : ℕ
      pub combined : Bezout a b
      pub monic : Monic degree combined.gcd

    pub bezout_monic : (a b : Poly 𝓡) → (a ≢ 𝟎) ⊎ (b ≢ 𝟎) → MonicBezout a b
    bezout_monic a b ne = go (bezout a b)
      where
        go : Bezout a b → MonicBezout a b
        go z = at (leading field.decide z.gcd)
          where
            none : z.gcd ≡ 𝟎 → ⊥
            none e =
                ⊎_elim (λ k. k (multiple_of_zero z.left e)) (λ k. k (multiple_of_zero z.right e)) ne

            at : (z.gcd ≡ 𝟎) ⊎ Leading z.gcd → MonicBezout a b
            at (inl e) = absurd (none e)
            at (inr t) =
                let m = monic_multiple z.gcd t in
                let back : ◌∣◌ (PolyRing 𝓡) (m.c · z.gcd) z.gcd = (m.inverse, multiple_back m.inverse m.c z.gcd m.unit) in
                record {
                  degree = t.degree;
                  combined = record {
                    gcd = m.c · z.gcd;
                    u = m.c · z.u;
                    v = m.c · z.v;
                    combination = solve (PolyRing 𝓡) 5 (λ c u v a b. c ⊗ u ⊗ a ⊕ c ⊗ v ⊗ b ≈ c ⊗ (u ⊗ a ⊕ v ⊗ b)) tt m.c z.u z.v a b
                        ∙ ap (λ g. m.c · g) z.combination;
                    left = divides_trans (PolyRing 𝓡) back z.left;
                    right = divides_trans (PolyRing 𝓡) back z.right;
                  };
                  monic = m.monic;
                }
