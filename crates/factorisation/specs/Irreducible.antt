-- Irreducible polynomials over a field: monic, of degree 1 or more, and not a product of two such.
-- Proves that there are no zero divisors, that a monic divisor of an irreducible polynomial is 𝟏 or it, and that an irreducible polynomial
-- is a prime element. Assumes nothing.
use Rattle.std.specs.Prelude.{◌≡◌, ◌⊎◌, ◌≢◌, ℕ, zero, suc, ◌≤◌, ◌+◌}
use Rattle.std.proofs.Common.{sym, ◌∙◌, ap, inl, inr, arith}
use Rattle.algebra.specs.Ring.{CommRing}
use Rattle.algebra.specs.Divisibility.{◌∣◌, Coprime}
use Rattle.algebra.specs.PolynomialRing.{Poly, PolyRing, ◌·◌, 𝟎, 𝟏, coef_zero}
use Rattle.algebra.specs.Degree.{Monic, coef_top, monic_one_lem, monic_zero, monic_cancel}
use Rattle.algebra.specs.Leading.{Leading, leading, monic_cofactor}
use Rattle.algebra.specs.Fields.{Field, field_cancel}
use Rattle.algebra.specs.Bezout.{MonicBezout, bezout_coprime, bezout_monic}
use Rattle.factorisation.specs.PrimeElements.{PrimeElement}
use Rattle.factorisation.specs.MonicDivisors.{monic_nonzero, divisor_degree}

-- "degree 1 or more, and not a product of two polynomials of degree 1 or more (both monic, where it is monic)"
pub record Irreducible {R : Type 0} {𝓡 : CommRing R} (G : Poly 𝓡) : Type 0 where
  pub degree : ℕ
  pub positive : 1 ≤ degree
  pub monic : Monic degree G
  pub no_product : {d e : ℕ} {a b : Poly 𝓡} → Monic d a → Monic e b → 1 ≤ d → 1 ≤ e → a · b ≢ G

module _ {R : Type 0} {𝓡 : CommRing R} (field : Field 𝓡) where
  pub no_zero_divisors : (a b : Poly 𝓡) → a · b ≡ 𝟎 → (a ≡ 𝟎) ⊎ (b ≡ 𝟎)
  no_zero_divisors a b e = go (leading field.decide a) (leading field.decide b)
    where
      go : (a ≡ 𝟎) ⊎ Leading a → (b ≡ 𝟎) ⊎ Leading b → (a ≡ 𝟎) ⊎ (b ≡ 𝟎)
      go (inl z) t = inl z
      go (inr s) (inl z) = inr z
      go (inr s) (inr t) = absurd (t.nonzero (field_cancel field s.nonzero top))
        where
          top : 𝓡.mul (a.coef s.degree) (b.coef t.degree) ≡ 𝓡.𝟘
          top =
              sym (coef_top s.below t.below) ∙ ap (λ c. c.coef (s.degree + t.degree)) e ∙ coef_zero 𝓡 (s.degree + t.degree)

  pub monic_divisor : {k : ℕ} {g G : Poly 𝓡} → Irreducible G → Monic k g → ◌∣◌ (PolyRing 𝓡) g G → (g ≡ 𝟏) ⊎ (g ≡ G)
  monic_divisor {k = zero} I m d = inl (monic_zero m)
  monic_divisor {k = suc k} {g} {G} I m (u, e) = go (monic_cofactor field.decide field.one_ne_zero u g m (rw e I.monic))
    where
      go : (j : ℕ) × Monic j u × (j + suc k ≡ I.degree) → (g ≡ 𝟏) ⊎ (g ≡ G)
      go (zero, n, l) = inr (sym ((PolyRing 𝓡).*_one g) ∙ ap (λ w. w · g) (sym (monic_zero n)) ∙ e)
      go (suc j, n, l) = absurd (I.no_product n m (omega arith) (omega arith) e)

  -- the monic common divisor of G and a is 𝟏 or G
  pub irreducible_prime : {G : Poly 𝓡} → Irreducible G → PrimeElement (PolyRing 𝓡) G
  irreducible_prime {G} I = record {
    test = λ a. test a (bezout_monic field G a (inl (monic_nonzero field.one_ne_zero I.monic)));
    cancel = monic_cancel I.monic;
    nonunit = λ d. let p = I.positive in omega (arith, divisor_degree field.one_ne_zero I.monic monic_one_lem d);
  }
    where
      test : (a : Poly 𝓡) → MonicBezout field G a → (◌∣◌ (PolyRing 𝓡) G a) ⊎ Coprime (PolyRing 𝓡) G a
      test a z = go (monic_divisor I z.monic z.combined.left)
        where
          go : (z.combined.gcd ≡ 𝟏) ⊎ (z.combined.gcd ≡ G) → (◌∣◌ (PolyRing 𝓡) G a) ⊎ Coprime (PolyRing 𝓡) G a
          go (inl e) = inr (bezout_coprime z.combined e)
          go (inr e) = inl (rw e at z.combined.right)
