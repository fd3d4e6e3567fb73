-- A polynomial m with a polynomial v put for x: `substituted v n m`, m(v), where m has n terms; `VanishesAt Q v m`, m(v) is 0 modulo Q.
-- Proves that m(v) is congruent to the value m(c) modulo v − c, so that v − c is coprime to Q where m(v) is 0 modulo Q and m(c) is a unit. Over any ring with
-- decided equality. Assumes nothing.
use Rattle.std.specs.Prelude.{◌≡◌, refl, ℕ, zero, suc}
use Rattle.std.proofs.Common.{sym, ◌∙◌, ap, ap₂}
use Rattle.algebra.specs.Ring.{CommRing, linear3}
use Rattle.algebra.specs.Identities.{con, ◌⊕◌, ◌⊖◌, ◌⊗◌, ⊝◌, ◌≈◌, solve}
use Rattle.algebra.specs.Divisibility.{◌∣◌, Coprime, pow, divides_refl}
use Rattle.algebra.specs.PolynomialRing.{Poly, PolyRing, ◌+ᴿ◌, ◌·◌, -ᴿ◌, 𝟏, x, constant, constant_zero, constant_add, constant_mul, constant_unit}
use Rattle.algebra.specs.Degree.{Below}
use Rattle.algebra.specs.Monomials.{x^}
use Rattle.algebra.specs.Homomorphisms.{Homomorphism, constants, keeps_pow}
use Rattle.algebra.specs.Congruence.{Congruent, congruent_equal, congruent_add, congruent_mul, congruent_pow}
use Rattle.frobenius.specs.Evaluation.{evaluate, evaluation, evaluate_x, evaluate_constant}
use Rattle.frobenius.specs.LinearMaps.{apply, apply_zero, apply_suc, apply_monomials}

abbrev pub substituted : {R : Type 0} {𝓡 : CommRing R} → Poly 𝓡 → ℕ → Poly 𝓡 → Poly 𝓡
substituted {𝓡 = 𝓡} v n m = apply (pow (PolyRing 𝓡) v) n m

pub record VanishesAt {R : Type 0} {𝓡 : CommRing R} (Q v m : Poly 𝓡) : Type 0 where
  pub terms : ℕ
  pub below : Below terms m
  pub divides : ◌∣◌ (PolyRing 𝓡) Q (substituted v terms m)

module _ {R : Type 0} {𝓡 : CommRing R} (decide : Discrete R) (c : R) (v : Poly 𝓡) where
  abbrev less : Poly 𝓡
  less = v +ᴿ -ᴿ constant c

  abbrev value : Poly 𝓡 → R
  value m = evaluate 𝓡 decide c m

  -- the value of the first n terms
  value_none : (m : Poly 𝓡) → value (apply x^ 0 m) ≡ 𝓡.𝟘
  value_none m = ap value (apply_zero x^ m ∙ sym (constant_zero 𝓡)) ∙ evaluate_constant 𝓡 decide c 𝓡.𝟘

  value_more : (n : ℕ) (m : Poly 𝓡) → value (apply x^ (suc n) m) ≡ 𝓡.add (value (apply x^ n m)) (𝓡.mul (m.coef n) (pow 𝓡 c n))
  value_more n m =
      ap value (apply_suc x^ n m)
      ∙ h.keeps_add (apply x^ n m) (constant (m.coef n) · x^ n)
      ∙ ap (𝓡.add (value (apply x^ n m)))
      (h.keeps_mul (constant (m.coef n)) (x^ n)
      ∙ ap₂ 𝓡.mul (evaluate_constant 𝓡 decide c (m.coef n)) (keeps_pow h x n ∙ ap (λ a. pow 𝓡 a n) (evaluate_x 𝓡 decide c)))
    where
      h : Homomorphism (PolyRing 𝓡) 𝓡 value
      h = evaluation 𝓡 decide c

  -- v is congruent to c, and so is each power
  power_congruent : (n : ℕ) → Congruent (PolyRing 𝓡) less (pow (PolyRing 𝓡) v n) (constant (pow 𝓡 c n))
  power_congruent n = rw (keeps_pow (constants 𝓡) c n) (congruent_pow (PolyRing 𝓡) n (divides_refl (PolyRing 𝓡) less))

  congruent_step : (n : ℕ) (m : Poly 𝓡) → Congruent (PolyRing 𝓡) less (substituted v n m) (constant (value (apply x^ n m)))
      → Congruent (PolyRing 𝓡) less (substituted v (suc n) m) (constant (value (apply x^ (suc n) m)))
  congruent_step n m h =
      rw (
        apply_suc (pow (PolyRing 𝓡) v) n m,
        value_more n m,
        constant_add (value (apply x^ n m)) (𝓡.mul (m.coef n) (pow 𝓡 c n)),
        constant_mul (m.coef n) (pow 𝓡 c n),
      )
      (congruent_add (PolyRing 𝓡) h (congruent_mul (PolyRing 𝓡) (congruent_equal (PolyRing 𝓡) refl) (power_congruent n)))

  terms_congruent : (n : ℕ) (m : Poly 𝓡) → Congruent (PolyRing 𝓡) less (substituted v n m) (constant (value (apply x^ n m)))
  terms_congruent zero m =
      congruent_equal (PolyRing 𝓡) (apply_zero (pow (PolyRing 𝓡) v) m ∙ sym (ap constant (value_none m) ∙ constant_zero 𝓡))
  terms_congruent (suc n) m = congruent_step n m (terms_congruent n m)

  -- v − c divides m(v) − m(c)
  substituted_congruent : (n : ℕ) (m : Poly 𝓡) → Below n m → Congruent (PolyRing 𝓡) less (substituted v n m) (constant (value m))
  substituted_congruent n m h = rw (apply_monomials n m h) at (terms_congruent n m)

  pub value_coprime : {Q m : Poly 𝓡} → VanishesAt Q v m → (e : R) → 𝓡.mul (value m) e ≡ 𝓡.𝟙 → Coprime (PolyRing 𝓡) Q less
  value_coprime {Q} {m} h e unit = go h.divides (substituted_congruent h.terms m h.below)
    where
      go : ◌∣◌ (PolyRing 𝓡) Q (substituted v h.terms m) → Congruent (PolyRing 𝓡) less (substituted v h.terms m) (constant (value m))
          → Coprime (PolyRing 𝓡) Q less
      go (k, ek) (w, ew) = record {
        u = constant e · k;
        v = -ᴿ (constant e · w);
        law = linear3 (PolyRing 𝓡) (constant e) (-ᴿ constant e) 𝟏 ek ew (constant_unit 𝓡 unit)
            (solve (PolyRing 𝓡) 7
            (λ e k w Q l s m. e ⊗ k ⊗ Q ⊕ ⊝ (e ⊗ w) ⊗ l ⊖ con 1 ≈ e ⊗ (k ⊗ Q ⊖ s) ⊕ ⊝ e ⊗ (w ⊗ l ⊖ (s ⊖ m)) ⊕ con 1 ⊗ (m ⊗ e ⊖ con 1)) tt
            (constant e) k w Q less (substituted v h.terms m) (constant (value m)));
      }
