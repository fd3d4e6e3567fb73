-- Square-zero extensions: a homomorphism A → B ("bar") with a lift, whose kernel is π·A, where π² = 0 and π·a = 0 only if the bar of a is 0.
-- Proves that ℤ/p² → ℤ/p is one, with π = p and the lift by digits, and that polynomials over an extension are one again.
-- Assumes nothing.
use Rattle.std.specs.Prelude.{◌≡◌}
use Rattle.std.proofs.Math.Path.{refl, sym, ap}
use Rattle.std.proofs.Common.{◌∙◌, mul-pos, arith}
use Prim.Native.Nat.{ℕ, ◌<◌, ◌%◌, ◌/◌, ◌*◌, ◌+◌}
use Rattle.std.proofs.Math.Nat.{mod-mod_of_dvd, dvd-mul_right, zero-mod, zero-div, div-add-mod, eq_of_mul-eq-mul_left, mul-mod_right}
use Rattle.algebra.specs.Ring.{CommRing}
use Rattle.algebra.specs.Residues.{
  ℤ/,
  residue,
  Residues,
  residue_path,
  residue_zero,
  residue_one,
  residue_add,
  residue_mul,
  residue_value,
  residue_self,
  value_residue,
  zero_remainder,
}
use Rattle.algebra.specs.PolynomialRing.{Poly, PolyRing, constant, each, poly_ext, coef_zero, coef_constant_mul, constant_mul, constant_zero}
use Rattle.algebra.specs.Homomorphisms.{Homomorphism, map_poly, map_homomorphism, map_constant}
use Rattle.specification.specs.Limits.{◌²}

pub record Extension {A B : Type 0} (𝓐 : CommRing A) (𝓑 : CommRing B) (bar : A → B) : Type 0 where
  pub hom : Homomorphism 𝓐 𝓑 bar
  pub lift : B → A
  pub lift_zero : lift 𝓑.𝟘 ≡ 𝓐.𝟘
  pub bar_lift : (b : B) → bar (lift b) ≡ b
  pub π : A
  pub barπ : bar π ≡ 𝓑.𝟘
  pub square : 𝓐.mul π π ≡ 𝓐.𝟘
  -- a / π, for an a in the kernel
  pub part : A → A
  pub part_zero : part 𝓐.𝟘 ≡ 𝓐.𝟘
  pub kernel : (a : A) → bar a ≡ 𝓑.𝟘 → a ≡ 𝓐.mul π (part a)
  pub kill : (a : A) → 𝓐.mul π a ≡ 𝓐.𝟘 → bar a ≡ 𝓑.𝟘

-- ---- ℤ/p² → ℤ/p

-- "a bar means reduction modulo p"
unfoldable pub bar : (p : ℕ) → ℤ/ (p ²) → ℤ/ p
bar p a = residue p a.value

zero_value : (n : ℕ) → 0 < n → (Residues n).𝟘.value ≡ 0
zero_value n pos = ap (λ (a : ℤ/ n). a.value) (sym (residue_zero n)) ∙ value_residue n pos 0 ∙ zero-mod n

module _ (p : ℕ) (pos : 0 < p) where
  square_pos : 0 < p ²
  square_pos = mul-pos pos pos

  pub bar_residue : (k : ℕ) → bar p (residue (p ²) k) ≡ residue p k
  unfolding bar
  bar_residue k =
      residue_path
      (value_residue p pos _ ∙ ap (λ (m : ℕ). m % p) (value_residue (p ²) square_pos k)
      ∙ mod-mod_of_dvd p k (dvd-mul_right p p) ∙ sym (value_residue p pos k))

  bar_homomorphism : Homomorphism (Residues (p ²)) (Residues p) (bar p)
  bar_homomorphism = record {
    keeps_add = λ a b. ap (bar p) (sum a b) ∙ bar_residue (a.value + b.value) ∙ residue_add p a.value b.value ∙ unfold bar in refl;
    keeps_mul = λ a b. ap (bar p) (times a b) ∙ bar_residue (a.value * b.value) ∙ residue_mul p a.value b.value ∙ unfold bar in refl;
    keeps_one = ap (bar p) (sym (residue_one (p ²))) ∙ bar_residue 1 ∙ residue_one p;
  }
    where
      sum : (a b : ℤ/ (p ²)) → (Residues (p ²)).add a b ≡ residue (p ²) (a.value + b.value)
      sum a b = unfold Residues in refl

      times : (a b : ℤ/ (p ²)) → (Residues (p ²)).mul a b ≡ residue (p ²) (a.value * b.value)
      times a b = unfold Residues in refl

  residue_kernel : (a : ℤ/ (p ²)) → bar p a ≡ (Residues p).𝟘
      → a ≡ (Residues (p ²)).mul (residue (p ²) p) (residue (p ²) (a.value / p))
  residue_kernel a e =
      sym (residue_value (p ²) a) ∙ ap (residue (p ²)) whole ∙ residue_mul (p ²) p (a.value / p)
    where
      gone : a.value % p ≡ 0
      gone = zero_remainder p pos a.value (unfold bar in e)

      whole : a.value ≡ p * (a.value / p)
      whole = omega (arith, gone, div-add-mod a.value p)

  residue_kill : (a : ℤ/ (p ²)) → (Residues (p ²)).mul (residue (p ²) p) a ≡ (Residues (p ²)).𝟘 → bar p a ≡ (Residues p).𝟘
  residue_kill a e = unfold bar in residue_path (value_residue p pos a.value ∙ gone) ∙ residue_zero p
    where
      q : ℕ
      q = p * a.value / (p ²)

      multiple : p * a.value % (p ²) ≡ 0
      multiple =
          zero_remainder (p ²) square_pos (p * a.value)
          (residue_mul (p ²) p a.value ∙ ap ((Residues (p ²)).mul (residue (p ²) p)) (residue_value (p ²) a) ∙ e)

      divided : a.value ≡ p * q
      divided = eq_of_mul-eq-mul_left p pos a.value (p * q) (omega (arith, multiple, div-add-mod (p * a.value) (p ²)))

      gone : a.value % p ≡ (residue p 0).value
      gone = ap (λ (m : ℕ). m % p) divided ∙ mul-mod_right p q ∙ sym (value_residue p pos 0 ∙ zero-mod p)

  -- the lift reads the same digits modulo p²
  pub residue_extension : Extension (Residues (p ²)) (Residues p) (bar p)
  residue_extension = record {
    hom = bar_homomorphism;
    lift = λ b. residue (p ²) b.value;
    lift_zero = ap (residue (p ²)) (zero_value p pos) ∙ residue_zero (p ²);
    bar_lift = λ b. bar_residue b.value ∙ residue_value p b;
    π = residue (p ²) p;
    barπ = bar_residue p ∙ residue_self p pos;
    square = sym (residue_mul (p ²) p p) ∙ residue_self (p ²) square_pos;
    part = λ a. residue (p ²) (a.value / p);
    part_zero = ap (λ (m : ℕ). residue (p ²) (m / p)) (zero_value (p ²) square_pos) ∙ ap (residue (p ²)) (zero-div p) ∙ residue_zero (p ²);
    kernel = residue_kernel;
    kill = residue_kill;
  }

  pub residue_π : residue_extension.π ≡ residue (p ²) p
  unfolding residue_extension
  residue_π = refl

  pub residue_lift : (b : ℤ/ p) → residue_extension.lift b ≡ residue (p ²) b.value
  unfolding residue_extension
  residue_lift b = refl

  pub residue_part : (a : ℤ/ (p ²)) → residue_extension.part a ≡ residue (p ²) (a.value / p)
  unfolding residue_extension
  residue_part a = refl

-- ---- polynomials

module _ {A B : Type 0} {𝓐 : CommRing A} {𝓑 : CommRing B} {bar : A → B} (E : Extension 𝓐 𝓑 bar) where
  -- coefficient by coefficient
  pub poly_extension : Extension (PolyRing 𝓐) (PolyRing 𝓑) (map_poly E.hom)
  unfolding each
  poly_extension = record {
    hom = map_homomorphism E.hom;
    lift = each E.lift E.lift_zero;
    lift_zero = poly_ext (λ k. ap E.lift (coef_zero 𝓑 k) ∙ E.lift_zero ∙ sym (coef_zero 𝓐 k));
    bar_lift = λ b. poly_ext (λ k. E.bar_lift (b.coef k));
    π = constant E.π;
    barπ = map_constant E.hom E.π ∙ ap constant E.barπ ∙ constant_zero 𝓑;
    square = sym (constant_mul E.π E.π) ∙ ap constant E.square ∙ constant_zero 𝓐;
    part = each E.part E.part_zero;
    part_zero = poly_ext (λ k. ap E.part (coef_zero 𝓐 k) ∙ E.part_zero ∙ sym (coef_zero 𝓐 k));
    kernel = λ a e. poly_ext (λ k.
        E.kernel (a.coef k) (ap (λ b. b.coef k) e ∙ coef_zero 𝓑 k) ∙ sym (coef_constant_mul E.π (each E.part E.part_zero a) k));
    kill = λ a e. poly_ext (λ k.
        E.kill (a.coef k) (sym (coef_constant_mul E.π a k) ∙ ap (λ b. b.coef k) e ∙ coef_zero 𝓐 k) ∙ sym (coef_zero 𝓑 k));
  }

  pub poly_π : poly_extension.π ≡ constant E.π
  unfolding poly_extension
  poly_π = refl

  pub coef_lift : (b : Poly 𝓑) (k : ℕ) → (poly_extension.lift b).coef k ≡ E.lift (b.coef k)
  unfolding poly_extension each
  coef_lift b k = refl

  pub coef_part : (a : Poly 𝓐) (k : ℕ) → (poly_extension.part a).coef k ≡ E.part (a.coef k)
  unfolding poly_extension each
  coef_part a k = refl
