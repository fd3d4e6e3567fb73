-- The bridge from document 01's coefficient lists to polynomials: `poly n f` is the list f as a polynomial over ℤ/n.
-- Proves that the specification's sums, products and powers are the ring's, and that a reduced list is found again from its polynomial.
-- Assumes nothing.
use Rattle.std.specs.Prelude.{◌≡◌, length, get_or}
use Rattle.std.proofs.Math.Path.{refl, sym, ap, ap₂}
use Rattle.std.proofs.Common.{◌∙◌, mod-eq_of_lt, arith, ext_get_or}
use mathlib.Core.List.{List, [], ◌∷◌, map}
use Prim.Native.Nat.{ℕ, zero, suc, ◌≤◌, ◌<◌, ◌-◌, ◌%◌, ◌+◌, ◌*◌}
use Rattle.std.proofs.Math.ListN.{get_or-eq_default}
use Rattle.specification.specs.Polynomials as spec
use Rattle.algebra.specs.Ring.{CommRing, add_zero, zero_add, mul_one, zero_mul, mul_zero}
use Rattle.algebra.specs.Identities.{con, ◌⊕◌, ◌⊗◌, ⊝◌, ◌≈◌, solve}
use Rattle.algebra.specs.Divisibility.{pow, pow_zero, pow_suc, product, product_nil, product_cons}
use Rattle.algebra.specs.Residues.{
  residue,
  Residues,
  residue_zero,
  residue_one,
  residue_add,
  residue_mul,
  residue_neg,
  residue_mod,
  same_remainder,
}
use Rattle.algebra.specs.PolynomialRing.{
  Poly,
  PolyRing,
  ◌+ᴿ◌,
  ◌·◌,
  -ᴿ◌,
  𝟎,
  𝟏,
  x,
  constant,
  poly_ext,
  coef_zero,
  coef_add,
  coef_constant_zero,
  coef_constant_suc,
  coef_x_mul_zero,
  coef_x_mul_suc,
  constant_add,
  constant_mul,
  constant_one,
  constant_zero,
  constant_neg,
}
use Rattle.algebra.specs.Monomials.{x^}
use Rattle.algebra.specs.Degree.{Below}

-- the polynomials over ℤ/n
abbrev pub ℤ[x]/ : ℕ → Type 0
ℤ[x]/ n = Poly (Residues n)

-- and their ring
abbrev pub 𝓩[x]/ : (n : ℕ) → CommRing (ℤ[x]/ n)
𝓩[x]/ n = PolyRing (Residues n)

-- a list as a polynomial, constant first
unfoldable pub poly : (n : ℕ) → List ℕ → ℤ[x]/ n
poly n f = record { coef = λ k. residue n (get_or f k 0); bounded = ∣ (length f, past) ∣₁ }
  where
    past : (k : ℕ) → length f ≤ k → residue n (get_or f k 0) ≡ (Residues n).𝟘
    past k l = ap (residue n) (get_or-eq_default f 0 {n = k} l) ∙ residue_zero n

-- f has m coefficients, each below n
pub record Reduced (n m : ℕ) (f : List ℕ) : Type 0 where
  pub len : length f ≡ m
  pub low : (k : ℕ) → get_or f k 0 < n

module _ (n : ℕ) where
  pub coef_poly : (f : List ℕ) (k : ℕ) → (poly n f).coef k ≡ residue n (get_or f k 0)
  unfolding poly
  coef_poly f k = refl

  pub below_poly : (f : List ℕ) → Below (length f) (poly n f)
  below_poly f = record { high = λ k l. coef_poly f k ∙ ap (residue n) (get_or-eq_default f 0 {n = k} l) ∙ residue_zero n }

  pub poly_nil : poly n [] ≡ 𝟎
  poly_nil = poly_ext (λ k. coef_poly [] k ∙ residue_zero n ∙ sym (coef_zero (Residues n) k))

  pub poly_cons : (a : ℕ) (f : List ℕ) → poly n (a ∷ f) ≡ constant (residue n a) +ᴿ x · poly n f
  poly_cons a f = poly_ext at
    where
      at : (k : ℕ) → (poly n (a ∷ f)).coef k ≡ (constant {𝓡 = Residues n} (residue n a) +ᴿ x · poly n f).coef k
      at zero = coef_poly (a ∷ f) 0 ∙ sym (simp (coef_add, coef_constant_zero, coef_x_mul_zero, add_zero))
      at (suc k) = coef_poly (a ∷ f) (suc k) ∙ sym (simp (coef_add, coef_constant_suc, coef_x_mul_suc, coef_poly, zero_add))

  -- ---- over the numbers

  poly_plus : (f g : List ℕ) → poly n (spec.plus f g) ≡ poly n f +ᴿ poly n g
  unfolding spec.plus
  poly_plus [] g = sym (ap (λ a. a +ᴿ poly n g) poly_nil ∙ (𝓩[x]/ n).+_zero (poly n g))
  poly_plus (a ∷ f) [] = sym (ap (λ b. poly n (a ∷ f) +ᴿ b) poly_nil ∙ add_zero (𝓩[x]/ n) (poly n (a ∷ f)))
  poly_plus (a ∷ f) (b ∷ g) =
      poly_cons (a + b) (spec.plus f g)
      ∙ ap₂ (λ c h. c +ᴿ x · h) (ap constant (residue_add n a b) ∙ constant_add (residue n a) (residue n b)) (poly_plus f g)
      ∙ solve (𝓩[x]/ n) 5 (λ a b x f g. a ⊕ b ⊕ x ⊗ (f ⊕ g) ≈ a ⊕ x ⊗ f ⊕ (b ⊕ x ⊗ g)) tt
      (constant (residue n a)) (constant (residue n b)) x (poly n f) (poly n g)
      ∙ sym (ap₂ (λ c h. c +ᴿ h) (poly_cons a f) (poly_cons b g))

  poly_multiple : (c : ℕ) (f : List ℕ) → poly n (spec.multiple c f) ≡ constant (residue n c) · poly n f
  unfolding spec.multiple
  poly_multiple c [] = poly_nil ∙ sym (ap (λ a. constant (residue n c) · a) poly_nil ∙ mul_zero (𝓩[x]/ n) _)
  poly_multiple c (a ∷ f) =
      poly_cons (c * a) (map (λ (b : ℕ). c * b) f)
      ∙ ap₂ (λ b h. b +ᴿ x · h) (ap constant (residue_mul n c a) ∙ constant_mul (residue n c) (residue n a)) (poly_multiple c f)
      ∙ solve (𝓩[x]/ n) 4 (λ c a x f. c ⊗ a ⊕ x ⊗ (c ⊗ f) ≈ c ⊗ (a ⊕ x ⊗ f)) tt
      (constant (residue n c)) (constant (residue n a)) x (poly n f)
      ∙ sym (ap (λ h. constant (residue n c) · h) (poly_cons a f))

  pub poly_zero_cons : (f : List ℕ) → poly n (0 ∷ f) ≡ x · poly n f
  poly_zero_cons f =
      poly_cons 0 f ∙ ap (λ c. c +ᴿ x · poly n f) (ap constant (residue_zero n) ∙ constant_zero (Residues n)) ∙ (𝓩[x]/ n).+_zero (x · poly n f)

  poly_shift : (f : List ℕ) → poly n (spec.shift f) ≡ x · poly n f
  unfolding spec.shift
  poly_shift [] = poly_nil ∙ sym (ap (λ a. x · a) poly_nil ∙ mul_zero (𝓩[x]/ n) x)
  poly_shift (a ∷ f) = poly_zero_cons (a ∷ f)

  poly_times : (f g : List ℕ) → poly n (spec.times f g) ≡ poly n f · poly n g
  unfolding spec.times
  poly_times [] g = poly_nil ∙ sym (ap (λ a. a · poly n g) poly_nil ∙ zero_mul (𝓩[x]/ n) (poly n g))
  poly_times (a ∷ f) g =
      poly_plus (spec.multiple a g) (spec.shift (spec.times f g))
      ∙ ap₂ ◌+ᴿ◌ (poly_multiple a g) (poly_shift (spec.times f g) ∙ ap (λ h. x · h) (poly_times f g))
      ∙ solve (𝓩[x]/ n) 4 (λ a x f g. a ⊗ g ⊕ x ⊗ (f ⊗ g) ≈ (a ⊕ x ⊗ f) ⊗ g) tt (constant (residue n a)) x (poly n f) (poly n g)
      ∙ sym (ap (λ h. h · poly n g) (poly_cons a f))

  pub constant_residue_one : constant {𝓡 = Residues n} (residue n 1) ≡ 𝟏
  constant_residue_one = ap constant (residue_one n) ∙ constant_one (Residues n)

  pub poly_single : (a : ℕ) → poly n (a ∷ []) ≡ constant (residue n a)
  poly_single a =
      poly_cons a [] ∙ ap (λ h. constant (residue n a) +ᴿ x · h) poly_nil
      ∙ solve (𝓩[x]/ n) 2 (λ c x. c ⊕ x ⊗ con 0 ≈ c) tt (constant (residue n a)) x

  pub poly_one : poly n (1 ∷ []) ≡ 𝟏
  poly_one = poly_single 1 ∙ constant_residue_one

  pub poly_x : poly n (0 ∷ 1 ∷ []) ≡ x
  poly_x = poly_zero_cons (1 ∷ []) ∙ ap (λ h. x · h) poly_one ∙ mul_one (𝓩[x]/ n) x

  pub poly_monomial : (k : ℕ) → poly n (spec.monomial k) ≡ x^ k
  poly_monomial zero = poly_one ∙ sym (pow_zero (𝓩[x]/ n) x)
  poly_monomial (suc k) = poly_zero_cons (spec.monomial k) ∙ ap (λ h. x · h) (poly_monomial k) ∙ sym (pow_suc (𝓩[x]/ n) x k)

  -- ---- modulo n

  module _ (pos : 0 < n) where
    pub poly_reduce : (f : List ℕ) → poly n (spec.reduce n f) ≡ poly n f
    unfolding spec.reduce
    poly_reduce [] = refl
    poly_reduce (a ∷ f) =
        poly_cons (a % n) (map (λ (b : ℕ). b % n) f)
        ∙ ap₂ (λ c h. constant c +ᴿ x · h) (residue_mod n pos a) (poly_reduce f)
        ∙ sym (poly_cons a f)

    pub poly_add : (f g : List ℕ) → poly n (spec.add n f g) ≡ poly n f +ᴿ poly n g
    unfolding spec.add
    poly_add f g = poly_reduce (spec.plus f g) ∙ poly_plus f g

    pub poly_scale : (c : ℕ) (f : List ℕ) → poly n (spec.scale n c f) ≡ constant (residue n c) · poly n f
    unfolding spec.scale
    poly_scale c f = poly_reduce (spec.multiple c f) ∙ poly_multiple c f

    constant_neg_one : constant {𝓡 = Residues n} (residue n (n - 1)) ≡ -ᴿ 𝟏
    constant_neg_one =
        ap constant (residue_neg n pos 1 pos ∙ ap (Residues n).neg (residue_one n))
        ∙ constant_neg (Residues n).𝟙 ∙ ap (λ a. -ᴿ a) (constant_one (Residues n))

    pub poly_sub : (f g : List ℕ) → poly n (spec.sub n f g) ≡ poly n f +ᴿ -ᴿ poly n g
    unfolding spec.sub
    poly_sub f g =
        poly_add f (spec.scale n (n - 1) g)
        ∙ ap (λ h. poly n f +ᴿ h)
        (poly_scale (n - 1) g ∙ ap (λ c. c · poly n g) constant_neg_one
        ∙ solve (𝓩[x]/ n) 1 (λ g. ⊝ con 1 ⊗ g ≈ ⊝ g) tt (poly n g))

    pub poly_mul : (f g : List ℕ) → poly n (spec.mul n f g) ≡ poly n f · poly n g
    unfolding spec.mul
    poly_mul f g = poly_reduce (spec.times f g) ∙ poly_times f g

    pub poly_pow : (f : List ℕ) (k : ℕ) → poly n (spec.pow n f k) ≡ pow (𝓩[x]/ n) (poly n f) k
    unfolding spec.pow
    poly_pow f zero = poly_one ∙ sym (pow_zero (𝓩[x]/ n) (poly n f))
    poly_pow f (suc k) =
        poly_mul f (spec.pow n f k) ∙ ap (λ h. poly n f · h) (poly_pow f k) ∙ sym (pow_suc (𝓩[x]/ n) (poly n f) k)

    pub poly_product : (l : List (List ℕ)) → poly n (spec.product n l) ≡ product (𝓩[x]/ n) (map (poly n) l)
    unfolding spec.product
    poly_product [] = poly_one ∙ sym (product_nil (𝓩[x]/ n))
    poly_product (f ∷ l) =
        poly_mul f (spec.product n l) ∙ ap (λ h. poly n f · h) (poly_product l)
        ∙ sym (product_cons (𝓩[x]/ n) (poly n f) (map (poly n) l))

-- reduced lists of one length that are the same polynomial are the same list
pub same_list : {n m : ℕ} {f g : List ℕ} → Reduced n m f → Reduced n m g → poly n f ≡ poly n g → f ≡ g
same_list {n} {m} {f} {g} hf hg e = ext_get_or 0 f g (hf.len ∙ sym hg.len) (λ k l. at k)
  where
    pos : 0 < n
    pos = let l = hf.low 0 in omega arith

    at : (k : ℕ) → get_or f k 0 ≡ get_or g k 0
    at k =
        sym (mod-eq_of_lt (hf.low k))
        ∙ same_remainder n pos (get_or f k 0) (get_or g k 0) (sym (coef_poly n f k) ∙ ap (λ a. a.coef k) e ∙ coef_poly n g k)
        ∙ mod-eq_of_lt (hg.low k)
