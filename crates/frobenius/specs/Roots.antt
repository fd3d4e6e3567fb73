-- Polynomials with as many roots as their degree, and the polynomial y^p − y over (ℤ/p)[x], whose roots are the constants.
-- Proves that a monic polynomial whose roots differ by units is the product of its linear factors, over any ring with decided equality,
-- and that v^p − v is the product of the v − c over all residues c modulo a prime p. Assumes nothing.
use Rattle.std.specs.Prelude.{◌≡◌, refl, ◌≢◌, List, [], ◌∷◌, map, length}
use Rattle.std.proofs.Common.{sym, ◌∙◌}
use Rattle.std.proofs.Math.Path.{ap, ap₂, fun_ext}
use mathlib.Core.List.Memᴰ
use Rattle.std.proofs.lemmas.Simd.{map-map}
use mathlib.Core.List.Memᴰ.{head as here}
use Prim.Native.Nat.{ℕ, suc, ◌<◌}
use Rattle.std.proofs.Math.Nat.{mod-eq_of_lt}
use native.Mathlib.Omega.{arith}
use Rattle.std.proofs.Math.ListN.{length-map}
use Rattle.specification.specs.Lists.{up_from}
use Rattle.algebra.specs.CoefficientLists.{ℤ[x]/, 𝓩[x]/}
use Rattle.algebra.specs.Ring.{CommRing, sub_self, eq_of_sub}
use Rattle.algebra.specs.Divisibility.{◌∣◌, unit_cancel, product, product_nil, product_cons}
use Rattle.algebra.specs.Residues.{ℤ/, residue, Residues, residue_value, value_below, same_remainder}
use Rattle.algebra.specs.PolynomialRing.{Poly, PolyRing, ◌+ᴿ◌, ◌·◌, -ᴿ◌, x, 𝟎, constant, constant_neg, constant_add, constant_unit}
use Rattle.algebra.specs.Monomials.{x^}
use Rattle.algebra.specs.Degree.{Monic, below_up, below_neg, monic_zero, monic_add, monic_x, monic_one_lem, monic_pow_x}
use Rattle.algebra.specs.Leading.{monic_cofactor, poly_discrete}
use Rattle.lists.specs.NumbersFrom.{up_from_length, up_from_member, up_from_has}
use Rattle.algebra.specs.Fields.{Field, Prime, prime_pos, residue_field, residue_discrete}
use Rattle.algebra.specs.Homomorphisms.{keeps_neg, keeps_pow, keeps_product}
use Rattle.lists.specs.Members.{◌∈◌, All, all_tail, all_map}
use Rattle.lists.specs.InOrder.{InOrder, in_order_map, in_order_by, up_from_in_order}
use Rattle.factorisation.specs.MonicDivisors.{monic_nonzero}
use Rattle.frobenius.specs.Evaluation.{linear, monic_linear, evaluate, evaluation, evaluate_x, evaluate_constant, root_divides}
use Rattle.frobenius.specs.FrobeniusPowers.{◌^ᴿ◌, power_constant}

-- c and d differ by a unit
abbrev pub Apart : {R : Type 0} → CommRing R → R → R → Type 0
Apart 𝓡 c d = ◌∣◌ 𝓡 (𝓡.add d (𝓡.neg c)) 𝓡.𝟙

-- different constants are apart
pub different_apart : {R : Type 0} {𝓡 : CommRing R} → Field 𝓡 → (c d : R) → c ≢ d → Apart (PolyRing 𝓡) (constant c) (constant d)
different_apart {𝓡 = 𝓡} field c d n =
    let (u, e) = field.inverse (𝓡.add d (𝓡.neg c)) (λ z. n (sym (eq_of_sub 𝓡 z))) in (
      constant u,
      ap (λ a. constant u · (constant d +ᴿ a)) (sym (constant_neg c)) ∙ ap (λ a. constant u · a) (sym (constant_add d (𝓡.neg c)))
          ∙ constant_unit 𝓡 (𝓡.*_comm u (𝓡.add d (𝓡.neg c)) ∙ e),
    )

module _ {R : Type 0} (𝓡 : CommRing R) (decide : Discrete R) where
  infixl 70 ◌*ᴿ◌
  infixl 60 ◌∔◌
  open 𝓡 use {add as ◌∔◌, mul as ◌*ᴿ◌, neg, 𝟘, 𝟙}

  evaluate_linear : (y c : R) → evaluate 𝓡 decide y (linear c) ≡ y ∔ neg c
  evaluate_linear y c =
      (evaluation 𝓡 decide y).keeps_add x (-ᴿ constant c)
      ∙ ap₂ ◌∔◌ (evaluate_x 𝓡 decide y) (keeps_neg (evaluation 𝓡 decide y) (constant c) ∙ ap neg (evaluate_constant 𝓡 decide y c))

  -- a root of q·(x − c) that is apart from c is one of q
  other_root : (q : Poly 𝓡) (c d : R) → Apart 𝓡 c d → evaluate 𝓡 decide d (q · linear c) ≡ 𝟘 → evaluate 𝓡 decide d q ≡ 𝟘
  other_root q c d (u, unit) e =
      unit_cancel 𝓡 unit
      (sym ((evaluation 𝓡 decide d).keeps_mul q (linear c) ∙ ap (λ b. evaluate 𝓡 decide d q *ᴿ b) (evaluate_linear d c)) ∙ e)

  linear_factors : 𝟙 ≢ 𝟘 → (l : List R) (f : Poly 𝓡) → Monic (length l) f → All (λ c. evaluate 𝓡 decide c f ≡ 𝟘) l → InOrder (Apart 𝓡) l
      → f ≡ product (PolyRing 𝓡) (map linear l)
  linear_factors nontrivial [] f m roots apart = monic_zero m ∙ sym (product_nil (PolyRing 𝓡))
  linear_factors nontrivial (c ∷ l) f m roots (first, apart) =
      go (root_divides 𝓡 decide c f (roots c (here refl))) (λ q. linear_factors nontrivial l q)
    where
      go : ◌∣◌ (PolyRing 𝓡) (linear c) f
          → ((q : Poly 𝓡) → Monic (length l) q → All (λ d. evaluate 𝓡 decide d q ≡ 𝟘) l → InOrder (Apart 𝓡) l → q ≡ product (PolyRing 𝓡) (map linear l))
          → f ≡ product (PolyRing 𝓡) (map linear (c ∷ l))
      go (q, e) rest =
          sym e ∙ (PolyRing 𝓡).*_comm q (linear c)
          ∙ ap (λ a. linear c · a) (rest q monic (λ d i. other_root q c d (first d i) (ap (evaluate 𝓡 decide d) e ∙ all_tail roots d i)) apart)
          ∙ sym (product_cons (PolyRing 𝓡) (linear c) (map linear l))
        where
          monic : Monic (length l) q
          monic =
              let (j, n, s) = monic_cofactor decide nontrivial {d = suc (length l)} q (linear c) (monic_linear c) (rw e m) in
              rw (let z : j ≡ length l = omega arith in z) at n

-- ---- the residues modulo p

-- all residues, each once
unfoldable pub residues : (p : ℕ) → List (ℤ/ p)
residues p = map (residue p) (up_from 0 p)

module _ {p : ℕ} (P : Prime p) where
  pub residues_different : InOrder (λ c d. c ≢ d) (residues p)
  unfolding residues
  residues_different =
      in_order_map (λ a b. (a < b) × (b < p)) (λ c d. c ≢ d) (residue p) (up_from 0 p) different
      (in_order_by ◌<◌ (λ a b. (a < b) × (b < p)) (up_from 0 p) (λ a b i j l. (l, omega (arith, (up_from_member 0 p j).1))) (up_from_in_order 0 p))
    where
      different : (a b : ℕ) → (a < b) × (b < p) → residue p a ≢ residue p b
      different a b (l, s) e =
          let r = same_remainder p (prime_pos P) a b e in
          let k : a < p = omega arith in
          omega (arith, mod-eq_of_lt k, mod-eq_of_lt s)

  pub residues_all : (c : ℤ/ p) → c ∈ residues p
  unfolding residues
  residues_all c =
      Memᴰ.cast (sym (residue_value p c)) (Memᴰ.map (residue p) (up_from_has 0 p (omega arith) (omega (arith, value_below p (prime_pos P) c))))

  residues_length : length (residues p) ≡ p
  unfolding residues
  residues_length = length-map (up_from 0 p) (residue p) ∙ up_from_length 0 p

  -- y^p − y over (ℤ/p)[x], and its values
  decide : Discrete (ℤ[x]/ p)
  decide = poly_discrete (residue_discrete p)

  difference : Poly (𝓩[x]/ p)
  difference = x^ p +ᴿ -ᴿ x

  monic_difference : Monic p difference
  unfolding difference
  monic_difference = monic_add (monic_pow_x p) (below_neg (below_up P.large monic_x.below))

  value : (v : ℤ[x]/ p) → evaluate (𝓩[x]/ p) decide v difference ≡ v ^ᴿ p +ᴿ -ᴿ v
  unfolding difference
  value v =
      let h = evaluation (𝓩[x]/ p) decide v in
      let e : evaluate (𝓩[x]/ p) decide v x ≡ v = evaluate_x (𝓩[x]/ p) decide v in
      h.keeps_add (x^ p) (-ᴿ x) ∙ ap₂ ◌+ᴿ◌ (keeps_pow h x p ∙ ap (λ a. a ^ᴿ p) e) (keeps_neg h x ∙ ap -ᴿ◌ e)

  factors : difference ≡ product (PolyRing (𝓩[x]/ p)) (map linear (map constant (residues p)))
  factors =
      linear_factors (𝓩[x]/ p) decide (monic_nonzero (residue_field p P).one_ne_zero monic_one_lem) (map constant (residues p)) difference
      (rw (length-map (residues p) (constant {𝓡 = Residues p}) ∙ residues_length) monic_difference)
      (all_map (λ a. evaluate (𝓩[x]/ p) decide a difference ≡ 𝟎) constant (residues p)
      (λ c i. value (constant c) ∙ sub_self (𝓩[x]/ p) (power_constant P c)))
      (in_order_map (λ c d. c ≢ d) (Apart (𝓩[x]/ p)) constant (residues p) (different_apart (residue_field p P)) residues_different)

  pub power_product : (v : ℤ[x]/ p)
      → v ^ᴿ p +ᴿ -ᴿ v ≡ product (𝓩[x]/ p) (map (λ c. v +ᴿ -ᴿ constant c) (residues p))
  power_product v =
      sym (value v) ∙ ap at factors ∙ keeps_product (evaluation (𝓩[x]/ p) decide v) (map linear (map constant (residues p)))
      ∙ ap (product (𝓩[x]/ p))
      (ap (map at) (map-map linear constant (residues p)) ∙ map-map at (λ c. linear (constant c)) (residues p)
      ∙ ap (λ f. map f (residues p)) (fun_ext (λ c. evaluate_linear (𝓩[x]/ p) decide v (constant c))))
    where
      at : Poly (𝓩[x]/ p) → ℤ[x]/ p
      at = evaluate (𝓩[x]/ p) decide v
