-- Splitting elements of Q modulo a prime p: polynomials v that are not constant, of lower degree than Q, for which Q divides v^p − v.
-- Proves that some v − c then has a divisor in common with Q, and that the monic gcd a of Q and such a v − c splits Q into coprime factors a
-- and b of degree 1 or more. Assumes nothing.
use Rattle.std.specs.Prelude.{◌≡◌, ◌≢◌, List, ℕ, ◌≤◌}
use Rattle.std.proofs.Common.{sym, ◌∙◌, ap, ⊎_elim, pos_of_ne-zero, arith}
use Rattle.algebra.specs.Ring.{CommRing, zero_mul, one_mul, eq_of_sub, linear3}
use Rattle.algebra.specs.Identities.{con, ◌⊕◌, ◌⊖◌, ◌⊗◌, ⊝◌, ◌≈◌, solve}
use Rattle.algebra.specs.Divisibility.{◌∣◌, Coprime, coprime_sym, coprime_divisor, gauss}
use Rattle.algebra.specs.Residues.{ℤ/, Residues}
use Rattle.algebra.specs.PolynomialRing.{Poly, PolyRing, ◌+ᴿ◌, ◌·◌, -ᴿ◌, 𝟏, constant, constant_zero}
use Rattle.algebra.specs.Degree.{Below, Monic, below_up, below_add, below_neg, below_constant, below_zero, monic_zero, monic_one_lem, small_multiple}
use Rattle.algebra.specs.Leading.{monic_cofactor}
use Rattle.algebra.specs.Fields.{Field, Prime, residue_field}
use Rattle.algebra.specs.Bezout.{MonicBezout, bezout_coprime}
use Rattle.lists.specs.Members.{◌∈◌}
use Rattle.lists.specs.InOrder.{InOrder}
use Rattle.factorisation.specs.MonicDivisors.{monic_cancel_eq, monic_nonzero, divisor_degree}
use Rattle.frobenius.specs.FrobeniusPowers.{◌^ᴿ◌}
use Rattle.frobenius.specs.DifferenceProducts.{differences, OtherDifferences, others, some_common}
use Rattle.frobenius.specs.Roots.{residues, residues_different, residues_all, power_product}
use Rattle.algebra.specs.CoefficientLists.{ℤ[x]/, 𝓩[x]/}

module _ {R : Type 0} {𝓡 : CommRing R} where
  -- Q = a·b, coprime, both of degree 1 or more
  pub record CoprimeFactors (Q a b : Poly 𝓡) : Type 0 where
    pub i : ℕ
    pub j : ℕ
    pub monic_a : Monic i a
    pub monic_b : Monic j b
    pub positive_a : 1 ≤ i
    pub positive_b : 1 ≤ j
    pub coprime : Coprime (PolyRing 𝓡) a b
    pub multiplies : a · b ≡ Q

  module _ (field : Field 𝓡) where
    -- with Q = b·a and v − c = w·a, b is coprime to w and so divides the product of the others
    cofactor_coprime : {Q v f : Poly 𝓡} {c : R} (a b w s t k : Poly 𝓡) {i : ℕ} → Monic i a → b · a ≡ Q → w · a ≡ v +ᴿ -ᴿ constant c
        → s · Q +ᴿ t · (v +ᴿ -ᴿ constant c) ≡ a → k · Q ≡ f → OtherDifferences field v c f → Coprime (PolyRing 𝓡) a b
    cofactor_coprime {Q} {v} {f} {c} a b w s t k ma eb ew es ek o =
        coprime_divisor (PolyRing 𝓡) divides
        (coprime_sym (PolyRing 𝓡) (coprime_divisor (PolyRing 𝓡) (w, ew) (coprime_sym (PolyRing 𝓡) o.coprime)))
      where
        coprime : Coprime (PolyRing 𝓡) b w
        coprime = record {
          u = s;
          v = t;
          law = monic_cancel_eq ma (linear3 (PolyRing 𝓡) s t 𝟏 eb ew es
              (solve (PolyRing 𝓡) 7
              (λ a b w s t Q y. (s ⊗ b ⊕ t ⊗ w) ⊗ a ⊖ con 1 ⊗ a ≈ s ⊗ (b ⊗ a ⊖ Q) ⊕ t ⊗ (w ⊗ a ⊖ y) ⊕ con 1 ⊗ (s ⊗ Q ⊕ t ⊗ y ⊖ a)) tt
              a b w s t Q (v +ᴿ -ᴿ constant c)));
        }

        divides : ◌∣◌ (PolyRing 𝓡) b o.rest
        divides = gauss (PolyRing 𝓡) coprime (k, monic_cancel_eq ma whole)
          where
            whole : k · b · a ≡ o.rest · w · a
            whole =
                linear3 (PolyRing 𝓡) k (-ᴿ o.rest) 𝟏 eb ew (ek ∙ sym o.multiplies)
                (solve (PolyRing 𝓡) 7
                (λ k b a r w Q y. k ⊗ b ⊗ a ⊖ r ⊗ w ⊗ a ≈ k ⊗ (b ⊗ a ⊖ Q) ⊕ ⊝ r ⊗ (w ⊗ a ⊖ y) ⊕ con 1 ⊗ (k ⊗ Q ⊖ y ⊗ r)) tt
                k b a o.rest w Q (v +ᴿ -ᴿ constant c))

    module _ {d : ℕ} {Q : Poly 𝓡} (positive : 1 ≤ d) (m : Monic d Q) (v : Poly 𝓡) (l : List R) (h : ◌∣◌ (PolyRing 𝓡) Q (differences v l)) where
      common_constant : (c : R) × ((z : MonicBezout field Q (v +ᴿ -ᴿ constant c)) → z.combined.gcd ≢ 𝟏)
      common_constant =
          ⊎_elim (λ k. absurd (unit k)) (λ (c, n). (c, λ z e. n (bezout_coprime z.combined e)))
          (some_common field Q v (monic_nonzero field.one_ne_zero m) l)
        where
          unit : Coprime (PolyRing 𝓡) Q (differences v l) → ⊥
          unit k =
              omega (
                arith,
                divisor_degree field.one_ne_zero m monic_one_lem
                    (gauss (PolyRing 𝓡) k (rw (one_mul (PolyRing 𝓡) (differences v l)) h)),
              )

      module _ (different : InOrder (λ c d. c ≢ d) l) (small : Below d v) (nonconstant : (c : R) → v ≢ constant c) (c : R) (in_List : c ∈ l) where
        -- Q does not divide v − c, which is of lower degree and not 𝟎
        undivided : ¬ ◌∣◌ (PolyRing 𝓡) Q (v +ᴿ -ᴿ constant c)
        undivided (q, e) =
            nonconstant c (eq_of_sub (PolyRing 𝓡) (sym e ∙ ap (λ a. a · Q) (small_multiple m q (rw e below)) ∙ zero_mul (PolyRing 𝓡) Q))
          where
            below : Below d (v +ᴿ -ᴿ constant c)
            below = below_add small (below_neg (below_up positive (below_constant c)))

        gcd_splits : (z : MonicBezout field Q (v +ᴿ -ᴿ constant c)) → z.combined.gcd ≢ 𝟏
            → (b : Poly 𝓡) × CoprimeFactors Q z.combined.gcd b
        gcd_splits z ne = go z.combined.left z.combined.right h
          where
            a : Poly 𝓡
            a = z.combined.gcd

            go : ◌∣◌ (PolyRing 𝓡) a Q → ◌∣◌ (PolyRing 𝓡) a (v +ᴿ -ᴿ constant c) → ◌∣◌ (PolyRing 𝓡) Q (differences v l)
                → (b : Poly 𝓡) × CoprimeFactors Q a b
            go (b, eb) (w, ew) (k, ek) =
                let (j, mb, s) = monic_cofactor field.decide field.one_ne_zero {d = d} b a z.monic (rw eb m) in (
                  b,
                  record {
                    i = z.degree;
                    j = j;
                    monic_a = z.monic;
                    monic_b = mb;
                    positive_a = pos_of_ne-zero (λ e. ne (monic_zero (rw e at z.monic)));
                    positive_b = pos_of_ne-zero (λ e. undivided (w, ap (λ y. w · y) (whole (monic_zero (rw e at mb))) ∙ ew));
                    coprime = cofactor_coprime a b w z.combined.u z.combined.v k z.monic eb ew z.combined.combination ek
                        (others field v l different c in_List);
                    multiplies = (PolyRing 𝓡).*_comm a b ∙ eb;
                  },
                )
              where
                whole : b ≡ 𝟏 → Q ≡ a
                whole e = sym eb ∙ ap (λ y. y · a) e ∙ (PolyRing 𝓡).*_one a

-- ---- modulo a prime

-- not constant, of lower degree than Q, and v^p = v modulo Q
pub record SplittingElement (p d : ℕ) (Q v : ℤ[x]/ p) : Type 0 where
  pub small : Below d v
  pub nonconstant : (c : ℤ/ p) → v ≢ constant c
  pub fixed : ◌∣◌ (𝓩[x]/ p) Q (v ^ᴿ p +ᴿ -ᴿ v)

module _ {p : ℕ} (P : Prime p) {d : ℕ} {Q v : ℤ[x]/ p} (m : Monic d Q) (S : SplittingElement p d Q v) where
  positive : 1 ≤ d
  positive =
      pos_of_ne-zero (λ e. S.nonconstant (Residues p).𝟘 (below_zero (rw e at S.small) ∙ sym (constant_zero (Residues p))))

  product_divided : ◌∣◌ (𝓩[x]/ p) Q (differences v (residues p))
  product_divided = rw (power_product P v) at S.fixed

  -- for some c the monic gcd of Q and v − c is not 𝟏
  pub splitting_constant : (c : ℤ/ p) × ((z : MonicBezout (residue_field p P) Q (v +ᴿ -ᴿ constant c)) → z.combined.gcd ≢ 𝟏)
  splitting_constant = common_constant (residue_field p P) positive m v (residues p) product_divided

  -- and for every such c it splits Q
  pub splitting_factors : (c : ℤ/ p) (z : MonicBezout (residue_field p P) Q (v +ᴿ -ᴿ constant c)) → z.combined.gcd ≢ 𝟏
      → (b : ℤ[x]/ p) × CoprimeFactors Q z.combined.gcd b
  splitting_factors c =
      gcd_splits (residue_field p P) positive m v (residues p) product_divided (residues_different P) S.small S.nonconstant c (residues_all P c)
