-- Irreducible divisors over ℤ/p, p a prime. There are finitely many polynomials of a given degree, so that it is decided whether one of them
-- divides f.
-- Proves that every monic polynomial of degree 1 or more has an irreducible divisor, by descent on the degree. Assumes nothing.
use Rattle.std.specs.Prelude.{◌≡◌, ◌⊎◌, ℕ, zero, suc, ◌<◌, ◌≤◌, ◌-◌}
use Rattle.std.proofs.Common.{sym, ◌∙◌, ap, subst, inl, inr, eq-or-lt_of_le, arith}
use Rattle.algebra.specs.Ring.{CommRing, one_mul}
use Rattle.algebra.specs.Identities.{◌⊕◌, ◌⊖◌, ◌≈◌, solve}
use Rattle.algebra.specs.Divisibility.{◌∣◌, divides_refl, divides_trans}
use Rattle.algebra.specs.Residues.{residue, Residues, residue_value, value_below}
use Rattle.algebra.specs.PolynomialRing.{Poly, PolyRing, ◌+ᴿ◌, ◌·◌, -ᴿ◌, 𝟎, x, constant, tail, head_tail, constant_one}
use Rattle.algebra.specs.Monomials.{x^}
use Rattle.algebra.specs.Degree.{
  Below,
  Monic,
  below_𝟎,
  below_zero,
  below_up,
  below_add,
  below_tail,
  below_x_mul,
  below_constant,
  monic_add,
  monic_mul_lem,
  monic_pow_x,
}
use Rattle.algebra.specs.Division.{below_top}
use Rattle.algebra.specs.Leading.{divides?}
use Rattle.algebra.specs.Fields.{Prime, prime_pos, residue_field, residue_discrete}
use Rattle.factorisation.specs.MonicDivisors.{monic_degree}
use Rattle.factorisation.specs.Irreducible.{Irreducible}
use Rattle.algebra.specs.CoefficientLists.{ℤ[x]/, 𝓩[x]/}

-- a number below n with a decided property
number_below? : (n : ℕ) (Q : ℕ → Type 0) → ((k : ℕ) → Dec (Q k)) → Dec ((k : ℕ) × (k < n) × Q k)
number_below? zero Q test = no (λ (k, l, q). absurd (omega arith))
number_below? (suc n) Q test = go (test n) (number_below? n Q test)
  where
    go : Dec (Q n) → Dec ((k : ℕ) × (k < n) × Q k) → Dec ((k : ℕ) × (k < suc n) × Q k)
    go (yes q) t = yes (n, omega arith, q)
    go (no s) (yes (k, l, q)) = yes (k, omega arith, q)
    go (no s) (no t) = no (λ (k, l, q). at k q (eq-or-lt_of_le l))
      where
        at : (k : ℕ) → Q k → (suc k ≡ suc n) ⊎ (suc k < suc n) → ⊥
        at k q (inl e) = s (subst Q (let z : k ≡ n = omega arith in z) q)
        at k q (inr l) = t (k, omega arith, q)

module _ {R : Type 0} {𝓡 : CommRing R} where
  record MonicDivisor (i : ℕ) (f : Poly 𝓡) : Type 0 where
    divisor : Poly 𝓡
    monic : Monic i divisor
    divides : ◌∣◌ (PolyRing 𝓡) divisor f

  pub record IrreducibleDivisor (f : Poly 𝓡) : Type 0 where
    pub G : Poly 𝓡
    pub irreducible : Irreducible G
    pub divides : ◌∣◌ (PolyRing 𝓡) G f

module _ {p : ℕ} (P : Prime p) where
  -- a polynomial of degree below i with a decided property
  poly_below? : (i : ℕ) (Q : ℤ[x]/ p → Type 0) → ((a : ℤ[x]/ p) → Below i a → Dec (Q a))
      → Dec ((a : ℤ[x]/ p) × Below i a × Q a)
  poly_below? zero Q test = go (test 𝟎 (below_𝟎 0))
    where
      go : Dec (Q 𝟎) → Dec ((a : ℤ[x]/ p) × Below 0 a × Q a)
      go (yes q) = yes (𝟎, below_𝟎 0, q)
      go (no s) = no (λ (a, h, q). s (subst Q (below_zero h) q))
  poly_below? (suc i) Q test =
      go (number_below? p (λ k. (b : ℤ[x]/ p) × Below i b × Q (constant (residue p k) +ᴿ x · b))
      (λ k. poly_below? i (λ b. Q (constant (residue p k) +ᴿ x · b)) (λ b h. test (constant (residue p k) +ᴿ x · b) (up k b h))))
    where
      up : (k : ℕ) (b : ℤ[x]/ p) → Below i b → Below (suc i) (constant (residue p k) +ᴿ x · b)
      up k b h = below_add (below_up (omega arith) (below_constant (residue p k))) (below_x_mul h)

      whole : (a : ℤ[x]/ p) → a ≡ constant (residue p (a.coef 0).value) +ᴿ x · tail a
      whole a = head_tail a ∙ ap (λ c. constant c +ᴿ x · tail a) (sym (residue_value p (a.coef 0)))

      go : Dec ((k : ℕ) × (k < p) × ((b : ℤ[x]/ p) × Below i b × Q (constant (residue p k) +ᴿ x · b)))
          → Dec ((a : ℤ[x]/ p) × Below (suc i) a × Q a)
      go (yes (k, l, (b, h, q))) = yes (constant (residue p k) +ᴿ x · b, up k b h, q)
      go (no s) =
          no (λ (a, h, q). s ((a.coef 0).value, value_below p (prime_pos P) (a.coef 0), (tail a, below_tail h, subst Q (whole a) q)))

  monic_divisor? : (i : ℕ) (f : ℤ[x]/ p) → Dec (MonicDivisor i f)
  monic_divisor? i f =
      go (poly_below? i (λ r. ◌∣◌ (𝓩[x]/ p) (x^ i +ᴿ r) f) (λ r h. divides? (residue_discrete p) (monic_add (monic_pow_x i) h) f))
    where
      lower : (a : ℤ[x]/ p) → Monic i a → Below i (a +ᴿ -ᴿ x^ i)
      lower a m =
          rw (m.leading, constant_one (Residues p), one_mul (𝓩[x]/ p) (x^ i)) at (below_top (monic_pow_x i) a m.below)

      go : Dec ((r : ℤ[x]/ p) × Below i r × ◌∣◌ (𝓩[x]/ p) (x^ i +ᴿ r) f) → Dec (MonicDivisor i f)
      go (yes (r, h, d)) = yes (record { divisor = x^ i +ᴿ r; monic = monic_add (monic_pow_x i) h; divides = d })
      go (no s) = no (λ t. s (t.divisor +ᴿ -ᴿ x^ i, lower t.divisor t.monic, rw (whole t.divisor) t.divides))
        where
          whole : (a : ℤ[x]/ p) → x^ i +ᴿ (a +ᴿ -ᴿ x^ i) ≡ a
          whole a = solve (𝓩[x]/ p) 2 (λ a y. y ⊕ (a ⊖ y) ≈ a) tt a (x^ i)

  -- no divisor of lower degree
  undivided_irreducible : {d : ℕ} {f : ℤ[x]/ p} → 1 ≤ d → Monic d f → ¬ ((j : ℕ) × (j < d - 1) × MonicDivisor (suc j) f) → Irreducible f
  undivided_irreducible {d} {f} l m none = record { degree = d; positive = l; monic = m; no_product = divided }
    where
      divided : {i e : ℕ} {a b : ℤ[x]/ p} → Monic i a → Monic e b → 1 ≤ i → 1 ≤ e → a · b ≡ f → ⊥
      divided {i} {e} {a} {b} ma mb la lb h =
          let s = monic_degree (residue_field p P).one_ne_zero (rw h at (monic_mul_lem ma mb)) m in
          let z : suc (i - 1) ≡ i = omega arith in
          none (i - 1, omega arith, record { divisor = a; monic = rw z ma; divides = (b, (𝓩[x]/ p).*_comm b a ∙ h) })

  divisor_from : (n d : ℕ) (f : ℤ[x]/ p) → d ≤ n → 1 ≤ d → Monic d f → IrreducibleDivisor f
  divisor_from zero d f k l m = absurd (omega arith)
  divisor_from (suc n) d f k l m =
      go (number_below? (d - 1) (λ j. MonicDivisor (suc j) f) (λ j. monic_divisor? (suc j) f)) (λ e a. divisor_from n e a)
    where
      go : Dec ((j : ℕ) × (j < d - 1) × MonicDivisor (suc j) f)
          → ((e : ℕ) (a : ℤ[x]/ p) → e ≤ n → 1 ≤ e → Monic e a → IrreducibleDivisor a) → IrreducibleDivisor f
      go (yes (j, s, t)) rest =
          let z = rest (suc j) t.divisor (omega arith) (omega arith) t.monic in
          record { G = z.G; irreducible = z.irreducible; divides = divides_trans (𝓩[x]/ p) z.divides t.divides }
      go (no s) rest = record { G = f; irreducible = undivided_irreducible l m s; divides = divides_refl (𝓩[x]/ p) f }

  pub irreducible_divisor : {d : ℕ} {f : ℤ[x]/ p} → 1 ≤ d → Monic d f → IrreducibleDivisor f
  irreducible_divisor {d} {f} l m = divisor_from d d f (omega arith) l m
