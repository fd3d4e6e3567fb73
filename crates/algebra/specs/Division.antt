-- Division of polynomials by a monic polynomial, over any commutative ring.
-- Proves that a quotient and a remainder exist, and that only these multiply out to the dividend. Assumes nothing.
use Rattle.std.specs.Prelude.{◌≡◌, ℕ, zero, suc}
use Rattle.std.proofs.Common.{sym, ◌∙◌, ap, arith}
use Rattle.algebra.specs.Ring.{CommRing, ring, mul_one, add_neg, add_left_cancel, eq_of_sub, linear1}
use Rattle.algebra.specs.Identities.{con, ◌⊕◌, ◌⊖◌, ◌⊗◌, ◌≈◌, solve}
use Rattle.algebra.specs.PolynomialRing.{
  Poly,
  PolyRing,
  ◌+ᴿ◌,
  ◌·◌,
  -ᴿ◌,
  𝟎,
  𝟏,
  x,
  constant,
  tail,
  head_tail,
  coef_add,
  coef_neg,
  coef_constant_mul,
}
use Rattle.algebra.specs.Degree.{
  Below,
  Monic,
  below_up,
  below_add,
  below_neg,
  below_zero,
  below_tail,
  below_x_mul,
  below_constant,
  below_constant_mul,
  below_down,
  below_𝟎,
  small_multiple,
}

module _ {R : Type 0} {𝓡 : CommRing R} where
  -- a divided by g, of degree d: what is left is 𝟎 or of lower degree
  pub record Divided (d : ℕ) (g a : Poly 𝓡) : Type 0 where
    pub quotient : Poly 𝓡
    pub remainder : Poly 𝓡
    pub law : quotient · g +ᴿ remainder ≡ a
    pub small : Below d remainder

  -- s, of degree d at most, less its multiple of g that takes the top term away
  pub below_top : {d : ℕ} {g : Poly 𝓡} → Monic d g → (s : Poly 𝓡) → Below (suc d) s → Below d (s +ᴿ -ᴿ (constant (s.coef d) · g))
  below_top {d} {g} m s h = below_down (below_add h (below_neg (below_constant_mul (s.coef d) m.below))) gone
    where
      gone : (s +ᴿ -ᴿ (constant (s.coef d) · g)).coef d ≡ 𝓡.𝟘
      gone = simp (coef_add, coef_neg, coef_constant_mul, m.leading, mul_one, add_neg)

  -- by recursion on a bound of the dividend: a = a₀ + x·t, where t leaves r, leaves what a₀ + x·r does
  pub divide_from : {d : ℕ} {g : Poly 𝓡} → Monic d g → (n : ℕ) (a : Poly 𝓡) → Below n a → Divided d g a
  divide_from {d} {g} m zero a h = record {
    quotient = 𝟎;
    remainder = 𝟎;
    law = simp ring (sym (below_zero h));
    small = below_𝟎 d;
  }
  divide_from {d} {g} m (suc n) a h = step (divide_from m n (tail a) (below_tail h))
    where
      step : Divided d g (tail a) → Divided d g a
      step t =
          let s : Poly 𝓡 = constant (a.coef 0) +ᴿ x · t.remainder in
          let c : Poly 𝓡 = constant (s.coef d) in
          record {
            quotient = x · t.quotient +ᴿ c;
            remainder = s +ᴿ -ᴿ (c · g);
            law = solve (PolyRing 𝓡) 6
                (λ x q g r c b. (x ⊗ q ⊕ c) ⊗ g ⊕ (b ⊕ x ⊗ r ⊖ c ⊗ g) ≈ b ⊕ x ⊗ (q ⊗ g ⊕ r)) tt
                x t.quotient g t.remainder c (constant (a.coef 0))
                ∙ ap (λ b. constant (a.coef 0) +ᴿ x · b) t.law
                ∙ sym (head_tail a);
            small = below_top m s (below_add (below_up (omega arith) (below_constant (a.coef 0))) (below_x_mul t.small));
          }

  -- only one quotient and one remainder multiply out to a
  pub divided_unique : {d : ℕ} {g : Poly 𝓡} → Monic d g → (q r q' r' : Poly 𝓡) → Below d r → Below d r'
      → q · g +ᴿ r ≡ q' · g +ᴿ r' → (q ≡ q') × (r ≡ r')
  divided_unique {d} {g} m q r q' r' hr hr' e = (same, add_left_cancel (PolyRing 𝓡) (e ∙ ap (λ w. w · g +ᴿ r') (sym same)))
    where
      difference : (q +ᴿ -ᴿ q') · g ≡ r' +ᴿ -ᴿ r
      difference =
          linear1 (PolyRing 𝓡) 𝟏 e
          (solve (PolyRing 𝓡) 5 (λ q r q' r' g. (q ⊖ q') ⊗ g ⊖ (r' ⊖ r) ≈ con 1 ⊗ (q ⊗ g ⊕ r ⊖ (q' ⊗ g ⊕ r'))) tt q r q' r' g)

      same : q ≡ q'
      same = eq_of_sub (PolyRing 𝓡) (small_multiple m (q +ᴿ -ᴿ q') (rw difference (below_add hr' (below_neg hr))))
