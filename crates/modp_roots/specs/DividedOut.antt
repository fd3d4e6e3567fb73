-- A monic polynomial divided by another as often as it goes: `DividedOut p a n g d r`; `Dividing`, so far as it went, in the
-- loops of `divide_linear_out`, `divide_power`, `divide_root` and `divide_out`.
-- Proves how such a loop begins, goes on and ends, that what is left divides, and that a divisor is divided out once at least. Assumes nothing.
use Rattle.std.specs.Prelude.{◌≡◌, List, ◌≢◌, ℕ, ◌≤◌, ◌<◌, ◌-◌, ◌+◌, ◌*◌}
use Rattle.std.proofs.Common.{sym, ◌∙◌, ap, zero-mul, mul-le-mul_left, pos_of_ne-zero, arith}
use Rattle.algebra.specs.Ring.{mul_one, add_zero}
use Rattle.algebra.specs.Identities.{◌⊗◌, ◌≈◌, solve}
use Rattle.algebra.specs.Divisibility.{◌∣◌, pow, pow_zero, pow_one, pow_add}
use Rattle.algebra.specs.PolynomialRing.{◌+ᴿ◌, ◌·◌}
use Rattle.algebra.specs.Degree.{Monic, monic_pow}
use Rattle.algebra.specs.Leading.{monic_cofactor}
use Rattle.algebra.specs.Fields.{Prime, residue_field, residue_discrete}
use Rattle.algebra.specs.CoefficientLists.{ℤ[x]/, 𝓩[x]/, poly, Reduced}
use Rattle.arrays.specs.declared.MonicPoly.{MonicPoly}
use Rattle.arrays.specs.Sizes.{Size, size_zero, size_nonzero}
use Rattle.factorisation.specs.MonicDivisors.{divisor_degree}
use Rattle.division.specs.DivisionLoop.{DividedBy, divided_exactly}
use Rattle.modp_roots.specs.declared.Rest.{Rest}

-- a, of degree n, is g^times, where g is of degree d, times what is left, which g does not divide
pub record DividedOut (p : ℕ) (a : ℤ[x]/ p) (n : ℕ) (g : ℤ[x]/ p) (d : ℕ) (r : Rest) : Type 0 where
  pub reduced : Reduced p 33 r.left.coefs
  pub monic : Monic r.left.degree (poly p r.left.coefs)
  pub degrees : r.left.degree + r.times * d ≡ n
  pub law : poly p r.left.coefs · pow (𝓩[x]/ p) g r.times ≡ a
  pub stops : ¬ (◌∣◌ (𝓩[x]/ p) g (poly p r.left.coefs))

module _ {p : ℕ} {a : ℤ[x]/ p} {n : ℕ} {g : ℤ[x]/ p} {d : ℕ} {r : Rest} (D : DividedOut p a n g d r) where
  pub rest_divides : ◌∣◌ (𝓩[x]/ p) (poly p r.left.coefs) a
  rest_divides = (pow (𝓩[x]/ p) g r.times, (𝓩[x]/ p).*_comm (pow (𝓩[x]/ p) g r.times) (poly p r.left.coefs) ∙ D.law)

  -- a divisor is divided out once at least
  pub divisor_times : ◌∣◌ (𝓩[x]/ p) g a → 1 ≤ r.times
  divisor_times e = pos_of_ne-zero (λ z. D.stops (rw (sym D.law ∙ none z) at e))
    where
      none : r.times ≡ 0 → poly p r.left.coefs · pow (𝓩[x]/ p) g r.times ≡ poly p r.left.coefs
      none z =
          ap (λ k. poly p r.left.coefs · pow (𝓩[x]/ p) g k) z ∙ ap (λ b. poly p r.left.coefs · b) (pow_zero (𝓩[x]/ p) g)
          ∙ mul_one (𝓩[x]/ p) (poly p r.left.coefs)

-- g was divided out m times, and f, of degree e, is left
pub record Dividing (p : ℕ) (a : ℤ[x]/ p) (n : ℕ) (g : ℤ[x]/ p) (d : ℕ) (f : List ℕ) (e m : ℕ) : Type 0 where
  pub reduced : Reduced p 33 f
  pub monic : Monic e (poly p f)
  pub degrees : e + m * d ≡ n
  pub law : poly p f · pow (𝓩[x]/ p) g m ≡ a

module _ {p : ℕ} {n : ℕ} {g : ℤ[x]/ p} {d : ℕ} where
  pub dividing_none : {f : List ℕ} → Reduced p 33 f → Monic n (poly p f) → Dividing p (poly p f) n g d f n 0
  dividing_none {f} reduced monic = record {
    reduced = reduced;
    monic = monic;
    degrees = omega (arith, zero-mul d);
    law = ap (λ b. poly p f · b) (pow_zero (𝓩[x]/ p) g) ∙ mul_one (𝓩[x]/ p) (poly p f);
  }

  module _ {a : ℤ[x]/ p} {f : List ℕ} {e m : ℕ} (D : Dividing p a n g d f e m) where
    -- what is left is divided on
    pub dividing_then : {q : List ℕ} {i k : ℕ} → Dividing p (poly p f) e g d q i k → Dividing p a n g d q i (m + k)
    dividing_then {q} {i} {k} E = record {
      reduced = E.reduced;
      monic = E.monic;
      degrees = omega (arith, D.degrees, E.degrees);
      law = ap (λ b. poly p q · b) (pow_add (𝓩[x]/ p) g m k)
          ∙ solve (𝓩[x]/ p) 3 (λ q a b. q ⊗ (a ⊗ b) ≈ q ⊗ b ⊗ a) tt (poly p q) (pow (𝓩[x]/ p) g m) (pow (𝓩[x]/ p) g k)
          ∙ ap (λ b. b · pow (𝓩[x]/ p) g m) E.law ∙ D.law;
    }

    -- g^k, of degree i, goes
    pub dividing_more : Prime p → Monic d g → (k : ℕ) {i : ℕ} → i ≡ k * d → {q : List ℕ} → Reduced p 33 q → poly p q · pow (𝓩[x]/ p) g k ≡ poly p f
        → Dividing p a n g d q (e - i) (m + k)
    dividing_more P mg k {i} is {q} reduced s =
        go (monic_cofactor (residue_discrete p) (residue_field p P).one_ne_zero (poly p q) (pow (𝓩[x]/ p) g k) (monic_pow mg k) (rw s D.monic))
      where
        go : (j : ℕ) × Monic j (poly p q) × (j + k * d ≡ e) → Dividing p a n g d q (e - i) (m + k)
        go (j, mq, l) = dividing_then (record {
          reduced = reduced;
          monic = rw (let z : e - i ≡ j = omega arith in z) mq;
          degrees = omega arith;
          law = s;
        })

    -- and g itself
    pub dividing_once : Prime p → Monic d g → {q : List ℕ} → Reduced p 33 q → poly p q · g ≡ poly p f → Dividing p a n g d q (e - d) (m + 1)
    dividing_once P mg {q} reduced s =
        dividing_more P mg 1 (omega arith) reduced (ap (λ b. poly p q · b) (pow_one (𝓩[x]/ p) g) ∙ s)

    -- the degree of what is left
    pub dividing_least : e ≤ n
    dividing_least = omega (arith, D.degrees)

    -- and how often g was divided out
    pub dividing_times : 0 < d → m ≤ n
    dividing_times pos = omega (arith, D.degrees, mul-le-mul_left m pos)

    -- what is left is divided on to the end
    pub dividing_end : {r : Rest} → DividedOut p (poly p f) e g d r → DividedOut p a n g d (record { left = r.left; times = m + r.times })
    dividing_end {r} E = record { reduced = A.reduced; monic = A.monic; degrees = A.degrees; law = A.law; stops = E.stops }
      where
        A : Dividing p a n g d r.left.coefs r.left.degree (m + r.times)
        A = dividing_then (record { reduced = E.reduced; monic = E.monic; degrees = E.degrees; law = E.law })

  module _ {a : ℤ[x]/ p} {f : MonicPoly} {m : ℕ} (D : Dividing p a n g d f.coefs f.degree m) where
    pub dividing_stops : ¬ (◌∣◌ (𝓩[x]/ p) g (poly p f.coefs)) → DividedOut p a n g d (record { left = f; times = m })
    dividing_stops s = record { reduced = D.reduced; monic = D.monic; degrees = D.degrees; law = D.law; stops = s }

    -- the degree of what is left is too low
    pub dividing_done : Prime p → Monic d g → f.degree < d → DividedOut p a n g d (record { left = f; times = m })
    dividing_done P mg l =
        dividing_stops (λ s. absurd (omega (arith, divisor_degree (residue_field p P).one_ne_zero mg D.monic s)))

-- ---- the remainder of a division tells whether g divides

module _ {p d : ℕ} {a g q r : List ℕ} {z : ℕ} where
  pub remainder_zero : DividedBy p a g d q r → Size r z → z ≡ 0 → poly p q · poly p g ≡ poly p a
  remainder_zero D s e =
      sym (add_zero (𝓩[x]/ p) (poly p q · poly p g)) ∙ ap (λ b. poly p q · poly p g +ᴿ b) (sym (size_zero s e)) ∙ D.law

  pub remainder_not_zero : Monic d (poly p g) → DividedBy p a g d q r → Size r z → z ≢ 0 → ¬ (◌∣◌ (𝓩[x]/ p) (poly p g) (poly p a))
  remainder_not_zero m D s n (k, e) = size_nonzero D.remainder s n (divided_exactly p a g m D k e).1
