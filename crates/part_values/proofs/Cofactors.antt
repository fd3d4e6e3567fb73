-- The loop of `highest`, which divides h by G as long as it goes: `Cofactor`, h = w·G^k; `HighestIn`, and G does not divide w.
-- Proves that the loop begins, goes on and ends as it should: with a remainder, or where w is of lower degree than G. Assumes nothing.
use mathlib.Core.Path.{◌≡◌, sym, ◌∙◌, ap}
use mathlib.Core.List.{List}
use mathlib.Core.Logic.{◌≢◌}
use Prim.Native.Nat.{ℕ, ◌≤◌, ◌-◌, ◌+◌, ◌*◌}
use native.Mathlib.Nat.{mul-le-mul_right}
use native.Mathlib.Numerals.{add-one}
use native.Mathlib.Omega.{arith}
use Rattle.algebra.specs.Numbers.{rest_multiple}
use Rattle.algebra.specs.Ring.{mul_one, add_zero, zero_mul}
use Rattle.algebra.specs.Identities.{◌⊗◌, ◌≈◌, solve}
use Rattle.algebra.specs.Divisibility.{◌∣◌, pow, pow_zero, pow_suc}
use Rattle.algebra.specs.PolynomialRing.{◌+ᴿ◌, ◌·◌, 𝟎}
use Rattle.algebra.specs.Degree.{Below, Monic, below_up, below_𝟎, below_factor, small_multiple, monic_pow}
use Rattle.algebra.specs.Division.{divided_unique}
use Rattle.algebra.specs.CoefficientLists.{poly, Reduced, 𝓩[x]/}
use Rattle.arrays.specs.Sizes.{Size, size_zero, size_nonzero}
use Rattle.division.specs.DivisionLoop.{DividedBy}

-- h = w·G^k, where w is an array
pub record Cofactor (p : ℕ) (h base : List ℕ) (k : ℕ) (w : List ℕ) : Type 0 where
  pub reduced : Reduced p 33 w
  pub law : poly p w · pow (𝓩[x]/ p) (poly p base) k ≡ poly p h

-- and no higher power divides h
pub record HighestIn (p : ℕ) (h base : List ℕ) (k : ℕ) (w : List ℕ) : Type 0 where
  pub cofactor : Cofactor p h base k w
  pub stop : ¬ ◌∣◌ (𝓩[x]/ p) (poly p base) (poly p w)

module _ (p : ℕ) (h base : List ℕ) where
  pub cofactor_none : Reduced p 33 h → Cofactor p h base 0 h
  cofactor_none r = record {
    reduced = r;
    law = ap (λ a. poly p h · a) (pow_zero (𝓩[x]/ p) (poly p base)) ∙ mul_one (𝓩[x]/ p) (poly p h);
  }

  module _ {d : ℕ} (monic : Monic d (poly p base)) where
    -- G goes once more
    pub cofactor_more : {k : ℕ} {w q r : List ℕ} {z : ℕ} → Cofactor p h base k w → DividedBy p w base d q r → Size r z → z ≡ 0 → Cofactor p h base (k + 1) q
    cofactor_more {k} {w} {q} {r} c v s e = rw add-one (record {
      reduced = v.quotient;
      law = ap (λ a. poly p q · a) (pow_suc (𝓩[x]/ p) (poly p base) k)
          ∙ solve (𝓩[x]/ p) 3 (λ q g x. q ⊗ (g ⊗ x) ≈ q ⊗ g ⊗ x) tt (poly p q) (poly p base) (pow (𝓩[x]/ p) (poly p base) k)
          ∙ ap (λ a. a · pow (𝓩[x]/ p) (poly p base) k) exact ∙ c.law;
    })
      where
        exact : poly p q · poly p base ≡ poly p w
        exact =
            sym (add_zero (𝓩[x]/ p) (poly p q · poly p base)) ∙ ap (λ a. poly p q · poly p base +ᴿ a) (sym (size_zero s e)) ∙ v.law

    -- a remainder is left
    pub cofactor_stop : {k : ℕ} {w q r : List ℕ} {z : ℕ} → Cofactor p h base k w → DividedBy p w base d q r → Size r z → z ≢ 0 → HighestIn p h base k w
    cofactor_stop {w = w} {q} {r} c v s ne = record { cofactor = c; stop = stop }
      where
        stop : ¬ ◌∣◌ (𝓩[x]/ p) (poly p base) (poly p w)
        stop (a, e) =
            size_nonzero v.remainder s ne
            (divided_unique monic (poly p q) (poly p r) a 𝟎 v.small (below_𝟎 d) (v.law ∙ sym e ∙ sym (add_zero (𝓩[x]/ p) (a · poly p base)))).1

    module _ {m : ℕ} (low : Below (m * d) (poly p h)) where
      -- what is left has (m − k)·d terms
      pub cofactor_below : {k : ℕ} {w : List ℕ} → Cofactor p h base k w → k ≤ m → Below ((m - k) * d) (poly p w)
      cofactor_below {k} {w} c l = below_factor (monic_pow monic k) ((m - k) * d) (poly p w) (rw (c.law, degrees) low)
        where
          degrees : (m - k) * d + k * d ≡ m * d
          degrees = rest_multiple d l

      -- and fewer than G in the end, so G does not divide it
      pub cofactor_last : {k : ℕ} {w : List ℕ} → poly p h ≢ 𝟎 → Cofactor p h base k w → k ≤ m → m ≤ k + 1 → HighestIn p h base k w
      cofactor_last {k} {w} nonzero c l u = record { cofactor = c; stop = stop }
        where
          small : Below d (poly p w)
          small = below_up (omega (arith, mul-le-mul_right d (let t : m - k ≤ 1 = omega arith in t))) (cofactor_below c l)

          stop : ¬ ◌∣◌ (𝓩[x]/ p) (poly p base) (poly p w)
          stop (a, e) =
              nonzero
              (sym c.law
              ∙ ap (λ b. b · pow (𝓩[x]/ p) (poly p base) k)
              (sym e ∙ ap (λ b. b · poly p base) (small_multiple monic a (rw e small)) ∙ zero_mul (𝓩[x]/ p) (poly p base))
              ∙ zero_mul (𝓩[x]/ p) (pow (𝓩[x]/ p) (poly p base) k))
