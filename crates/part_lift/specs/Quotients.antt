-- Quotients by a monic polynomial: `Quotient n c d y a`, the array y holds the quotient of a by c, of degree d.
-- Proves that division gives it, that of t·a from the quotient k and the remainder r of a, and how many terms k has. Assumes nothing.
use Rattle.std.specs.Prelude.{◌≡◌, List, ℕ, ◌≤◌, ◌-◌, ◌+◌}
use Rattle.std.proofs.Common.{◌∙◌, ap, arith}
use Rattle.algebra.specs.Ring.{linear1, linear2}
use Rattle.algebra.specs.Identities.{con, ◌⊕◌, ◌⊖◌, ◌⊗◌, ◌≈◌, solve}
use Rattle.algebra.specs.PolynomialRing.{◌+ᴿ◌, ◌·◌, -ᴿ◌, 𝟏}
use Rattle.algebra.specs.Degree.{Below, Monic, below_up, below_add, below_neg, below_factor}
use Rattle.algebra.specs.CoefficientLists.{ℤ[x]/, poly, Reduced, 𝓩[x]/}
use Rattle.arrays.specs.Represents.{Represents}
use Rattle.division.specs.DivisionLoop.{DividedBy}

-- y·c leaves a polynomial of lower degree than c to a
pub record Quotient (n : ℕ) (c : List ℕ) (d : ℕ) (y : List ℕ) (a : ℤ[x]/ n) : Type 0 where
  pub reduced : Reduced n 33 y
  pub left : ℤ[x]/ n
  pub small : Below d left
  pub law : poly n y · poly n c +ᴿ left ≡ a

-- the quotient is of d degrees less
pub quotient_below : {n d : ℕ} {c a : ℤ[x]/ n} → Monic d c → (k : ℕ) (q r : ℤ[x]/ n) → Below (k + d) a → Below d r → q · c +ᴿ r ≡ a → Below k q
quotient_below {n} {d} {c} {a} m k q r ha hr e = below_factor m k q (rw multiple (below_add ha (below_neg (below_up (omega arith) hr))))
  where
    multiple : q · c ≡ a +ᴿ -ᴿ r
    multiple = linear1 (𝓩[x]/ n) 𝟏 e (solve (𝓩[x]/ n) 4 (λ q c r a. q ⊗ c ⊖ (a ⊖ r) ≈ con 1 ⊗ (q ⊗ c ⊕ r ⊖ a)) tt q c r a)

module _ {n : ℕ} {c : List ℕ} {d : ℕ} where
  pub quotient_divided : {w y r : List ℕ} {a : ℤ[x]/ n} → Represents n w a → DividedBy n w c d y r → Quotient n c d y a
  quotient_divided {r = r} hw D = record { reduced = D.quotient; left = poly n r; small = D.small; law = D.law ∙ hw.is }

  module _ {a k r : List ℕ} (D : DividedBy n a c d k r) where
    -- the terms of k
    pub quotient_terms : {i : ℕ} → Monic d (poly n c) → d ≤ i → Below (i + 1) (poly n a) → Below (i - d + 1) (poly n k)
    quotient_terms {i} m l h = quotient_below m (i - d + 1) (poly n k) (poly n r) (below_up (omega arith) h) D.small D.law

    -- t·a = c·(t·k) + t·r
    pub quotient_parts : {x v y : List ℕ} (t : ℤ[x]/ n) → Quotient n c d x (t · poly n r) → Represents n v (t · poly n k)
        → Represents n y (poly n v +ᴿ poly n x) → Quotient n c d y (t · poly n a)
    quotient_parts {x} t hx hv hy = record {
      reduced = hy.reduced;
      left = hx.left;
      small = hx.small;
      law = ap (λ e. e · poly n c +ᴿ hx.left) (hy.is ∙ ap (λ e. e +ᴿ poly n x) hv.is)
          ∙ linear2 (𝓩[x]/ n) 𝟏 t hx.law D.law
          (solve (𝓩[x]/ n) 7
          (λ t k x c l r a. (t ⊗ k ⊕ x) ⊗ c ⊕ l ⊖ t ⊗ a ≈ con 1 ⊗ (x ⊗ c ⊕ l ⊖ t ⊗ r) ⊕ t ⊗ (k ⊗ c ⊕ r ⊖ a))
          tt t (poly n k) (poly n x) (poly n c) hx.left (poly n r) (poly n a));
    }
