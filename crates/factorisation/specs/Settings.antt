-- Settings of one part: its longest lists, the member of highest multiplicity last.
-- Proves what form a product of members whose bars are powers of G has. Assumes nothing.
use Rattle.std.specs.Prelude.{◌≡◌, refl, List, [], ◌∷◌, length, ℕ, suc, ◌≤◌, ◌-◌}
use Rattle.std.proofs.Common.{sym, ◌∙◌, arith}
use mathlib.Core.List.Memᴰ.{head as here}
use Rattle.algebra.specs.Ring.{CommRing, linear3, zero_mul}
use Rattle.algebra.specs.Identities.{con, ◌⊕◌, ◌⊖◌, ◌⊗◌, ◌≈◌, solve}
use Rattle.algebra.specs.Divisibility.{◌∣◌ as Divides, pow, pow_zero, pow_add, pow_divides, product, product_nil, product_cons, divides_refl, divides_mul, divides_mul_both, divides_add, divides_trans}
use Rattle.algebra.specs.Homomorphisms.{keeps_zero}
use Rattle.algebra.specs.Extension.{Extension}
use Rattle.lists.specs.Members.{All, all_tail}
use Rattle.lists.specs.Sums.{total, total_nil, total_cons}
use Rattle.factorisation.specs.ExtensionLaws.{bars, bar_pow, difference}
use Rattle.factorisation.specs.LongestLists.{Part, Proper}
use Rattle.factorisation.specs.Blocks.{multiplicity}

module _ {A B : Type 0} {𝓐 : CommRing A} {𝓑 : CommRing B} {bar : A → B} (E : Extension 𝓐 𝓑 bar) (Monic : B → Type 0) (q : Part E) where
  infixl 60 ◌+ᴿ◌
  infixl 70 ◌*ᴿ◌
  infix 50 ◌∣◌
  open 𝓐 use {add as ◌+ᴿ◌, mul as ◌*ᴿ◌, 𝟘}
  open E use {π}
  open q use {g, prime, m, P, h, s}

  -- of bars
  abbrev ◌∣◌ : B → B → Type 0
  ◌∣◌ = Divides 𝓑

  abbrev e : A → ℕ
  e = multiplicity E q

  -- "a longest list with .., within a part, the factor of higher degree last": the members xs, and y after them
  pub record Setting (xs : List A) (y : A) : Type 0 where
    pub count : suc (length xs) ≡ s
    pub factors : product 𝓐 (y ∷ xs) ≡ P
    pub monic : All (λ x. Monic (bar x)) (y ∷ xs)
    pub proper : All (Proper E) (y ∷ xs)
    pub order : All (λ x. e x ≤ e y) xs

  -- ---- the product of members g^e + π·t, all e at most n, is g^(Σ e) + π·T, and G^(Σ e − n) divides the bar of T

  abbrev pub Power : A → Type 0
  Power x = bar x ≡ pow 𝓑 (bar g) (e x)

  pub record Form (n : ℕ) (L : List A) : Type 0 where
    pub T : A
    pub law : product 𝓐 L ≡ pow 𝓐 g (total e L) +ᴿ π *ᴿ T
    pub divides : pow 𝓑 (bar g) (total e L - n) ∣ bar T

  pub form : (n : ℕ) (L : List A) → All Power L → All (λ x. e x ≤ n) L → Form n L
  form n [] p b = record {
    T = 𝟘;
    law = rw (product_nil 𝓐, total_nil e, pow_zero 𝓐 g) (solve 𝓐 1 (λ π. con 1 ≈ con 1 ⊕ π ⊗ con 0) tt π);
    divides = (𝓑.𝟘, zero_mul 𝓑 _ ∙ sym (keeps_zero E.hom));
  }
  form n (x ∷ L) p b = step (difference E (p x (here refl) ∙ sym (bar_pow E g (e x)))) (form n L (all_tail p) (all_tail b))
    where
      step : (t : A) × (x ≡ pow 𝓐 g (e x) +ᴿ π *ᴿ t) → Form n L → Form n (x ∷ L)
      step (t, d) f = record {
        T = t *ᴿ pow 𝓐 g (total e L) +ᴿ pow 𝓐 g (e x) *ᴿ f.T;
        law = rw (product_cons 𝓐 x L, total_cons e x L, pow_add 𝓐 g (e x) (total e L))
            (linear3 𝓐 (product 𝓐 L) (pow 𝓐 g (e x) +ᴿ π *ᴿ t) (t *ᴿ f.T) d f.law E.square
            (solve 𝓐 7
            (λ x p a b π t T.
            x ⊗ p ⊖ (a ⊗ b ⊕ π ⊗ (t ⊗ b ⊕ a ⊗ T))
            ≈ p ⊗ (x ⊖ (a ⊕ π ⊗ t)) ⊕ (a ⊕ π ⊗ t) ⊗ (p ⊖ (b ⊕ π ⊗ T)) ⊕ t ⊗ T ⊗ (π ⊗ π ⊖ con 0)) tt
            x (product 𝓐 L) (pow 𝓐 g (e x)) (pow 𝓐 g (total e L)) π t f.T));
        divides = rw (total_cons e x L) (simp (bars, E) (divides_add 𝓑
            (divides_mul 𝓑 (bar t) (pow_divides 𝓑 (bar g) (omega (arith, b x (here refl)))))
            (divides_trans 𝓑 (rw (← pow_add 𝓑 (bar g) (e x) (total e L - n)) (pow_divides 𝓑 (bar g) (omega arith)))
            (divides_mul_both 𝓑 (divides_refl 𝓑 (pow 𝓑 (bar g) (e x))) f.divides))));
      }
