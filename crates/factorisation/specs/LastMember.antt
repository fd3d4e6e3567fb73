-- The last member of a setting: what s − 1 elements with the bar of g leave of a part P = g^m + π·h.
-- Proves that any s − 1 such elements multiply to a divisor of P, wherever G^(s − 1) divides the bar of h. Assumes nothing.
use Rattle.std.specs.Prelude.{◌≡◌, refl, List, [], ◌∷◌, length, ℕ, suc, ◌-◌, ◌+◌}
use Rattle.std.proofs.Common.{sym, ◌∙◌, ap, ap₂, arith}
use mathlib.Core.List.Memᴰ.{head as here}
use Rattle.algebra.specs.Ring.{CommRing, linear2, linear3}
use Rattle.algebra.specs.Identities.{con, ◌⊕◌, ◌⊖◌, ◌⊗◌, ◌≈◌, solve}
use Rattle.algebra.specs.Divisibility.{◌∣◌, pow, pow_zero, pow_suc, pow_add, product, product_nil, product_cons}
use Rattle.algebra.specs.Extension.{Extension}
use Rattle.lists.specs.Members.{All, all_tail}
use Rattle.factorisation.specs.ExtensionLaws.{bar_one, bar_mul, bar_pow, bar_mul_pow, bar_lift_lem, difference, π_equal}
use Rattle.factorisation.specs.LongestLists.{Part}

module _ {A B : Type 0} {𝓐 : CommRing A} {𝓑 : CommRing B} {bar : A → B} (E : Extension 𝓐 𝓑 bar) (q : Part E) where
  infixl 60 ◌+ᴿ◌
  infixl 70 ◌*ᴿ◌
  open 𝓐 use {add as ◌+ᴿ◌, mul as ◌*ᴿ◌, neg, 𝟘}
  open E use {π, lift}
  open q use {g, m, P, h, s}

  -- elements g + π·c multiply to g^k + π·g^(k − 1)·t, where t is the sum of the c; times g, so that k may be 0
  record Multiplied (xs : List A) : Type 0 where
    t : A
    law : product 𝓐 xs *ᴿ g ≡ pow 𝓐 g (length xs) *ᴿ (g +ᴿ π *ᴿ t)

  multiplied : (xs : List A) → All (λ x. bar x ≡ bar g) xs → Multiplied xs
  multiplied [] b = record { t = 𝟘; law = rw (product_nil 𝓐, pow_zero 𝓐 g) (solve 𝓐 2 (λ g π. con 1 ⊗ g ≈ con 1 ⊗ (g ⊕ π ⊗ con 0)) tt g π) }
  multiplied (x ∷ xs) b = step (difference E (b x (here refl))) (multiplied xs (all_tail b))
    where
      step : (c : A) × (x ≡ g +ᴿ π *ᴿ c) → Multiplied xs → Multiplied (x ∷ xs)
      step (c, e) f = record {
        t = c +ᴿ f.t;
        law = rw (product_cons 𝓐 x xs, pow_suc 𝓐 g (length xs))
            (linear3 𝓐 (product 𝓐 xs *ᴿ g) (g +ᴿ π *ᴿ c) (pow 𝓐 g (length xs) *ᴿ c *ᴿ f.t) e f.law E.square
            (solve 𝓐 7
            (λ x p g π c t y.
            x ⊗ p ⊗ g ⊖ g ⊗ y ⊗ (g ⊕ π ⊗ (c ⊕ t))
            ≈ p ⊗ g ⊗ (x ⊖ (g ⊕ π ⊗ c)) ⊕ (g ⊕ π ⊗ c) ⊗ (p ⊗ g ⊖ y ⊗ (g ⊕ π ⊗ t)) ⊕ y ⊗ c ⊗ t ⊗ (π ⊗ π ⊖ con 0)) tt
            x (product 𝓐 xs) g π c f.t (pow 𝓐 g (length xs))));
      }

  product_bar : (xs : List A) → All (λ x. bar x ≡ bar g) xs → bar (product 𝓐 xs) ≡ pow 𝓑 (bar g) (length xs)
  product_bar [] b = ap bar (product_nil 𝓐) ∙ bar_one E ∙ sym (pow_zero 𝓑 (bar g))
  product_bar (x ∷ xs) b =
      ap bar (product_cons 𝓐 x xs) ∙ bar_mul E x (product 𝓐 xs)
      ∙ ap₂ 𝓑.mul (b x (here refl)) (product_bar xs (all_tail b)) ∙ sym (pow_suc 𝓑 (bar g) (length xs))

  -- with v = h / G^(s − 1) the last member is g^(r + 1) + π·(v − t·g^r)
  pub first_divide : (r : ℕ) → s + r ≡ m → ◌∣◌ 𝓑 (pow 𝓑 (bar g) (s - 1)) (bar h)
      → (xs : List A) → All (λ x. bar x ≡ bar g) xs → suc (length xs) ≡ s → ◌∣◌ 𝓐 (product 𝓐 xs) P
  first_divide r sr (v, law) xs b n = go (multiplied xs b)
    where
      first : π *ᴿ product 𝓐 xs ≡ π *ᴿ pow 𝓐 g (length xs)
      first = π_equal E (product_bar xs b ∙ sym (bar_pow E g (length xs)))

      second : bar (lift v *ᴿ pow 𝓐 g (length xs)) ≡ bar h
      second =
          bar_mul_pow E (lift v) g (length xs)
          ∙ ap₂ (λ a k. 𝓑.mul a (pow 𝓑 (bar g) k)) (bar_lift_lem E v) (let k : length xs ≡ s - 1 = omega arith in k) ∙ law

      powers : pow 𝓐 g r *ᴿ (pow 𝓐 g (length xs) *ᴿ g) ≡ pow 𝓐 g m
      powers =
          solve 𝓐 3 (λ x y g. x ⊗ (y ⊗ g) ≈ g ⊗ y ⊗ x) tt (pow 𝓐 g r) (pow 𝓐 g (length xs)) g
          ∙ ap (λ a. a *ᴿ pow 𝓐 g r) (sym (pow_suc 𝓐 g (length xs)) ∙ ap (pow 𝓐 g) n) ∙ sym (pow_add 𝓐 g s r) ∙ ap (pow 𝓐 g) sr

      go : Multiplied xs → ◌∣◌ 𝓐 (product 𝓐 xs) P
      go f = (
        g *ᴿ pow 𝓐 g r +ᴿ π *ᴿ (lift v +ᴿ neg (f.t *ᴿ pow 𝓐 g r)),
        linear2 𝓐 (pow 𝓐 g r) (lift v +ᴿ neg (f.t *ᴿ pow 𝓐 g r)) f.law first
            (solve 𝓐 7
            (λ p g x π t v y.
            (g ⊗ x ⊕ π ⊗ (v ⊖ t ⊗ x)) ⊗ p ⊖ (x ⊗ (y ⊗ g) ⊕ π ⊗ (v ⊗ y)) ≈ x ⊗ (p ⊗ g ⊖ y ⊗ (g ⊕ π ⊗ t)) ⊕ (v ⊖ t ⊗ x) ⊗ (π ⊗ p ⊖ π ⊗ y)) tt
            (product 𝓐 xs) g (pow 𝓐 g r) π f.t (lift v) (pow 𝓐 g (length xs)))
            ∙ ap₂ ◌+ᴿ◌ powers (π_equal E second) ∙ sym q.shape,
      )
