-- A list falls into blocks: its members in the class of a part, and the rest.
-- Proves that the bars of the divisors of a part are powers of the prime element. Assumes nothing.
use Rattle.std.specs.Prelude.{◌≡◌, refl, List, [], ◌∷◌, length, ℕ, zero, suc, ◌≤◌}
use Rattle.std.proofs.Common.{sym, ◌∙◌, ap, inl, inr, zero-le, suc-le-suc}
use mathlib.Core.List.Memᴰ
use mathlib.Core.List.Memᴰ.{head as here}
use mathlib.Core.List.Memᴰ.{tail as there}
use Rattle.algebra.specs.Ring.{CommRing}
use Rattle.algebra.specs.Identities.{◌⊗◌, ◌≈◌, solve}
use Rattle.algebra.specs.Divisibility.{◌∣◌ as Divides, Coprime, pow, pow_zero, product, product_nil, product_cons, divides_refl, coprime_one, coprime_mul}
use Rattle.algebra.specs.Homomorphisms.{keeps_divides}
use Rattle.algebra.specs.Extension.{Extension}
use Rattle.lists.specs.Members.{◌∈◌, All, all_cons}
use Rattle.lists.specs.Sums.{total_nil, total_cons_zero, total_cons_one}
use Rattle.factorisation.specs.PrimeElements.{exponent, divisor_of_power}
use Rattle.factorisation.specs.ExtensionLaws.{bar_one, bar_mul}
use Rattle.factorisation.specs.Classes.{Cases, class_cases}
use Rattle.factorisation.specs.LongestLists.{Part, Proper, within, members_in, bar_P}
use Rattle.factorisation.specs.Monics.{Monics, monic_pow}

module _ {A B : Type 0} {𝓐 : CommRing A} {𝓑 : CommRing B} {bar : A → B} (E : Extension 𝓐 𝓑 bar) where
  infixl 70 ◌*ᴿ◌
  open 𝓐 use {mul as ◌*ᴿ◌, 𝟙}

  -- L in two lists, by the class of q
  pub record Block (q : Part E) (L : List A) : Type 0 where
    pub inside : List A
    pub outside : List A
    pub law : product 𝓐 inside *ᴿ product 𝓐 outside ≡ product 𝓐 L
    pub count : length inside ≡ members_in E q L
    pub members : All (λ x. x ∈ L × (within E x q ≡ 1)) inside
    pub coprime : Coprime 𝓑 (bar q.g) (bar (product 𝓐 outside))

  pub block : (q : Part E) (L : List A) → Block q L
  block q [] = record {
    inside = [];
    outside = [];
    law = rw (product_nil 𝓐) (𝓐.*_one 𝟙);
    count = sym (total_nil (λ x. within E x q));
    members = λ x i. absurd (Memᴰ.not-nil i);
    coprime = rw (product_nil 𝓐, bar_one E) (coprime_one 𝓑 (bar q.g));
  }
  block q (x ∷ L) = go (class_cases E q.g q.prime x) (block q L)
    where
      go : Cases E q.g q.prime x → Block q L → Block q (x ∷ L)
      go (inl (e, d)) b = record {
        inside = x ∷ b.inside;
        outside = b.outside;
        law = rw (product_cons 𝓐 x b.inside, product_cons 𝓐 x L, 𝓐.*_assoc, b.law);
        count = ap suc b.count ∙ sym (total_cons_one (λ x. within E x q) L e);
        members = all_cons (here refl, e) (λ y i. (there (b.members y i).0, (b.members y i).1));
        coprime = b.coprime;
      }
      go (inr (e, c)) b = record {
        inside = b.inside;
        outside = x ∷ b.outside;
        law = rw (product_cons 𝓐 x b.outside, product_cons 𝓐 x L, ← b.law)
            (solve 𝓐 3 (λ i x o. i ⊗ (x ⊗ o) ≈ x ⊗ (i ⊗ o)) tt (product 𝓐 b.inside) x (product 𝓐 b.outside));
        count = b.count ∙ sym (total_cons_zero (λ x. within E x q) L e);
        members = λ y i. (there (b.members y i).0, (b.members y i).1);
        coprime = rw (product_cons 𝓐 x b.outside, bar_mul E x (product 𝓐 b.outside)) (coprime_mul 𝓑 c b.coprime);
      }

  -- ---- the divisors of a part

  -- how often the bar of g divides that of x
  abbrev pub multiplicity : Part E → A → ℕ
  multiplicity q x = exponent 𝓑 q.prime q.m (bar x)

  module _ {Monic : B → Type 0} (M : Monics 𝓑 Monic) (q : Part E) (monic_g : Monic (bar q.g))
      {x : A} (divides : Divides 𝓐 x q.P) (monic : Monic (bar x)) where
    pub divisor_bar : bar x ≡ pow 𝓑 (bar q.g) (multiplicity q x)
    divisor_bar =
        M.equal monic (monic_pow M (multiplicity q x) monic_g)
        (divisor_of_power 𝓑 q.prime q.m (bar x) (rw (bar_P E q) at (keeps_divides E.hom divides)))

    pub divisor_pos : Proper E x → 1 ≤ multiplicity q x
    divisor_pos proper = go (multiplicity q x) divisor_bar
      where
        go : (e : ℕ) → bar x ≡ pow 𝓑 (bar q.g) e → 1 ≤ e
        go zero h = absurd (proper (rw (h, pow_zero 𝓑 (bar q.g)) (divides_refl 𝓑 𝓑.𝟙)))
        go (suc e) h = suc-le-suc zero-le
