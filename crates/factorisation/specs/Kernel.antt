-- The kernel of a square-zero extension: the elements with bar 𝟘.
-- Proves that it holds the differences of elements with equal bars and the multiples of its elements, that it adds nothing to a bar, and that a
-- product of two of its elements is 𝟘. Assumes nothing.
use Rattle.std.specs.Prelude.{◌≡◌}
use Rattle.std.proofs.Common.{◌∙◌, ap, ap₂}
use Rattle.algebra.specs.Ring.{CommRing, add_zero, mul_zero, zero_mul, sub_self}
use Rattle.algebra.specs.Identities.{◌⊗◌, ◌≈◌, solve}
use Rattle.algebra.specs.Homomorphisms.{keeps_neg}
use Rattle.algebra.specs.Extension.{Extension}

module _ {A B : Type 0} {𝓐 : CommRing A} {𝓑 : CommRing B} {bar : A → B} (E : Extension 𝓐 𝓑 bar) where
  infixl 60 ◌+ᴿ◌
  infixl 70 ◌*ᴿ◌
  open 𝓐 use {add as ◌+ᴿ◌, mul as ◌*ᴿ◌, neg, 𝟘}
  open E use {hom, π, part}

  pub bar_sub : (a b : A) → bar (a +ᴿ neg b) ≡ 𝓑.add (bar a) (𝓑.neg (bar b))
  bar_sub a b = hom.keeps_add a (neg b) ∙ ap (𝓑.add (bar a)) (keeps_neg hom b)

  pub kernel_sub : {a b : A} → bar a ≡ bar b → bar (a +ᴿ neg b) ≡ 𝓑.𝟘
  kernel_sub {a} {b} e = bar_sub a b ∙ sub_self 𝓑 e

  pub kernel_multiple : {a : A} (b : A) → bar a ≡ 𝓑.𝟘 → bar (a *ᴿ b) ≡ 𝓑.𝟘
  kernel_multiple {a} b e = hom.keeps_mul a b ∙ ap (λ z. 𝓑.mul z (bar b)) e ∙ zero_mul 𝓑 (bar b)

  pub bar_add_kernel : (a : A) {b : A} → bar b ≡ 𝓑.𝟘 → bar (a +ᴿ b) ≡ bar a
  bar_add_kernel a {b} e = hom.keeps_add a b ∙ ap (𝓑.add (bar a)) e ∙ add_zero 𝓑 (bar a)

  pub kernel_mul : {a b : A} → bar a ≡ 𝓑.𝟘 → bar b ≡ 𝓑.𝟘 → a *ᴿ b ≡ 𝟘
  kernel_mul {a} {b} e e' =
      ap₂ ◌*ᴿ◌ (E.kernel a e) (E.kernel b e')
      ∙ solve 𝓐 3 (λ π x y. π ⊗ x ⊗ (π ⊗ y) ≈ x ⊗ y ⊗ (π ⊗ π)) tt π (part a) (part b)
      ∙ ap (λ z. part a *ᴿ part b *ᴿ z) E.square ∙ mul_zero 𝓐 (part a *ᴿ part b)
