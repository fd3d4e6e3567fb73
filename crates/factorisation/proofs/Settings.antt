-- Settings of one part: its longest lists, the member of highest multiplicity last.
-- Proves that all members but the last have the bar G; LastMember has what they leave of the part. Assumes nothing.
use Rattle.std.specs.Prelude.{◌≡◌, refl, ◌⊎◌, List, ◌∷◌, ℕ, suc, ◌≤◌, ◌+◌}
use Rattle.std.proofs.Common.{sym, ◌∙◌, ap, inl, inr, ⊎_elim, arith}
use mathlib.Core.List.Memᴰ.{head as here}
use mathlib.Core.List.Memᴰ.{tail as there}
use Rattle.algebra.specs.Numbers.{lt_or_le}
use Rattle.algebra.specs.Ring.{CommRing, add_left_cancel}
use Rattle.algebra.specs.Divisibility.{◌∣◌ as Divides, pow, pow_one, pow_divides, divides_trans}
use Rattle.algebra.specs.Extension.{Extension}
use Rattle.lists.specs.Members.{◌∈◌, All, all_cons}
use Rattle.factorisation.specs.MemberProducts.{member_divides}
use Rattle.lists.specs.Sums.{total, total_cons, total_one, total_mono, total_equal, member_le}
use Rattle.factorisation.specs.PrimeElements.{pow_injective}
use Rattle.factorisation.specs.ExtensionLaws.{bar_pow_π, π_injective}
use Rattle.factorisation.specs.LongestLists.{Part, bar_P}
use Rattle.factorisation.specs.Monics.{Monics}
use Rattle.factorisation.specs.Blocks.{multiplicity, divisor_bar, divisor_pos}
use Rattle.factorisation.specs.Settings.{Setting, Form, form, Power}

module _ {A B : Type 0} {𝓐 : CommRing A} {𝓑 : CommRing B} {bar : A → B} (E : Extension 𝓐 𝓑 bar) (Monic : B → Type 0) (q : Part E) where
  infixl 60 ◌+ᴿ◌
  infixl 70 ◌*ᴿ◌
  infix 50 ◌∣◌
  open 𝓐 use {add as ◌+ᴿ◌, mul as ◌*ᴿ◌, 𝟘}
  open E use {π}
  open q use {g, prime, m, P, h, s}

  -- of bars
  abbrev ◌∣◌ : B → B → Type 0
  ◌∣◌ = Divides 𝓑

  abbrev e : A → ℕ
  e = multiplicity E q

  module _ (M : Monics 𝓑 Monic) (monic_g : Monic (bar g)) (r : ℕ) (sr : s + r ≡ m)
      {xs : List A} {y : A} (l : Setting E Monic q xs y) where
    abbrev L : List A
    L = y ∷ xs

    divides : {x : A} → x ∈ L → Divides 𝓐 x P
    divides i = rw l.factors at (member_divides 𝓐 i)

    powers : All (Power E Monic q) L
    powers x i = divisor_bar E M q monic_g (divides i) (l.monic x i)

    positive : (x : A) → x ∈ L → 1 ≤ e x
    positive x i = divisor_pos E M q monic_g (divides i) (l.monic x i) (l.proper x i)

    sum : total e L ≡ m
    sum =
        let f = form E Monic q (total e L) L powers (λ x i. member_le e i) in
        pow_injective 𝓑 prime (total e L) m
        (sym (ap bar f.law ∙ bar_pow_π E g f.T (total e L)) ∙ ap bar l.factors ∙ bar_P E q)

    -- if all multiplicities were r or less, G^s would divide the bar of h
    large : ¬ (All (λ x. e x ≤ r) L)
    large b = go q.longest
      where
        f : Form E Monic q r L
        f = form E Monic q r L powers b

        same : bar h ≡ bar f.T
        same = π_injective E (add_left_cancel 𝓐 (sym q.shape ∙ sym l.factors ∙ f.law ∙ ap (λ n. pow 𝓐 g n +ᴿ π *ᴿ f.T) sum))

        go : (m ≤ s) ⊎ ¬ (pow 𝓑 (bar g) s ∣ bar h) → ⊥
        go (inl t) = omega (arith, t, sr, b y (here refl), positive y (here refl))
        go (inr n) = n (rw same (divides_trans 𝓑 (pow_divides 𝓑 (bar g) (omega (arith, sum, sr))) f.divides))

    last_large : suc r ≤ e y
    last_large =
        ⊎_elim (λ t. t) (λ t. absurd (large (all_cons t (λ x i. omega (arith, t, l.order x i))))) (lt_or_le r (e y))

    ones : (x : A) → x ∈ xs → 1 ≤ e x
    ones x i = positive x (there i)

    last_is : e y ≡ suc r
    last_is = omega (arith, sum, total_cons e y xs, total_one xs, total_mono (λ x. 1) e xs ones, last_large, sr, l.count)

    first_is : (x : A) → x ∈ xs → 1 ≡ e x
    first_is = total_equal (λ x. 1) e xs ones (omega (arith, sum, total_cons e y xs, total_one xs, last_is, sr, l.count))

    pub first_bar : All (λ x. bar x ≡ bar g) xs
    first_bar x i = powers x (there i) ∙ ap (pow 𝓑 (bar g)) (sym (first_is x i)) ∙ pow_one 𝓑 (bar g)
