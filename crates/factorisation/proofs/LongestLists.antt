-- What is claimed of lists of non-units with the product of given parts P = g^m + π·h, whose bars are pairwise coprime.
-- Proves: no such list has more than Σ s members (B); in a list of Σ s members, each is in exactly one class and the class of a part
-- has exactly s members (D), and no member is a product of two non-units (C). Assumes nothing.
use Rattle.std.specs.Prelude.{◌≡◌, refl, ◌≢◌, List, length, ℕ, zero, suc, ◌≤◌}
use Rattle.std.proofs.Common.{sym, ◌∙◌, arith}
use Rattle.algebra.specs.Ring.{CommRing}
use Rattle.algebra.specs.Divisibility.{gauss}
use Rattle.algebra.specs.Homomorphisms.{keeps_divides}
use Rattle.algebra.specs.Extension.{Extension}
use Rattle.lists.specs.Members.{◌∈◌, replace, replace_length, replace_all}
use Rattle.factorisation.specs.MemberProducts.{member_divides, replace_product}
use Rattle.lists.specs.Sums.{total, total_one, total_mono, total_equal, total_swap}
use Rattle.factorisation.specs.Classes.{class_bound}
use Rattle.factorisation.specs.LongestLists.{Part, Apart, Proper, FactorList, LongestList, cofactor, whole, size, within, members_in, outside_all}

module _ {A B : Type 0} {𝓐 : CommRing A} {𝓑 : CommRing B} {bar : A → B} (E : Extension 𝓐 𝓑 bar) where
  infixl 60 ◌+ᴿ◌
  infixl 70 ◌*ᴿ◌
  open 𝓐 use {add as ◌+ᴿ◌, mul as ◌*ᴿ◌}
  open E use {π}

  module _ {Q : List (Part E)} (apart : Apart E Q) where
    module _ {L : List A} (l : FactorList E Q L) where
      class_at_most : (q : Part E) → q ∈ Q → members_in E q L ≤ q.s
      class_at_most q i =
          let c = cofactor E apart i in
          class_bound E q.g q.prime q.m q.shape c.coprime L (l.factors ∙ sym c.law) q.s q.longest

      -- a member in no class would be coprime to the product, which it divides
      some_class : (x : A) → x ∈ L → 1 ≤ total (within E x) Q
      some_class x i = go (total (within E x) Q) refl
        where
          go : (n : ℕ) → total (within E x) Q ≡ n → 1 ≤ n
          go zero e =
              absurd (l.proper x i (gauss 𝓑 {c = bar (whole E Q)} (outside_all E x Q (omega arith))
              (rw (𝓑.*_one (bar (whole E Q))) (keeps_divides E.hom (rw l.factors at (member_divides 𝓐 i))))))
          go (suc n) e = omega arith

      swapped : total (λ x. total (within E x) Q) L ≡ total (λ q. members_in E q L) Q
      swapped = total_swap (within E) L Q

      length_le : length L ≤ total (λ q. members_in E q L) Q
      length_le = omega (arith, total_one L, total_mono (λ x. 1) (λ x. total (within E x) Q) L some_class, swapped)

      members_le : total (λ q. members_in E q L) Q ≤ size E Q
      members_le = total_mono (λ q. members_in E q L) (λ q. q.s) Q class_at_most

      -- B
      pub length_at_most : length L ≤ size E Q
      length_at_most = omega (arith, length_le, members_le)

    module _ {L : List A} (l : LongestList E Q L) where
      -- D
      pub class_exactly : (q : Part E) → q ∈ Q → members_in E q L ≡ q.s
      class_exactly =
          total_equal (λ q. members_in E q L) (λ q. q.s) Q (class_at_most l.list) (omega (arith, l.full, length_le l.list))

      -- D
      pub one_class : (x : A) → x ∈ L → total (within E x) Q ≡ 1
      one_class x i =
          sym (total_equal (λ x. 1) (λ x. total (within E x) Q) L (some_class l.list)
          (omega (arith, total_one L, l.full, swapped l.list, members_le l.list)) x i)

      -- C: two factors in place of a member would give a longer list
      pub no_product_lem : (x : A) → x ∈ L → (a b : A) → Proper E a → Proper E b → x ≢ a *ᴿ b
      no_product_lem x i a b p q e =
          let longer : FactorList E Q (replace i a b) = record {
            factors = replace_product 𝓐 i e ∙ l.list.factors;
            proper = replace_all i a b p q l.list.proper;
          } in
          omega (arith, length_at_most longer, replace_length i a b, l.full)
