-- Proves that the block of a part in a longest list multiplies to the part. Assumes nothing.
use Rattle.std.specs.Prelude.{◌≡◌, List}
use Rattle.std.proofs.Common.{sym, ◌∙◌, arith}
use Rattle.algebra.specs.Ring.{CommRing}
use Rattle.algebra.specs.Divisibility.{Coprime, product, coprime_sym, coprime_pow, gauss}
use Rattle.algebra.specs.Extension.{Extension}
use Rattle.lists.specs.Members.{◌∈◌, All}
use Rattle.factorisation.specs.ExtensionLaws.{coprime_lift, coprime_bar_product}
use Rattle.factorisation.specs.LongestLists.{Part, Apart, LongestList, Cofactor, bar_P, cofactor}
use Rattle.factorisation.specs.Monics.{Monics, monic_product}
use Rattle.factorisation.specs.Blocks.{Block}
use Rattle.factorisation.proofs.LongestLists.{one_class}

module _ {A B : Type 0} {𝓐 : CommRing A} {𝓑 : CommRing B} {bar : A → B} (E : Extension 𝓐 𝓑 bar) where
  infixl 70 ◌*ᴿ◌
  open 𝓐 use {mul as ◌*ᴿ◌, 𝟙}

  module _ {Monic : A → Type 0} (M : Monics 𝓐 Monic) {Q : List (Part E)} (apart : Apart E Q)
      {L : List A} (l : LongestList E Q L) (monic : All Monic L) where
    -- inside·outside = P·C, each coprime to the other's cofactor
    pub block_product : (q : Part E) → q ∈ Q → Monic q.P → (b : Block E q L) → product 𝓐 b.inside ≡ q.P
    block_product q i monicP b =
        M.equal (monic_product M b.inside (λ x j. monic x (b.members x j).0)) monicP (
          gauss 𝓐 (coprime_sym 𝓐 (coprime_lift E C_inside)) (product 𝓐 b.outside, 𝓐.*_comm _ _ ∙ both),
          gauss 𝓐 (coprime_sym 𝓐 (coprime_lift E outside_P)) (c.C, 𝓐.*_comm _ _ ∙ sym both),
        )
      where
        c : Cofactor E q Q
        c = cofactor E apart i

        both : product 𝓐 b.inside *ᴿ product 𝓐 b.outside ≡ q.P *ᴿ c.C
        both = b.law ∙ l.list.factors ∙ sym c.law

        C_inside : Coprime 𝓑 (bar c.C) (bar (product 𝓐 b.inside))
        C_inside =
            coprime_bar_product E (bar c.C) b.inside
            (λ x j. let (k, e) = b.members x j in coprime_sym 𝓑 (c.others x (omega (arith, one_class E apart l x k))))

        outside_P : Coprime 𝓑 (bar (product 𝓐 b.outside)) (bar q.P)
        outside_P = rw (bar_P E q) (coprime_pow 𝓑 q.m (coprime_sym 𝓑 b.coprime))
