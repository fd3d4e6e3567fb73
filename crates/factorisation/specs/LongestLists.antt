-- Lists of non-units with the product of given parts P = g^m + π·h, whose bars are pairwise coprime; s is claimed of each part.
-- Proves that a part's bar is coprime to what the other parts multiply to, its `Cofactor`; what is claimed of the lists is in proofs/. Assumes nothing.
use Rattle.std.specs.Prelude.{◌≡◌, ◌⊎◌, List, [], ◌∷◌, map, length, ℕ, ◌≤◌}
use Rattle.std.proofs.Common.{sym, ◌∙◌, ap, inl, inr, arith}
use mathlib.Core.List.Memᴰ
use Rattle.algebra.specs.Ring.{CommRing}
use Rattle.algebra.specs.Identities.{◌⊗◌, ◌≈◌, solve}
use Rattle.algebra.specs.Divisibility.{◌∣◌ as Divides, Coprime, pow, product, product_cons, coprime_sym, coprime_mul, coprime_pow}
use Rattle.algebra.specs.Extension.{Extension}
use Rattle.lists.specs.Members.{◌∈◌, All, all_map}
use Rattle.lists.specs.Sums.{total, total_cons, member_le}
use Rattle.factorisation.specs.PrimeElements.{PrimeElement}
use Rattle.factorisation.specs.ExtensionLaws.{number, bar_mul, bar_pow_π, coprime_bar_product}
use Rattle.factorisation.specs.Classes.{in_class, class_size, outside_coprime}

module _ {A B : Type 0} {𝓐 : CommRing A} {𝓑 : CommRing B} {bar : A → B} (E : Extension 𝓐 𝓑 bar) where
  infixl 60 ◌+ᴿ◌
  infixl 70 ◌*ᴿ◌
  infix 50 ◌∣◌
  open 𝓐 use {add as ◌+ᴿ◌, mul as ◌*ᴿ◌}
  open E use {π}

  -- of bars
  abbrev ◌∣◌ : B → B → Type 0
  ◌∣◌ = Divides 𝓑

  -- the case in which a longest list has two different members: item 9, split
  pub record Split (g h : A) (m s : ℕ) : Type 0 where
    pub two : 2 ≤ s
    pub exact : ¬ (pow 𝓑 (bar g) s ∣ bar h)
    pub null : s ≡ m → number 𝓑 m ≡ 𝓑.𝟘

  -- items 2 and 5: a primary part P with bar G^m, P = g^m + π·h; s bounds its factors with repeats, z the different ones from below
  pub record Part : Type 0 where
    pub g : A
    pub prime : PrimeElement 𝓑 (bar g)
    pub m : ℕ
    pub P : A
    pub h : A
    pub shape : P ≡ pow 𝓐 g m +ᴿ π *ᴿ h
    pub s : ℕ
    pub one : 1 ≤ s
    pub longest : (m ≤ s) ⊎ ¬ (pow 𝓑 (bar g) s ∣ bar h)
    pub z : ℕ
    pub few : (z ≤ 1) ⊎ ((z ≤ 2) × Split g h m s)

  abbrev pub IsSplit : Part → Type 0
  IsSplit q = Split q.g q.h q.m q.s

  pub bar_P : (q : Part) → bar q.P ≡ pow 𝓑 (bar q.g) q.m
  bar_P q = ap bar q.shape ∙ bar_pow_π E q.g q.h q.m

  abbrev pub Apart : List Part → Type 0
  Apart [] = Unit {0}
  Apart (q ∷ Q) = All (λ r. Coprime 𝓑 (bar q.g) (bar r.g)) Q × Apart Q

  abbrev pub whole : List Part → A
  whole Q = product 𝓐 (map (λ q. q.P) Q)

  abbrev pub size : List Part → ℕ
  size Q = total (λ q. q.s) Q

  -- 1 if x is in the class of q, and else 0
  abbrev pub within : A → Part → ℕ
  within x q = in_class E q.g q.prime x

  abbrev pub members_in : Part → List A → ℕ
  members_in q L = class_size E q.g q.prime L

  -- no unit, as degree 1 or more says of a monic polynomial
  abbrev pub Proper : A → Type 0
  Proper x = ¬ (bar x ∣ 𝓑.𝟙)

  pub record FactorList (Q : List Part) (L : List A) : Type 0 where
    pub factors : product 𝓐 L ≡ whole Q
    pub proper : All Proper L

  pub record LongestList (Q : List Part) (L : List A) : Type 0 where
    pub list : FactorList Q L
    pub full : length L ≡ size Q

  -- ---- the other parts

  pub coprime_whole : (b : B) (Q : List Part) → All (λ q. Coprime 𝓑 b (bar q.g)) Q → Coprime 𝓑 b (bar (whole Q))
  coprime_whole b Q h =
      coprime_bar_product E b (map (λ q. q.P) Q)
      (all_map (λ x. Coprime 𝓑 b (bar x)) (λ q. q.P) Q (λ q i. rw (bar_P q) (coprime_pow 𝓑 q.m (h q i))))

  pub outside : (x : A) (q : Part) → within x q ≤ 0 → Coprime 𝓑 (bar x) (bar q.g)
  outside x q l = coprime_sym 𝓑 (outside_coprime E q.g q.prime x l)

  -- x in no class
  pub outside_all : (x : A) (Q : List Part) → total (within x) Q ≤ 0 → Coprime 𝓑 (bar x) (bar (whole Q))
  outside_all x Q l = coprime_whole (bar x) Q (λ q i. outside x q (omega (arith, member_le (within x) i)))

  pub record Cofactor (q : Part) (Q : List Part) : Type 0 where
    pub C : A
    pub law : q.P *ᴿ C ≡ whole Q
    pub coprime : Coprime 𝓑 (bar q.g) (bar C)
    -- what is in no class but that of q
    pub others : (x : A) → total (within x) Q ≤ within x q → Coprime 𝓑 (bar x) (bar C)

  times_part : (r : Part) {b : B} {C : A} → Coprime 𝓑 b (bar r.g) → Coprime 𝓑 b (bar C) → Coprime 𝓑 b (bar (r.P *ᴿ C))
  times_part r {b} {C} c d = rw (bar_mul E r.P C, bar_P r) (coprime_mul 𝓑 (coprime_pow 𝓑 r.m c) d)

  cofactor_in : (Q : List Part) → Apart Q → (q : Part) → q ∈ Q → Cofactor q Q
  cofactor_in [] _ q i = elim i [ ]
  cofactor_in (r ∷ Q) (a, apart) q m = go (Memᴰ.cases_cons m) (cofactor_in Q apart q)
    where
      go : (q ≡ r) ⊎ (q ∈ Q) → (q ∈ Q → Cofactor q Q) → Cofactor q (r ∷ Q)
      go (inl e) f = rw e record {
        C = whole Q;
        law = sym (product_cons 𝓐 r.P (map (λ q. q.P) Q));
        coprime = coprime_whole (bar r.g) Q a;
        others = λ x l. outside_all x Q (omega (arith, total_cons (within x) r Q));
      }
      go (inr i) f =
          let c = f i in
          record {
            C = r.P *ᴿ c.C;
            law = solve 𝓐 3 (λ p r c. p ⊗ (r ⊗ c) ≈ r ⊗ (p ⊗ c)) tt q.P r.P c.C ∙ ap (λ x. r.P *ᴿ x) c.law
                ∙ sym (product_cons 𝓐 r.P (map (λ q. q.P) Q));
            coprime = times_part r (coprime_sym 𝓑 (a q i)) c.coprime;
            others = λ x l.
                let k = total_cons (within x) r Q in
                let n = member_le (within x) i in
                times_part r (outside x r (omega arith)) (c.others x (omega arith));
          }

  pub cofactor : {q : Part} {Q : List Part} → Apart Q → q ∈ Q → Cofactor q Q
  cofactor {q} {Q} apart i = cofactor_in Q apart q i
