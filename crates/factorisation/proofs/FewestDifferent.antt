-- The number of different members of a longest list.
-- Proves that a part whose longest lists should have two different members is no s-th power, and so that a longest list has at least
-- Σ z different members (E). Assumes nothing.
use Rattle.std.specs.Prelude.{◌≡◌, ◌⊎◌, List, length, ℕ, suc, ◌≤◌, ◌<◌, ◌-◌, ◌*◌}
use Rattle.std.proofs.Common.{sym, ◌∙◌, ap, ap₂, inl, inr, ⊎_elim, arith, eq-or-lt_of_le, mul-le-mul_left}
use Rattle.std.proofs.Math.Path.{◌≡⟨◌⟩◌, ◌∎}
use Rattle.std.proofs.Math.Decide.{dec_le}
use Rattle.algebra.specs.Ring.{CommRing, zero_mul, add_left_cancel}
use Rattle.algebra.specs.Divisibility.{◌∣◌ as Divides, pow, pow_one, pow_mul, pow_divides, divides_mul, divides_mul_right}
use Rattle.algebra.specs.Extension.{Extension}
use Rattle.lists.specs.Members.{◌∈◌, All}
use Rattle.factorisation.specs.MemberProducts.{product_equal}
use Rattle.lists.specs.Sums.{total, total_one, total_mono, total_swap, member_le, two_le, positive_member}
use Rattle.lists.specs.Distinct.{distinct, distinct_keeps, distinct_only}
use Rattle.factorisation.specs.PrimeElements.{pow_injective}
use Rattle.factorisation.specs.ExtensionLaws.{number, bar_mul, bar_number, bar_pow, difference, π_injective, binomial}
use Rattle.factorisation.specs.LongestLists.{Part, IsSplit, Apart, LongestList, Proper, within, bar_P}
use Rattle.factorisation.proofs.LongestLists.{class_exactly, one_class}
use Rattle.factorisation.specs.Monics.{Monics, MonicMap}
use Rattle.factorisation.specs.Blocks.{Block, block, multiplicity, divisor_bar, divisor_pos}
use Rattle.factorisation.proofs.Blocks.{block_product}

module _ {A B : Type 0} {𝓐 : CommRing A} {𝓑 : CommRing B} {bar : A → B} (E : Extension 𝓐 𝓑 bar) where
  infixl 60 ◌+ᴿ◌
  infixl 70 ◌*ᴿ◌ ◌∗◌
  open 𝓐 use {add as ◌+ᴿ◌, mul as ◌*ᴿ◌}
  open 𝓑 use {mul as ◌∗◌}
  open E use {π}

  -- ---- a split part is no s-th power

  module _ {Monic : B → Type 0} (M : Monics 𝓑 Monic) (q : Part E) (split : IsSplit E q) (monic_g : Monic (bar q.g))
      (x : A) (monic : Monic (bar x)) (proper : Proper E x) (power : pow 𝓐 x q.s ≡ q.P) where
    open q use {g, prime, m, h, s}

    -- the bar of x is G^e
    abbrev e : ℕ
    e = multiplicity E q x

    -- one less than s
    abbrev k : ℕ
    k = s - 1

    sk : s ≡ suc k
    sk = omega (arith, split.two)

    divides : Divides 𝓐 x q.P
    divides = rw (pow_one 𝓐 x, power) at (pow_divides 𝓐 x q.one)

    bar_x : bar x ≡ pow 𝓑 (bar g) e
    bar_x = divisor_bar E M q monic_g divides monic

    exponents : s * e ≡ m
    exponents = pow_injective 𝓑 prime (s * e) m bars
      where
        bars : pow 𝓑 (bar g) (s * e) ≡ pow 𝓑 (bar g) m
        bars =
            pow 𝓑 (bar g) (s * e) ≡⟨ pow_mul 𝓑 (bar g) s e ⟩
            pow 𝓑 (pow 𝓑 (bar g) e) s ≡⟨ ap (λ b. pow 𝓑 b s) (sym bar_x) ⟩
            pow 𝓑 (bar x) s ≡⟨ sym (bar_pow E x s) ⟩
            bar (pow 𝓐 x s) ≡⟨ ap bar power ⟩
            bar q.P ≡⟨ bar_P E q ⟩
            pow 𝓑 (bar g) m ∎

    -- x = g^e + π·y, so h has the bar s·G^(e(s−1))·y
    bar_h : (y : B) × (bar h ≡ number 𝓑 s ∗ (pow 𝓑 (bar g) (k * e) ∗ y))
    bar_h = let (y, d) = difference E (bar_x ∙ sym (bar_pow E g e)) in (bar y, π_injective E (add_left_cancel 𝓐 (same y d)) ∙ bar_term y)
      where
        bar_term : (y : A) → bar (number 𝓐 s *ᴿ (pow 𝓐 (pow 𝓐 g e) k *ᴿ y)) ≡ number 𝓑 s ∗ (pow 𝓑 (bar g) (k * e) ∗ bar y)
        bar_term y = bar_mul E (number 𝓐 s) (pow 𝓐 (pow 𝓐 g e) k *ᴿ y) ∙ ap₂ ◌∗◌ (bar_number E s) (bar_mul E (pow 𝓐 (pow 𝓐 g e) k) y
            ∙ ap (λ b. b ∗ bar y) (bar_pow E (pow 𝓐 g e) k ∙ ap (λ b. pow 𝓑 b k) (bar_pow E g e) ∙ sym (pow_mul 𝓑 (bar g) k e)))

        powers : pow 𝓐 (pow 𝓐 g e) (suc k) ≡ pow 𝓐 g m
        powers = sym (pow_mul 𝓐 g (suc k) e) ∙ ap (pow 𝓐 g) (ap (λ n. n * e) (sym sk) ∙ exponents)

        same : (y : A) → x ≡ pow 𝓐 g e +ᴿ π *ᴿ y → pow 𝓐 g m +ᴿ π *ᴿ h ≡ pow 𝓐 g m +ᴿ π *ᴿ (number 𝓐 s *ᴿ (pow 𝓐 (pow 𝓐 g e) k *ᴿ y))
        same y d =
            pow 𝓐 g m +ᴿ π *ᴿ h ≡⟨ sym q.shape ⟩
            q.P ≡⟨ sym power ⟩
            pow 𝓐 x s ≡⟨ ap₂ (pow 𝓐) d sk ⟩
            pow 𝓐 (pow 𝓐 g e +ᴿ π *ᴿ y) (suc k) ≡⟨ binomial E k (pow 𝓐 g e) y ⟩
            pow 𝓐 (pow 𝓐 g e) (suc k) +ᴿ π *ᴿ (number 𝓐 (suc k) *ᴿ (pow 𝓐 (pow 𝓐 g e) k *ᴿ y)) ≡⟨ (rw (powers, ← sk)) ⟩
            pow 𝓐 g m +ᴿ π *ᴿ (number 𝓐 s *ᴿ (pow 𝓐 (pow 𝓐 g e) k *ᴿ y)) ∎

    -- e = 1: then s = m, and s·1 = 0 in B, so the bar of h is 0
    once : 1 ≡ e → ⊥
    once l = split.exact (𝓑.𝟘, zero_mul 𝓑 (pow 𝓑 (bar g) s) ∙ sym (bar_h.1 ∙ ap (λ n. n ∗ rest) none ∙ zero_mul 𝓑 rest))
      where
        equal : s ≡ m
        equal = omega (arith, exponents, ap (λ n. s * n) l)

        none : number 𝓑 s ≡ 𝓑.𝟘
        none = ap (number 𝓑) equal ∙ split.null equal

        rest : B
        rest = pow 𝓑 (bar g) (k * e) ∗ bar_h.0

    -- e ≥ 2: then e(s−1) ≥ s
    more : 1 < e → ⊥
    more l =
        split.exact
        (rw bar_h.1
        (divides_mul 𝓑 (number 𝓑 s) (divides_mul_right 𝓑 bar_h.0 (pow_divides 𝓑 (bar g) (omega (arith, split.two, mul-le-mul_left k l))))))

    no_power : ⊥
    no_power = ⊎_elim once more (eq-or-lt_of_le (divisor_pos E M q monic_g divides monic proper))

  -- ---- claim E

  module _ {MonicA : A → Type 0} {MonicB : B → Type 0} (M : MonicMap 𝓐 𝓑 bar MonicA MonicB)
      {Q : List (Part E)} (apart : Apart E Q) {L : List A} (l : LongestList E Q L) (monic_l : All MonicA L)
      (monic_q : All (λ q. MonicA q.g × MonicA q.P) Q) (dec : Discrete A) where
    -- the different members in the class of q
    abbrev different : Part E → ℕ
    different q = total (λ x. within E x q) (distinct dec L)

    class_different : (q : Part E) → q ∈ Q → q.z ≤ different q
    class_different q i = go (positive_member (λ x. within E x q) L (omega (arith, class_exactly E apart l q i, q.one))) q.few
      where
        b : Block E q L
        b = block E q L

        go : (x : A) × x ∈ L × (1 ≤ within E x q) → (q.z ≤ 1) ⊎ ((q.z ≤ 2) × IsSplit E q) → q.z ≤ different q
        go (x, j, w) (inl z) = omega (arith, member_le (λ x. within E x q) (distinct_keeps dec L x j))
        go (x, j, w) (inr (z, split)) = two (dec_le 2 (different q))
          where
            two : Dec (2 ≤ different q) → q.z ≤ different q
            two (yes t) = omega arith
            two (no n) =
                absurd (no_power M.below q split (M.bar_monic (monic_q q i).0) x (M.bar_monic (monic_l x j)) (l.list.proper x j)
                (ap (pow 𝓐 x) (sym (class_exactly E apart l q i) ∙ sym b.count) ∙ sym (product_equal 𝓐 b.inside same)
                ∙ block_product E M.above apart l monic_l q i (monic_q q i).1 b))
              where
                same : All (λ y. y ≡ x) b.inside
                same y c = let (o, u) = b.members y c in equal o u (dec y x)
                  where
                    equal : y ∈ L → within E y q ≡ 1 → Dec (y ≡ x) → y ≡ x
                    equal o u (yes t) = t
                    equal o u (no d) =
                        absurd (n (omega (arith, two_le (λ x. within E x q) d (distinct_keeps dec L y o) (distinct_keeps dec L x j))))

    -- E
    pub different_at_least : total (λ q. q.z) Q ≤ length (distinct dec L)
    different_at_least =
        omega (
          arith,
          total_mono (λ q. q.z) different Q class_different,
          total_swap (within E) (distinct dec L) Q,
          total_mono (λ x. total (within E x) Q) (λ x. 1) (distinct dec L)
              (λ x i. omega (arith, one_class E apart l x (distinct_only dec L x i))),
          total_one (distinct dec L),
        )
