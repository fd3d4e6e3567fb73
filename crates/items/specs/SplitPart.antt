-- What the factors of a primary part give: a part of the theory of longest lists, and the shape of the list that is written.
-- Proves it of one factor, and of two, from what their powers multiply to. Assumes nothing.
use Rattle.std.specs.Prelude.{◌≡◌, refl, ◌⊎◌, length, ℕ, suc, ◌≤◌, ◌<◌, ◌-◌, ◌+◌, ◌*◌}
use Rattle.std.proofs.Common.{sym, ◌∙◌, ap, subst, inl, inr, ⊎_elim, mul-le-mul_left, mul-le-mul_right, arith}
use mathlib.Core.List.{List, [], ◌∷◌, map, flat_map}
use mathlib.Core.List.Memᴰ.{head as here}
use mathlib.Core.List.Memᴰ.{tail as there}
use Rattle.specification.specs.Polynomials as spec
use Rattle.specification.specs.Parts.{Factor, factor}
use Rattle.specification.specs.Totals.{copies}
use Rattle.specification.specs.Longest as claimed
use Rattle.specification.specs.Limits.{◌²}
use Rattle.algebra.specs.Numbers.{lt_or_le, square_large}
use Rattle.algebra.specs.Ring.{CommRing}
use Rattle.algebra.specs.Divisibility.{◌∣◌, pow, pow_one, product, product_one, product_cons}
use Rattle.algebra.specs.PolynomialRing.{◌·◌, 𝟎}
use Rattle.algebra.specs.Degree.{Monic}
use Rattle.algebra.specs.Fields.{Prime, residue_nontrivial}
use Rattle.algebra.specs.CoefficientLists.{ℤ[x]/, poly, 𝓩[x]/}
use Rattle.lists.specs.Members.{◌∈◌, All, all_cons}
use Rattle.lists.specs.Sums.{total, total_nil, total_cons}
use Rattle.factorisation.specs.ExtensionLaws.{number}
use Rattle.factorisation.specs.MonicDivisors.{monic_degree}
use Rattle.factorisation.specs.LongestLists.{Part, Split}
use Rattle.items.specs.MonicLists.{monic_poly, monic_same}
use Rattle.items.specs.Reductions.{LiftOf, barred, lift_over, extension}
use Rattle.items.specs.Irreducibles.{prime_poly}
use Rattle.items.specs.Factors.{degrees, repeats, length_members, members_monic, powered, poly_members}
use Rattle.items.specs.PartForm.{PartOver, PowerDivides, h, shape, bar_h}

-- one factor, or two, the first of the degree of G
abbrev OneOrTwo : spec.Poly → List Factor → Type 0
OneOrTwo G qs =
    ((q : Factor) × (qs ≡ q ∷ [])) ⊎ ((q : Factor) × (r : Factor) × (qs ≡ q ∷ r ∷ []) × (spec.degree q.poly ≡ spec.degree G))

-- the factors qs of a part over G to the m
pub record SplitPart (p : ℕ) (large : 1 < p) (G : spec.Poly) (m : ℕ) (part : spec.Poly) (qs : List Factor) : Type 0 where
  pub monic : (q : Factor) → q ∈ qs → claimed.Monic (p ²) q.poly
  pub repeated : (q : Factor) → q ∈ qs → 1 ≤ q.times
  pub multiplies : spec.product (p ²) (flat_map copies qs) ≡ part
  pub degree_sum : degrees qs ≡ m * spec.degree G
  pub not_lower : (q : Factor) → q ∈ qs → spec.degree G ≤ spec.degree q.poly
  -- the part as the theory of longest lists has it, for as many factors as are written, each entry of qs a different one
  pub ring : Part (extension p large)
  pub g_monic : Monic (spec.degree G) ring.g
  pub g_bar : barred p large ring.g ≡ poly p G
  pub m_is : ring.m ≡ m
  pub part_is : ring.P ≡ poly (p ²) part
  pub s_is : ring.s ≡ length (flat_map copies qs)
  pub z_is : ring.z ≡ length qs
  -- s is m at most, and G^(s − 1) divides h bar
  pub room : ring.s ≤ m
  pub divides : ◌∣◌ (𝓩[x]/ p) (pow (𝓩[x]/ p) (poly p G) (ring.s - 1)) (barred p large ring.h)

-- where the repeats are m at most, a factor of lower degree than G would leave the degrees' sum too small
lowest : (d e t u m : ℕ) → 1 ≤ t → t + u ≤ m → e * t + d * u ≡ m * d → d ≤ e
lowest d e t u m one few sum = ⊎_elim (λ l. absurd (omega (arith, mul-le-mul_right t l, mul-le-mul_left d few))) (λ l. l) (lt_or_le e d)

none_lower : (G : spec.Poly) (m : ℕ) (qs : List Factor) → OneOrTwo G qs → degrees qs ≡ m * spec.degree G → repeats qs ≤ m
    → All (λ (q : Factor). 1 ≤ q.times) qs → All (λ (q : Factor). spec.degree G ≤ spec.degree q.poly) qs
unfolding total
none_lower G m qs (inl (q, e)) sum few one =
    rw e (all_cons
    (lowest (spec.degree G) (spec.degree q.poly) q.times 0 m (one q (rw e (here refl))) (omega (arith, rw e at few)) (omega (arith, rw e at sum)))
    (λ r i. elim i [ ]))
none_lower G m qs (inr (q, r, e, same)) sum few one =
    rw e (all_cons (omega arith) (all_cons
    (lowest (spec.degree G) (spec.degree r.poly) r.times q.times m (one r (rw e (there (here refl)))) (omega (arith, rw e at few))
    (omega (arith, rw e at sum, ap (λ (k : ℕ). k * q.times) same)))
    (λ r i. elim i [ ])))

module _ {p : ℕ} (prime : Prime p) {G g : spec.Poly} {m : ℕ} {part : spec.Poly} (over : PartOver p G m part) (lift : LiftOf p G g) where
  abbrev large : 1 < p
  large = prime.large

  abbrev 𝓐 : CommRing (ℤ[x]/ (p ²))
  𝓐 = 𝓩[x]/ (p ²)

  abbrev 𝓑 : CommRing (ℤ[x]/ p)
  𝓑 = 𝓩[x]/ p

  -- s factors, z different ones: no list has more, and no list of s has fewer different ones
  module _ (s z : ℕ) (one : 1 ≤ s) (room : s ≤ m) (divides : PowerDivides large over lift (s - 1)) (longest : (m ≤ s) ⊎ ¬ PowerDivides large over lift s)
      (fewest : (z ≤ 1) ⊎ ((z ≤ 2) × Split (extension p large) (poly (p ²) g) (h large over lift) m s)) where
    abbrev ring_part : Part (extension p large)
    ring_part = record {
      g = poly (p ²) g;
      prime = rw (lift_over p large lift) (prime_poly prime over.irreducible);
      m = m;
      P = poly (p ²) part;
      h = h large over lift;
      shape = shape large over lift;
      s = s;
      one = one;
      longest = rw (lift_over p large lift, bar_h large over lift) longest;
      z = z;
      few = fewest;
    }

    split_from : (qs : List Factor) → All (λ (q : Factor). claimed.Monic (p ²) q.poly) qs → All (λ (q : Factor). 1 ≤ q.times) qs
        → product 𝓐 (map (powered (p ²)) qs) ≡ poly (p ²) part
        → OneOrTwo G qs → repeats qs ≡ s → length qs ≡ z → SplitPart p large G m part qs
    split_from qs monic repeated law shape count kinds = record {
      monic = monic;
      repeated = repeated;
      multiplies = monic_same sum (members_monic (square_large p large) qs monic) over.monic (poly_members (square_large p large) qs ∙ law);
      degree_sum = sum;
      not_lower = none_lower G m qs shape sum (omega (arith, count, room)) repeated;
      ring = ring_part;
      g_monic = monic_poly lift.monic;
      g_bar = lift_over p large lift;
      m_is = refl;
      part_is = refl;
      s_is = sym (length_members qs ∙ count);
      z_is = sym kinds;
      room = room;
      divides = rw (bar_h large over lift) divides;
    }
      where
        sum : degrees qs ≡ m * spec.degree G
        sum =
            monic_degree (residue_nontrivial (square_large p large)) (monic_poly (members_monic (square_large p large) qs monic))
            (rw (poly_members (square_large p large) qs, law) (monic_poly over.monic))

  -- q, t times
  pub one_factor_lem : (q : spec.Poly) (t : ℕ) → claimed.Monic (p ²) q → 1 ≤ t → t ≤ m → PowerDivides large over lift (t - 1)
      → (m ≤ t) ⊎ ¬ PowerDivides large over lift t → pow 𝓐 (poly (p ²) q) t ≡ poly (p ²) part → SplitPart p large G m part (factor q t ∷ [])
  one_factor_lem q t monic l room divides longest law =
      split_from t 1 l room divides longest (inl (omega arith)) (factor q t ∷ []) (all_cons monic (λ r i. elim i [ ])) (all_cons l (λ r i. elim i [ ]))
      (product_one 𝓐 _ ∙ law)
      (inl (factor q t, refl)) (omega (arith, total_cons (λ (r : Factor). r.times) (factor q t) [], total_nil (λ (r : Factor). r.times))) refl

  -- q, t times, then r once
  pub two_factors_lem : (q r : spec.Poly) (t : ℕ) → claimed.Monic (p ²) q → claimed.Monic (p ²) r → 1 ≤ t → spec.degree q ≡ spec.degree G
      → suc t ≤ m → PowerDivides large over lift t
      → ¬ PowerDivides large over lift (suc t) → (suc t ≡ m → number 𝓑 m ≡ 𝟎) → pow 𝓐 (poly (p ²) q) t · poly (p ²) r ≡ poly (p ²) part
      → SplitPart p large G m part (factor q t ∷ factor r 1 ∷ [])
  two_factors_lem q r t monicq monicr l degree room divides exact null law =
      split_from (suc t) 2 (omega arith) room (subst (PowerDivides large over lift) (let s : t ≡ suc t - 1 = omega arith in s) divides) (inr exact)
      (inr (omega arith, record { two = omega arith; exact = rw (lift_over p large lift, bar_h large over lift) exact; null = null }))
      (factor q t ∷ factor r 1 ∷ [])
      (all_cons monicq (all_cons monicr (λ a i. elim i [ ]))) (all_cons l (all_cons (omega arith) (λ a i. elim i [ ])))
      (product_cons 𝓐 (pow 𝓐 (poly (p ²) q) t) _
      ∙ ap (λ a. pow 𝓐 (poly (p ²) q) t · a) (product_one 𝓐 _ ∙ pow_one 𝓐 (poly (p ²) r)) ∙ law)
      (inr (factor q t, factor r 1, refl, degree))
      (omega (
        arith,
        total_cons (λ (a : Factor). a.times) (factor q t) (factor r 1 ∷ []),
        total_cons (λ (a : Factor). a.times) (factor r 1) [],
        total_nil (λ (a : Factor). a.times),
      )) refl
