-- Settings of one part: its longest lists, "the factor of higher degree last, if there is one".
-- Proves that they are numbered by d·(s − 1) digits, which give s − 1 lifts of G; the last member is what these leave of the part.
-- Assumes nothing.
use Rattle.std.specs.Prelude.{◌≡◌, refl, length}
use Rattle.std.proofs.Common.{sym, ◌∙◌, ap, subst, ⊎_elim, mul-le-mul_right, zero-mul, suc-mul, arith}
use mathlib.Core.List.Memᴰ
use mathlib.Core.List.{List, [], ◌∷◌, map}
use mathlib.Core.List.Memᴰ.{head as here}
use Rattle.std.proofs.lemmas.List.{length-map}
use Prim.Native.Nat.{ℕ, zero, suc, ◌≤◌, ◌<◌, ◌-◌, ◌+◌, ◌*◌}
use Rattle.std.proofs.Math.Nat.{add_comm}
use Rattle.specification.specs.Polynomials as spec
use Rattle.specification.specs.Parts.{Factor}
use Rattle.specification.specs.Longest as claimed
use Rattle.specification.specs.Settings as settings
use Rattle.specification.specs.Limits.{◌²}
use Rattle.algebra.specs.Numbers.{square_large}
use Rattle.algebra.specs.Ring.{CommRing}
use Rattle.algebra.specs.Divisibility.{product, product_cons}
use Rattle.algebra.specs.PolynomialRing.{◌·◌}
use Rattle.algebra.specs.Fields.{Prime}
use Rattle.algebra.specs.CoefficientLists.{ℤ[x]/, poly, poly_product, 𝓩[x]/}
use Rattle.lists.specs.Members.{◌∈◌, All, all_map, all_tail}
use Rattle.factorisation.specs.MonicDivisors.{monic_cancel_eq}
use Rattle.factorisation.specs.LastMember.{first_divide}
use Rattle.items.specs.MonicLists.{MonicList, monic_poly, monic_list_mul, from_claimed, to_claimed}
use Rattle.items.specs.MonicDivision.{Divides, Exact, exact, monic_list_one}
use Rattle.items.specs.Reductions.{barred, bar_reduce, extension}
use Rattle.items.specs.PartForm.{PartOver, base_monic}
use Rattle.items.specs.SplitPart.{SplitPart}
use Rattle.lists.specs.Ends.{then, length_then, last_equal, last_member}
use Rattle.items.specs.Factorisations.{monic_equal, factorisation, factorisation_product, product_then}
use Rattle.settings.specs.Numberings.{Numbered, carried}
use Rattle.settings.specs.NumberedLifts.{LiftsOf, lift_lists_numbered}
use Rattle.settings.specs.PartLists.{first_lifted}

-- a setting of one part, of s members
pub record PartSetting (n : ℕ) (part : spec.Poly) (s : ℕ) (L : List spec.Poly) : Type 0 where
  pub list : claimed.Factorisation n part L
  pub count : length L ≡ s
  pub higher_last : settings.HigherLast L

module _ {p : ℕ} (prime : Prime p) {G : spec.Poly} {m : ℕ} {part : spec.Poly} (over : PartOver p G m part)
    {qs : List Factor} (S : SplitPart p prime.large G m part qs) where
  abbrev large : 1 < p
  large = prime.large

  abbrev n : ℕ
  n = p ²

  large² : 1 < n
  large² = square_large p large

  pos : 0 < n
  pos = omega (arith, large²)

  abbrev 𝓐 : CommRing (ℤ[x]/ n)
  𝓐 = 𝓩[x]/ n

  abbrev d : ℕ
  d = spec.degree G

  abbrev s : ℕ
  s = S.ring.s

  product_last : (xs : List spec.Poly) (y : spec.Poly) → product 𝓐 (map (poly n) (then xs y)) ≡ poly n y · poly n (spec.product n xs)
  product_last xs y =
      product_then 𝓐 (poly n) xs y ∙ product_cons 𝓐 (poly n y) (map (poly n) xs) ∙ ap (λ a. poly n y · a) (sym (poly_product n pos xs))

  -- ---- from lifts to settings

  product_monic : (k : ℕ) (xs : List spec.Poly) → LiftsOf p G k xs → MonicList n (k * d) (spec.product n xs)
  unfolding spec.product
  product_monic zero [] l = rw (zero-mul d) (monic_list_one large²)
  product_monic zero (x ∷ xs) l = absurd (omega (arith, l.count))
  product_monic (suc k) [] l = absurd (omega (arith, l.count))
  product_monic (suc k) (x ∷ xs) l =
      rw (suc-mul k d, add_comm (k * d) d)
      (monic_list_mul large² (l.lifted x (here refl)).monic
      (product_monic k xs (record { count = omega (arith, l.count); lifted = all_tail l.lifted })))

  -- s − 1 lifts of G multiply to a divisor of the part
  lift_divides : (xs : List spec.Poly) → LiftsOf p G (s - 1) xs → Divides n (spec.product n xs) part
  lift_divides xs l =
      rw (poly_product n pos xs, ← S.part_is)
      (first_divide (extension p large) S.ring (S.ring.m - s) room
      (rw S.g_bar S.divides) (map (poly n) xs) bars (omega (arith, l.count, S.ring.one, length-map xs (poly n))))
    where
      room : s + (S.ring.m - s) ≡ S.ring.m
      room = omega (arith, S.room, S.m_is)

      bars : All (λ a. barred p large a ≡ barred p large S.ring.g) (map (poly n) xs)
      bars =
          all_map (λ a. barred p large a ≡ barred p large S.ring.g) (poly n) xs
          (λ x i. bar_reduce p large x ∙ ap (poly p) (l.lifted x i).bar ∙ sym S.g_bar)

  -- what the members xs leave of the part
  abbrev rest : List spec.Poly → spec.Poly
  rest xs = spec.quotient n (spec.product n xs) part

  module _ (xs : List spec.Poly) (l : LiftsOf p G (s - 1) xs) where
    rest_exact : Exact large² ((s - 1) * d) (m * d) (spec.product n xs) part
    rest_exact = exact large² (product_monic (s - 1) xs l) over.monic (lift_divides xs l)

    -- its degree is that of G or more
    rest_degree : d ≤ spec.degree (rest xs)
    rest_degree =
        omega (
          arith,
          rest_exact.monic.reduced.len,
          mul-le-mul_right d (let q : s - 1 + 1 ≤ m = omega (arith, S.room, S.ring.one) in q),
        )

    member_monic : All (claimed.Monic n) (then xs (rest xs))
    member_monic x i =
        ⊎_elim (λ j. to_claimed over.irreducible.monic.positive (l.lifted x j).monic)
        (λ j. subst (claimed.Monic n) (sym (Memᴰ.eq_of_singleton j)) (to_claimed positive rest_exact.monic)) (Memᴰ.append_cases xs i)
      where
        positive : 1 ≤ m * d - (s - 1) * d
        positive = omega (arith, rest_degree, over.irreducible.monic.positive, rest_exact.monic.reduced.len)

    lifts_setting : PartSetting n part s (then xs (rest xs))
    lifts_setting = record {
      list = factorisation large² over.monic (then xs (rest xs)) member_monic (product_last xs (rest xs) ∙ rest_exact.law);
      count = length_then xs (rest xs) ∙ omega (arith, l.count, S.ring.one);
      higher_last = λ ys y e x i.
          let (q, t) = last_equal xs ys e in
          omega (arith, rest_degree, ap spec.degree t, (l.lifted x (subst (λ zs. x ∈ zs) (sym q) i)).monic.reduced.len);
    }

  -- ---- from settings to lifts

  setting_lifts : (L : List spec.Poly) → PartSetting n part s L → (xs : List spec.Poly) × LiftsOf p G (s - 1) xs × (then xs (rest xs) ≡ L)
  setting_lifts L t = let (xs, y, e) = last_member L (omega (arith, t.count, S.ring.one)) in go xs y (subst (PartSetting n part s) e t) e
    where
      go : (xs : List spec.Poly) (y : spec.Poly) → PartSetting n part s (then xs y) → L ≡ then xs y
          → (xs : List spec.Poly) × LiftsOf p G (s - 1) xs × (then xs (rest xs) ≡ L)
      go xs y u e = (xs, lifts, ap (then xs) same ∙ sym e)
        where
          lifts : LiftsOf p G (s - 1) xs
          lifts = record {
            count = omega (arith, u.count, length_then xs y);
            lifted = first_lifted prime over S xs y u.list (omega (arith, u.count, length_then xs y)) (u.higher_last xs y refl);
          }

          same : rest xs ≡ y
          same =
              monic_equal large² (rest_exact xs lifts).monic (from_claimed pos (u.list.monic y (Memᴰ.append_right xs (here refl))))
              (monic_cancel_eq (monic_poly (product_monic (s - 1) xs lifts))
              ((rest_exact xs lifts).law ∙ sym (factorisation_product large² u.list) ∙ product_last xs y))

  -- ---- the numbering

  pub part_settings_numbered : Numbered p (d * (s - 1)) (PartSetting n part s)
  part_settings_numbered =
      carried (lift_lists_numbered large (base_monic large over) (s - 1)) (λ xs. then xs (rest xs)) lifts_setting
      (λ xs ys l h e. (last_equal xs ys e).0) setting_lifts
