-- Lists of monic polynomials that multiply to a part over G to the m: they are lists of the theory of longest lists.
-- Proves that none has more members than the part has factors, and that in one of as many, a factor of higher degree last, all before the last
-- are lifts of G. Assumes nothing.
use Rattle.std.specs.Prelude.{◌≡◌, refl, List, [], ◌∷◌, map, length, ℕ, suc, ◌≤◌, ◌<◌, ◌-◌, ◌+◌, ◌*◌}
use Rattle.std.proofs.Common.{sym, ◌∙◌, ap, subst, le_of_mul-le-mul_right, arith}
use mathlib.Core.List.Memᴰ
use mathlib.Core.List.Memᴰ.{head as here}
use mathlib.Core.List.Memᴰ.{tail as there}
use Rattle.std.proofs.lemmas.List.{length-map}
use Rattle.specification.specs.Polynomials as spec
use Rattle.specification.specs.Parts.{Factor}
use Rattle.specification.specs.Longest as claimed
use Rattle.specification.specs.Limits.{◌²}
use Rattle.algebra.specs.Numbers.{square_large}
use Rattle.algebra.specs.Ring.{CommRing}
use Rattle.algebra.specs.Divisibility.{◌∣◌, product, product_one}
use Rattle.algebra.specs.Degree.{Monic, monic_pow}
use Rattle.algebra.specs.Fields.{Prime, residue_nontrivial}
use Rattle.algebra.specs.CoefficientLists.{ℤ[x]/, poly, same_list, 𝓩[x]/}
use Rattle.algebra.specs.ListShapes.{length_reduce, low_reduce}
use Rattle.lists.specs.Members.{◌∈◌, All, all_cons, all_map}
use Rattle.factorisation.specs.MemberProducts.{member_divides}
use Rattle.lists.specs.Sums.{total_nil, total_cons}
use Rattle.factorisation.specs.MonicDivisors.{IsMonic, monics, monic_degree}
use Rattle.factorisation.specs.LongestLists.{Part, Proper}
use Rattle.factorisation.proofs.LongestLists.{length_at_most}
use Rattle.factorisation.specs.Blocks.{multiplicity, divisor_bar}
use Rattle.factorisation.specs.Settings.{Setting}
use Rattle.factorisation.proofs.Settings.{first_bar}
use Rattle.items.specs.MonicLists.{MonicList, monic_poly, from_claimed}
use Rattle.items.specs.Reductions.{LiftOf, barred, bar_reduce, extension}
use Rattle.items.specs.ListExtension.{monic_bar, monic_proper}
use Rattle.items.specs.PartForm.{PartOver, base_monic}
use Rattle.items.specs.SplitPart.{SplitPart}
use Rattle.lists.specs.Ends.{then}
use Rattle.items.specs.Factorisations.{factorisation_product, product_then}

module _ {p : ℕ} (prime : Prime p) {G : spec.Poly} {m : ℕ} {part : spec.Poly} (over : PartOver p G m part)
    {qs : List Factor} (S : SplitPart p prime.large G m part qs) where
  abbrev large : 1 < p
  large = prime.large

  abbrev n : ℕ
  n = p ²

  pos : 0 < n
  pos = omega (arith, square_large p large)

  abbrev 𝓐 : CommRing (ℤ[x]/ n)
  𝓐 = 𝓩[x]/ n

  monic_base : Monic (spec.degree G) (barred p large S.ring.g)
  monic_base = rw S.g_bar (monic_poly (base_monic large over))

  base_is_monic : IsMonic (barred p large S.ring.g)
  base_is_monic = (spec.degree G, monic_base)

  -- ---- one member

  module _ {x : spec.Poly} (monic : claimed.Monic n x) where
    member_degree : ◌∣◌ 𝓐 (poly n x) S.ring.P → spec.degree x ≡ multiplicity (extension p large) S.ring (poly n x) * spec.degree G
    member_degree v =
        monic_degree (residue_nontrivial large) (monic_bar p large monic)
        (subst (Monic (multiplicity (extension p large) S.ring (poly n x) * spec.degree G))
        (sym (divisor_bar (extension p large) (monics (residue_nontrivial large)) S.ring base_is_monic v (spec.degree x, monic_bar p large monic)))
        (monic_pow monic_base (multiplicity (extension p large) S.ring (poly n x))))

    member_lift : barred p large (poly n x) ≡ barred p large S.ring.g → LiftOf p G x
    member_lift e = record {
      monic = subst (λ (d : ℕ). MonicList n d x) degree (from_claimed pos monic);
      bar = same_list (record { len = length_reduce p x ∙ omega (arith, degree, monic.positive); low = low_reduce p (omega arith) x })
          (base_monic large over).reduced (sym (bar_reduce p large x) ∙ e ∙ S.g_bar);
    }
      where
        degree : spec.degree x ≡ spec.degree G
        degree = monic_degree (residue_nontrivial large) (monic_bar p large monic) (rw e monic_base)

  -- ---- all members

  -- no list is longer
  pub at_most : {L : List spec.Poly} → claimed.Factorisation n part L → length L ≤ S.ring.s
  at_most {L} l =
      omega (
        arith,
        length-map L (poly n),
        total_cons (λ (q : Part (extension p large)). q.s) S.ring [],
        total_nil (λ (q : Part (extension p large)). q.s),
        length_at_most (extension p large) {Q = S.ring ∷ []} ((λ q i. elim i [ ]), tt) {L = map (poly n) L}
            (record {
              factors = factorisation_product (square_large p large) l ∙ sym S.part_is
                  ∙ sym (product_one 𝓐 S.ring.P);
              proper = all_map (Proper (extension p large)) (poly n) L (λ x i. monic_proper p large (l.monic x i));
            }),
      )

  module _ (xs : List spec.Poly) (y : spec.Poly) (l : claimed.Factorisation n part (then xs y)) (count : suc (length xs) ≡ S.ring.s)
      (higher : All (λ x. spec.degree x ≤ spec.degree y) xs) where
    first_monic : All (claimed.Monic n) xs
    first_monic x i = l.monic x (Memᴰ.append_left (y ∷ []) i)

    last_monic : claimed.Monic n y
    last_monic = l.monic y (Memᴰ.append_right xs (here refl))

    factors : product 𝓐 (poly n y ∷ map (poly n) xs) ≡ S.ring.P
    factors = sym (product_then 𝓐 (poly n) xs y) ∙ factorisation_product (square_large p large) l ∙ sym S.part_is

    divides : {a : ℤ[x]/ n} → a ∈ (poly n y ∷ map (poly n) xs) → ◌∣◌ 𝓐 a S.ring.P
    divides i = rw factors at (member_divides 𝓐 i)

    setting : Setting (extension p large) IsMonic S.ring (map (poly n) xs) (poly n y)
    setting = record {
      count = ap suc (length-map xs (poly n)) ∙ count;
      factors = factors;
      monic = all_cons (spec.degree y, monic_bar p large last_monic)
          (all_map (λ a. IsMonic (barred p large a)) (poly n) xs (λ x i. (spec.degree x, monic_bar p large (first_monic x i))));
      proper = all_cons (monic_proper p large last_monic) (all_map (Proper (extension p large)) (poly n) xs (λ x i. monic_proper p large (first_monic x i)));
      order = all_map (λ a. e a ≤ e (poly n y)) (poly n) xs
          (λ x i. le_of_mul-le-mul_right {k = spec.degree G}
          (omega (
            arith,
            higher x i,
            member_degree (first_monic x i) (divides (there (Memᴰ.map (poly n) i))),
            member_degree last_monic (divides (here refl)),
          ))
          over.irreducible.monic.positive);
    }
      where
        e : ℤ[x]/ n → ℕ
        e = multiplicity (extension p large) S.ring

    -- all before the last have the bar G
    pub first_lifted : All (LiftOf p G) xs
    first_lifted x i =
        member_lift (first_monic x i)
        (first_bar (extension p large) IsMonic S.ring (monics (residue_nontrivial large)) base_is_monic (S.ring.m - S.ring.s)
        (let r : S.ring.s + (S.ring.m - S.ring.s) ≡ S.ring.m = omega (arith, S.room, S.m_is) in r) setting (poly n x) (Memᴰ.map (poly n) i))
