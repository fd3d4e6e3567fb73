-- The parts of f, as the specification finds them and as the theory of longest lists has them: `ring_parts`.
-- Proves of parts that are split by their factors (`Known`) that their bars are pairwise coprime, and what they multiply and add up to.
-- Every part is split so: proofs/AllParts. Assumes nothing.
use Rattle.std.specs.Prelude.{◌≡◌}
use Rattle.std.proofs.Math.Path.{refl, sym, ap, ap₂, subst, ◌≡⟨◌⟩◌, ◌∎}
use Rattle.std.proofs.Common.{◌∙◌}
use mathlib.Core.List.{List, [], ◌∷◌, ◌++◌, map, flat_map}
use mathlib.Core.List.Memᴰ.{head as here}
use mathlib.Core.List.Memᴰ.{tail as there}
use Prim.Native.Nat.{ℕ, ◌≤◌, ◌<◌, ◌+◌, ◌*◌}
use native.Mathlib.Omega.{arith}
use Rattle.std.proofs.Math.ListN.{length, length-append}
use Rattle.specification.specs.Polynomials as spec
use Rattle.specification.specs.Powers.{Power, primary}
use Rattle.specification.specs.Parts.{Factor, part_of}
use Rattle.specification.specs.Totals.{copies, list_of, different}
use Rattle.specification.specs.Items1to3 as items1to3
use Rattle.specification.specs.Longest as claimed
use Rattle.specification.specs.Limits.{◌²}
use Rattle.algebra.specs.Numbers.{square_large}
use Rattle.algebra.specs.Ring.{CommRing}
use Rattle.algebra.specs.Divisibility.{Coprime, product, product_cons, product_map_append}
use Rattle.algebra.specs.PolynomialRing.{◌·◌}
use Rattle.algebra.specs.Fields.{Prime, residue_field}
use Rattle.algebra.specs.CoefficientLists.{ℤ[x]/, poly, poly_product, 𝓩[x]/}
use Rattle.lists.specs.Members.{◌∈◌, All, all_cons, all_tail, all_append, all_replicate}
use Rattle.lists.specs.Sums.{total, total_cons}
use Rattle.factorisation.proofs.Irreducible.{different_coprime}
use Rattle.factorisation.specs.MonicDivisors.{IsMonic}
use Rattle.factorisation.specs.LongestLists.{Part, Apart, whole, size}
use Rattle.items.specs.MonicLists.{MonicList, monic_poly, monic_list_mul}
use Rattle.items.specs.MonicDivision.{monic_list_one}
use Rattle.items.specs.Irreducibles.{irreducible_poly}
use Rattle.items.specs.PowersOnly.{different_bases}
use Rattle.items.specs.Reductions.{barred, extension}
use Rattle.items.specs.DifferentMembers.{different_factors, different_append}
use Rattle.items.specs.ListOfParts.{list_of_cons}
use Rattle.items.specs.PartForm.{PartOver}
use Rattle.items.specs.SplitPart.{SplitPart}
use Rattle.items.specs.PartShapes.{part_degrees, records}

module _ (p : ℕ) (prime : Prime p) {d : ℕ} {f : spec.Poly} (mf : MonicList (p ²) d f) where
  abbrev 𝓐 : CommRing (ℤ[x]/ (p ²))
  𝓐 = 𝓩[x]/ (p ²)

  abbrev large : 1 < p
  large = prime.large

  -- what is known of the part over P
  pub record Known (P : Power) : Type 0 where
    pub over : PartOver p P.base P.exponent (primary p f P)
    pub split : SplitPart p prime.large P.base P.exponent (primary p f P) (part_of p f P).splitting.factors

  -- of all but the first
  abbrev rest : {P : Power} {Ps : List Power} → All Known (P ∷ Ps) → All Known Ps
  rest h Q j = h Q (there j)

  pub ring_parts : (Ps : List Power) → All Known Ps → List (Part (extension p prime.large))
  ring_parts [] h = []
  ring_parts (P ∷ Ps) h = (h P (here refl)).split.ring ∷ ring_parts Ps (rest h)

  -- what holds of the part over each P
  all_parts : (C : Part (extension p large) → Type 0) (Ps : List Power) (h : All Known Ps) → ((P : Power) (i : P ∈ Ps) → C (h P i).split.ring)
      → All C (ring_parts Ps h)
  unfolding ring_parts
  all_parts C [] h k = λ q i. elim i [ ]
  all_parts C (P ∷ Ps) h k = all_cons (k P (here refl)) (all_parts C Ps (rest h) (λ Q j. k Q (there j)))

  pub monic_parts : (Ps : List Power) (h : All Known Ps) → All (λ q. IsMonic q.g × IsMonic q.P) (ring_parts Ps h)
  monic_parts Ps h = all_parts _ Ps h
      (λ P i. let k = h P i in (
        (spec.degree P.base, k.split.g_monic),
        (P.exponent * spec.degree P.base, rw k.split.part_is (monic_poly k.over.monic)),
      ))

  -- ---- the bars of the bases are coprime

  coprime : {P Q : Power} (k : Known P) (l : Known Q) → items1to3.Before P.base Q.base
      → Coprime (𝓩[x]/ p) (barred p large k.split.ring.g) (barred p large l.split.ring.g)
  coprime k l b =
      rw (k.split.g_bar, l.split.g_bar)
      (different_coprime (residue_field p prime) (irreducible_poly large k.over.irreducible) (irreducible_poly large l.over.irreducible)
      (different_bases p prime k.over.irreducible.monic l.over.irreducible.monic b))

  pub parts_apart : (Ps : List Power) (h : All Known Ps) → items1to3.InOrder Ps → Apart (extension p large) (ring_parts Ps h)
  unfolding ring_parts
  parts_apart [] h o = tt
  parts_apart (P ∷ Ps) h (first, o) = (
    all_parts _ Ps (rest h) (λ Q j. coprime (h P (here refl)) (h Q (there j)) (first Q j)),
    parts_apart Ps (rest h) o,
  )

  -- ---- their products and totals

  -- the list of the parts over Ps
  abbrev pub list_over : List Power → List spec.Poly
  list_over Ps = list_of (map (part_of p f) Ps)

  pub whole_is : (Ps : List Power) (h : All Known Ps) → whole (extension p large) (ring_parts Ps h) ≡ product 𝓐 (map (λ P. poly (p ²) (primary p f P)) Ps)
  unfolding ring_parts
  whole_is [] h = refl
  whole_is (P ∷ Ps) h =
      product_cons 𝓐 _ _ ∙ ap₂ ◌·◌ (h P (here refl)).split.part_is (whole_is Ps (rest h)) ∙ sym (product_cons 𝓐 _ _)

  pub list_product : (Ps : List Power) (h : All Known Ps) → product 𝓐 (map (poly (p ²)) (list_over Ps)) ≡ whole (extension p large) (ring_parts Ps h)
  unfolding ring_parts
  list_product [] h = unfold list_of flat_map in refl
  list_product (P ∷ Ps) h =
      product 𝓐 (map (poly (p ²)) (list_over (P ∷ Ps))) ≡⟨ ap (λ l. product 𝓐 (map (poly (p ²)) l)) (list_of_cons (part_of p f P) (map (part_of p f) Ps)) ⟩
      product 𝓐 (map (poly (p ²)) (first ++ list_over Ps)) ≡⟨ product_map_append 𝓐 (poly (p ²)) first (list_over Ps) ⟩
      product 𝓐 (map (poly (p ²)) first) · product 𝓐 (map (poly (p ²)) (list_over Ps)) ≡⟨ ap₂ ◌·◌ one (list_product Ps (rest h)) ⟩
      (h P (here refl)).split.ring.P · whole (extension p large) (ring_parts Ps (rest h)) ≡⟨ sym (product_cons 𝓐 _ _) ⟩
      whole (extension p large) (ring_parts (P ∷ Ps) h) ∎
    where
      first : List spec.Poly
      first = flat_map copies (part_of p f P).splitting.factors

      one : product 𝓐 (map (poly (p ²)) first) ≡ (h P (here refl)).split.ring.P
      one =
          sym (poly_product (p ²) (omega (arith, square_large p large)) first)
          ∙ ap (poly (p ²)) (h P (here refl)).split.multiplies ∙ sym (h P (here refl)).split.part_is

  pub list_size : (Ps : List Power) (h : All Known Ps) → length (list_over Ps) ≡ size (extension p large) (ring_parts Ps h)
  unfolding ring_parts
  list_size [] h = unfold list_of flat_map total in refl
  list_size (P ∷ Ps) h =
      let k = (h P (here refl)).split in
      let qs : List Factor = (part_of p f P).splitting.factors in
      omega (
        arith,
        ap length (list_of_cons (part_of p f P) (map (part_of p f) Ps)),
        length-append (flat_map copies qs) (list_over Ps),
        k.s_is,
        list_size Ps (rest h),
        total_cons (λ (q : Part (extension p large)). q.s) k.ring (ring_parts Ps (rest h)),
      )

  pub list_different : (Ps : List Power) (h : All Known Ps) → different (list_over Ps) ≤ total (λ (q : Part (extension p large)). q.z) (ring_parts Ps h)
  unfolding ring_parts
  list_different [] h = unfold list_of flat_map different in omega arith
  list_different (P ∷ Ps) h =
      let k = (h P (here refl)).split in
      let qs : List Factor = (part_of p f P).splitting.factors in
      omega (
        arith,
        ap different (list_of_cons (part_of p f P) (map (part_of p f) Ps)),
        different_append (flat_map copies qs) (list_over Ps),
        different_factors qs,
        k.z_is,
        list_different Ps (rest h),
        total_cons (λ (q : Part (extension p large)). q.z) k.ring (ring_parts Ps (rest h)),
      )

  pub list_records : (Ps : List Power) (h : All Known Ps)
      → records (map (part_of p f) Ps) ≡ total (λ (q : Part (extension p large)). q.z) (ring_parts Ps h)
  unfolding ring_parts total
  list_records [] h = refl
  list_records (P ∷ Ps) h = ap₂ ◌+◌ (sym (h P (here refl)).split.z_is) (list_records Ps (rest h))

  copies_monic : (qs : List Factor) → All (λ (q : Factor). claimed.Monic (p ²) q.poly) qs → All (claimed.Monic (p ²)) (flat_map copies qs)
  unfolding flat_map
  copies_monic [] h = λ q i. elim i [ ]
  copies_monic (q ∷ qs) h = all_append (all_replicate (claimed.Monic (p ²)) q.poly (h q (here refl)) q.times) (copies_monic qs (all_tail h))

  pub list_monic : (Ps : List Power) → All Known Ps → All (claimed.Monic (p ²)) (list_over Ps)
  list_monic [] h = unfold list_of flat_map in λ q i. elim i [ ]
  list_monic (P ∷ Ps) h =
      rw (list_of_cons (part_of p f P) (map (part_of p f) Ps))
      (all_append (copies_monic (part_of p f P).splitting.factors (h P (here refl)).split.monic) (list_monic Ps (rest h)))

  -- the degrees of the parts add up to that of their product
  pub parts_monic : (Ps : List Power) → All Known Ps → MonicList (p ²) (part_degrees (map (part_of p f) Ps)) (spec.product (p ²) (map (primary p f) Ps))
  unfolding spec.product total
  parts_monic [] h = monic_list_one (square_large p large)
  parts_monic (P ∷ Ps) h =
      subst (λ (e : ℕ). MonicList (p ²) (e + part_degrees (map (part_of p f) Ps)) (spec.product (p ²) (map (primary p f) (P ∷ Ps))))
      (let s : P.exponent * spec.degree P.base ≡ spec.degree P.base * P.exponent = omega arith in s)
      (monic_list_mul (square_large p large) (h P (here refl)).over.monic (parts_monic Ps (rest h)))
