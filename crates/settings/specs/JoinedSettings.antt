-- Settings of several parts, joined "with the parts in order"; s is the number of members for each part.
-- Proves that the settings of the parts are found again from the joined list, what it multiplies to, and that a list in parts that is long
-- enough is a setting for each part. Assumes nothing.
use Rattle.std.specs.Prelude.{◌≡◌}
use Rattle.std.proofs.Math.Path.{refl, sym, ap, ap₂}
use Rattle.std.proofs.Common.{◌∙◌}
use mathlib.Core.List.Memᴰ
use mathlib.Core.List.{List, [], ◌∷◌, ◌++◌, map, flat_map, map-append, cons≢nil}
use mathlib.Core.List.Memᴰ.{head as here}
use Rattle.std.proofs.Math.Logic.{⊎_elim}
use Rattle.std.proofs.Math.ListN.{length, length-append}
use Prim.Native.Nat.{ℕ, ◌≤◌, ◌<◌, ◌+◌}
use native.Mathlib.Omega.{arith}
use Rattle.specification.specs.Polynomials as spec
use Rattle.specification.specs.Longest as claimed
use Rattle.specification.specs.Settings as settings
use Rattle.algebra.specs.Divisibility.{product, product_cons, product_append}
use Rattle.algebra.specs.PolynomialRing.{◌·◌}
use Rattle.algebra.specs.CoefficientLists.{poly, poly_product, 𝓩[x]/}
use Rattle.lists.specs.Members.{All, all_tail}
use Rattle.lists.specs.Sums.{total}
use Rattle.lists.specs.Ends.{append_equal}
use Rattle.settings.specs.Numberings.{Each}
use Rattle.settings.specs.PartSettings.{PartSetting}

-- the lists put end to end
abbrev pub joined : List (List spec.Poly) → List spec.Poly
joined Bs = flat_map (λ (B : List spec.Poly). B) Bs

module _ {C : Type 0} (n : ℕ) (part : C → spec.Poly) (s : C → ℕ) where
  -- a setting of each part, in order
  abbrev pub Settings : List C → List (List spec.Poly) → Type 0
  Settings cs Bs = Each (λ c. PartSetting n (part c) (s c)) cs Bs

  pub settings_in_parts : (cs : List C) (Bs : List (List spec.Poly)) → Settings cs Bs → settings.InParts n (map part cs) Bs
  settings_in_parts [] [] h = tt
  settings_in_parts [] (B ∷ Bs) h = absurd (cons≢nil h)
  settings_in_parts (c ∷ cs) [] h = absurd h
  settings_in_parts (c ∷ cs) (B ∷ Bs) (t, h) = (t.list.multiplies, t.higher_last, settings_in_parts cs Bs h)

  pub settings_length : (cs : List C) (Bs : List (List spec.Poly)) → Settings cs Bs → length (joined Bs) ≡ total s cs
  unfolding flat_map total
  settings_length [] [] h = refl
  settings_length [] (B ∷ Bs) h = absurd (cons≢nil h)
  settings_length (c ∷ cs) [] h = absurd h
  settings_length (c ∷ cs) (B ∷ Bs) (t, h) = length-append B (joined Bs) ∙ ap₂ ◌+◌ t.count (settings_length cs Bs h)

  pub settings_monic : (cs : List C) (Bs : List (List spec.Poly)) → Settings cs Bs → All (claimed.Monic n) (joined Bs)
  unfolding flat_map
  settings_monic [] [] h = λ x i. elim i [ ]
  settings_monic [] (B ∷ Bs) h = absurd (cons≢nil h)
  settings_monic (c ∷ cs) [] h = absurd h
  settings_monic (c ∷ cs) (B ∷ Bs) (t, h) =
      λ x i. ⊎_elim (t.list.monic x) (settings_monic cs Bs h x) (Memᴰ.append_cases B i)

  -- the joined list multiplies to what the parts do
  pub settings_product : 0 < n → (cs : List C) (Bs : List (List spec.Poly)) → Settings cs Bs
      → product (𝓩[x]/ n) (map (poly n) (joined Bs)) ≡ product (𝓩[x]/ n) (map (poly n) (map part cs))
  unfolding flat_map
  settings_product pos [] [] h = refl
  settings_product pos [] (B ∷ Bs) h = absurd (cons≢nil h)
  settings_product pos (c ∷ cs) [] h = absurd h
  settings_product pos (c ∷ cs) (B ∷ Bs) (t, h) =
      ap (product (𝓩[x]/ n)) (map-append (poly n) B (joined Bs))
      ∙ product_append (𝓩[x]/ n) (map (poly n) B) (map (poly n) (joined Bs))
      ∙ ap₂ ◌·◌ (sym (poly_product n pos B) ∙ ap (poly n) t.list.multiplies) (settings_product pos cs Bs h)
      ∙ sym (product_cons (𝓩[x]/ n) (poly n (part c)) (map (poly n) (map part cs)))

  -- settings of the same parts are found again
  pub settings_joined : (cs : List C) (As Bs : List (List spec.Poly)) → Settings cs As → Settings cs Bs → joined As ≡ joined Bs → As ≡ Bs
  unfolding flat_map
  settings_joined [] As Bs h g e = h ∙ sym g
  settings_joined (c ∷ cs) [] Bs h g e = absurd h
  settings_joined (c ∷ cs) (A ∷ As) [] h g e = absurd g
  settings_joined (c ∷ cs) (A ∷ As) (B ∷ Bs) (t, h) (u, g) e =
      let (q, r) = append_equal A B (t.count ∙ sym u.count) e in
      ap₂ ◌∷◌ q (settings_joined cs As Bs h g r)

  -- ---- long lists in parts

  -- no list of a part is longer than s
  abbrev pub AtMost : C → Type 0
  AtMost c = (L : List spec.Poly) → claimed.Factorisation n (part c) L → length L ≤ s c

  parts_at_most : (cs : List C) (Bs : List (List spec.Poly)) → All AtMost cs → settings.InParts n (map part cs) Bs → All (claimed.Monic n) (joined Bs)
      → length (joined Bs) ≤ total s cs
  unfolding flat_map total
  parts_at_most [] [] b h m = omega arith
  parts_at_most [] (B ∷ Bs) b h m = absurd h
  parts_at_most (c ∷ cs) [] b h m = absurd h
  parts_at_most (c ∷ cs) (B ∷ Bs) b (e, u, h) m =
      omega (
        arith,
        length-append B (joined Bs),
        b c (here refl) B (record { monic = λ x i. m x (Memᴰ.append_left (joined Bs) i); multiplies = e }),
        parts_at_most cs Bs (all_tail b) h (λ x i. m x (Memᴰ.append_right B i)),
      )

  pub parts_settings : (cs : List C) (Bs : List (List spec.Poly)) → All AtMost cs → settings.InParts n (map part cs) Bs → All (claimed.Monic n) (joined Bs)
      → total s cs ≤ length (joined Bs) → Settings cs Bs
  unfolding flat_map total
  parts_settings [] [] b h m l = refl
  parts_settings [] (B ∷ Bs) b h m l = absurd h
  parts_settings (c ∷ cs) [] b h m l = absurd h
  parts_settings (c ∷ cs) (B ∷ Bs) b (e, u, h) m l =
      let list : claimed.Factorisation n (part c) B = record { monic = λ x i. m x (Memᴰ.append_left (joined Bs) i); multiplies = e } in
      let rest : All (claimed.Monic n) (joined Bs) = λ x i. m x (Memᴰ.append_right B i) in
      let first : length B ≤ s c = b c (here refl) B list in
      let others : length (joined Bs) ≤ total s cs = parts_at_most cs Bs (all_tail b) h rest in
      let sum : length (B ++ joined Bs) ≡ length B + length (joined Bs) = length-append B (joined Bs) in (
        record { list = list; count = omega (arith, first, others, sum, l); higher_last = u },
        parts_settings cs Bs (all_tail b) h rest (omega (arith, first, others, sum, l)),
      )
