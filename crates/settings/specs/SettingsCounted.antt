-- "p to the power of the free digits is the number of settings offered for f": the strings of free digits number them.
-- Proves it of every monic f and every prime. Assumes nothing.
use Rattle.std.specs.Prelude.{◌≡◌, length, ℕ, ◌≤◌, ◌<◌, ◌-◌, ◌^◌, ◌+◌, ◌*◌}
use Rattle.std.proofs.Math.Path.{refl, ap}
use Rattle.std.proofs.Common.{sym, ◌∙◌, subst, arith}
use mathlib.Core.List.{List, [], ◌∷◌, map, flat_map}
use Rattle.std.proofs.Math.ListN.{length-append}
use Rattle.specification.specs.Polynomials as spec
use Rattle.specification.specs.Powers.{Power, powers, primary}
use Rattle.specification.specs.Parts.{part_of, parts_of}
use Rattle.specification.specs.Totals as totals
use Rattle.specification.specs.Longest as claimed
use Rattle.specification.specs.Settings as settings
use Rattle.specification.specs.Limits.{◌²}
use Rattle.algebra.specs.Numbers.{square_large}
use Rattle.algebra.specs.Fields.{Prime, prime_pos}
use Rattle.algebra.specs.CoefficientLists.{poly, poly_product}
use Rattle.lists.specs.Members.{◌∈◌, All}
use Rattle.lists.specs.Sums.{total}
use Rattle.items.specs.MonicLists.{MonicList}
use Rattle.items.proofs.Items1to3Hold.{items}
use Rattle.items.specs.AllParts.{Known}
use Rattle.items.proofs.AllParts.{known}
use Rattle.items.proofs.LongestParts.{longest}
use Rattle.items.specs.Factorisations.{factorisation}
use Rattle.settings.specs.Numberings.{Numbered, each_numbered, carried}
use Rattle.settings.specs.DigitStrings.{counted}
use Rattle.settings.specs.PartLists.{at_most}
use Rattle.settings.specs.PartSettings.{PartSetting, part_settings_numbered}
use Rattle.settings.specs.JoinedSettings.{
  joined,
  Settings,
  AtMost,
  settings_in_parts,
  settings_length,
  settings_monic,
  settings_product,
  settings_joined,
  parts_settings,
}

module _ (p : ℕ) (f : spec.Poly) where
  -- "factors of that part, with repeats"
  abbrev s : Power → ℕ
  s P = length (totals.members (part_of p f P))

  -- "d times (factors of that part, with repeats, minus 1)"
  abbrev free : Power → ℕ
  free P = spec.degree P.base * (s P - 1)

  total_is : totals.total (parts_of p f) ≡ total s (powers p f)
  unfolding parts_of totals.list_of flat_map total
  total_is = go (powers p f)
    where
      go : (Ps : List Power) → totals.total (map (part_of p f) Ps) ≡ total s Ps
      go [] = refl
      go (P ∷ Ps) =
          length-append (totals.members (part_of p f P)) (flat_map totals.members (map (part_of p f) Ps)) ∙ ap (λ (k : ℕ). s P + k) (go Ps)

  free_is : total free (powers p f) ≡ totals.free_digits (parts_of p f)
  unfolding parts_of totals.free_digits total
  free_is = go (powers p f)
    where
      go : (Ps : List Power) → total free Ps ≡ totals.free_digits (map (part_of p f) Ps)
      go [] = refl
      go (P ∷ Ps) = ap (λ (k : ℕ). free P + k) (go Ps)

module _ (p : ℕ) (prime : Prime p) {d : ℕ} {f : spec.Poly} (mf : MonicList (p ²) d f) where
  abbrev n : ℕ
  n = p ²

  large² : 1 < n
  large² = square_large p prime.large

  pos : 0 < n
  pos = omega (arith, large²)

  -- ---- each part

  module _ (P : Power) (i : P ∈ powers p f) where
    abbrev part : Known p prime mf P
    part = known p prime mf P i

    s_is_lem : part.split.ring.s ≡ s p f P
    s_is_lem = unfold totals.members in part.split.s_is

    part_at_most : AtMost n (primary p f) (s p f) P
    part_at_most L l = omega (arith, at_most prime part.over part.split l, s_is_lem)

    part_numbered : Numbered p (free p f P) (PartSetting n (primary p f P) (s p f P))
    part_numbered =
        subst (λ (k : ℕ). Numbered p (spec.degree P.base * (k - 1)) (PartSetting n (primary p f P) k)) s_is_lem
        (part_settings_numbered prime part.over part.split)

  -- ---- all parts

  -- a setting of each part, in order
  abbrev SettingOfEach : List (List spec.Poly) → Type 0
  SettingOfEach Bs = Settings n (primary p f) (s p f) (powers p f) Bs

  length_is : (Bs : List (List spec.Poly)) → SettingOfEach Bs → length (joined Bs) ≡ totals.total (parts_of p f)
  length_is Bs h = settings_length n (primary p f) (s p f) (powers p f) Bs h ∙ sym (total_is p f)

  -- ---- settings

  setting : (Bs : List (List spec.Poly)) → SettingOfEach Bs → settings.Setting p f (joined Bs)
  setting Bs h = record {
    list = factorisation large² mf (joined Bs) (settings_monic n (primary p f) (s p f) (powers p f) Bs h)
        (settings_product n (primary p f) (s p f) pos (powers p f) Bs h
        ∙ sym (poly_product n pos (map (primary p f) (powers p f))) ∙ ap (poly n) (items p prime mf).parts_multiply);
    longest = λ M l. omega (arith, (longest p prime mf).longest M l, length_is Bs h);
    by_part = Bs;
    joined = refl;
    in_parts = settings_in_parts n (primary p f) (s p f) (powers p f) Bs h;
  }

  setting_of_each : (L : List spec.Poly) → settings.Setting p f L → (Bs : List (List spec.Poly)) × SettingOfEach Bs × (joined Bs ≡ L)
  setting_of_each L t = (
    t.by_part,
    parts_settings n (primary p f) (s p f) (powers p f) t.by_part part_at_most t.in_parts
        (subst (All (claimed.Monic n)) (sym t.joined) t.list.monic) (omega (arith, long, ap length t.joined, total_is p f)),
    t.joined,
  )
    where
      -- as long as the list of the definitions
      long : totals.total (parts_of p f) ≤ length L
      long =
          let L-is = longest p prime mf in
          t.longest (totals.list_of (parts_of p f)) (record { monic = λ q i. (L-is.irreducible q i).monic; multiplies = L-is.multiplies })

  -- strings of digits and settings correspond one to one
  settings_numbered : Numbered p (totals.free_digits (parts_of p f)) (settings.Setting p f)
  settings_numbered =
      subst (λ (k : ℕ). Numbered p k (settings.Setting p f)) (free_is p f)
      (carried (each_numbered (λ P. PartSetting n (primary p f P) (s p f P)) (free p f) (powers p f) part_numbered)
      joined setting (settings_joined n (primary p f) (s p f) (powers p f)) setting_of_each)

  pub settings_counted : settings.Counted (p ^ totals.free_digits (parts_of p f)) (settings.Setting p f)
  settings_counted = counted (prime_pos prime) settings_numbered
