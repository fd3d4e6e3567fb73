-- Strings of k digits modulo p are the coefficient lists of the specification's `polynomials p k`.
-- Proves that what is numbered by such strings is p to the k things. Assumes nothing.
use Rattle.std.specs.Prelude.{◌≡◌, refl, List, [], ◌∷◌, map, ℕ, ◌<◌, ◌^◌}
use Rattle.std.proofs.Common.{sym, ◌∙◌, subst}
use mathlib.Core.List.Memᴰ
use mathlib.Core.List.Memᴰ.{head as here}
use mathlib.Core.List.Memᴰ.{tail as there}
use Rattle.std.proofs.lemmas.List.{length-map}
use Rattle.specification.specs.Polynomials.{Poly}
use Rattle.specification.specs.Powers.{polynomials}
use Rattle.specification.specs.Items1to3.{Smaller}
use Rattle.specification.specs.Settings.{NoneTwice, Counted}
use Rattle.algebra.specs.CoefficientLists.{Reduced}
use Rattle.lists.specs.Members.{◌∈◌, all_everywhere, all_entries}
use Rattle.lists.specs.InOrder.{InOrder}
use Rattle.items.specs.Enumeration.{polynomials_member, polynomials_has, length_polynomials, polynomials_in_order}
use Rattle.items.specs.ItemOrder.{smaller_irreflexive}
use Rattle.settings.specs.Numberings.{Digits, Numbered}

-- ---- digits are coefficients

pub digits_reduced : {p k : ℕ} → 0 < p → {ds : List ℕ} → Digits p k ds → Reduced p k ds
digits_reduced {p} pos {ds} h = record { len = h.count; low = all_everywhere (λ d. d < p) 0 ds pos h.low }

pub reduced_digits : {p k : ℕ} {ds : List ℕ} → Reduced p k ds → Digits p k ds
reduced_digits {p} {ds = ds} r = record { count = r.len; low = all_entries (λ d. d < p) 0 ds (λ i l. r.low i) }

-- ---- none stands twice

-- a map that is one to one on a list in order
none_twice_lem : {A : Type 0} (g : Poly → A) (l : List Poly) → InOrder Smaller l → ((f h : Poly) → f ∈ l → h ∈ l → g f ≡ g h → f ≡ h) → NoneTwice (map g l)
none_twice_lem g [] o one = tt
none_twice_lem g (f ∷ l) (first, o) one = (
  λ i. let (h, j, e) = Memᴰ.of_map g l i in smaller_irreflexive h (subst (λ a. Smaller a h) (one f h (here refl) (there j) (sym e)) (first h j)),
  none_twice_lem g l o (λ f h i j. one f h (there i) (there j)),
)

-- ---- what they number

pub counted : {A : Type 0} {p k : ℕ} {Has : A → Type 0} → 0 < p → Numbered p k Has → Counted (p ^ k) Has
counted {p = p} {k} {Has} pos N = record {
  list = map N.of (polynomials p k);
  count = length-map (polynomials p k) N.of ∙ length_polynomials p k;
  none_twice = none_twice_lem N.of (polynomials p k) (polynomials_in_order p k) (λ ds es i j. N.none_twice ds es (digits i) (digits j));
  exactly = λ a. (
    λ i. let (ds, j, e) = Memᴰ.of_map N.of (polynomials p k) i in subst Has e (N.offered ds (digits j)),
    λ h.
        let (ds, g, e) = N.all_offered a h in
        Memᴰ.cast (sym e) (Memᴰ.map N.of (polynomials_has p pos k ds (digits_reduced pos g))),
  );
}
  where
    digits : {ds : List ℕ} → ds ∈ polynomials p k → Digits p k ds
    digits i = reduced_digits (polynomials_member p pos k i)
