-- The specification's lists of all polynomials modulo p: `polynomials p k`, those of k coefficients; `monics_to p d`, the monic ones of degree 1 to d.
-- Proves that they hold exactly these, in the order of item 3, and how many have k coefficients. Assumes nothing.
use Rattle.std.specs.Prelude.{◌≡◌, length, take}
use Rattle.std.proofs.Math.Path.{refl, ap, subst}
use Rattle.std.proofs.Common.{sym, ◌∙◌, inl, eq-or-lt_of_le, pow-suc}
use mathlib.Core.List.Memᴰ
use mathlib.Core.List.{[], ◌∷◌, ◌++◌, map}
use mathlib.Core.List.Memᴰ.{head as here}
use Rattle.std.proofs.Math.Logic.{inr, ⊎_elim}
use Prim.Native.Nat.{ℕ, zero, suc, ◌≤◌, ◌<◌, ◌+◌, ◌*◌, ◌^◌}
use Rattle.std.proofs.Math.Nat.{pow-zero}
use native.Mathlib.Omega.{arith}
use Rattle.std.proofs.Math.ListN.{get_or, length-append}
use Rattle.std.proofs.lemmas.List.{length-map}
use Rattle.std.proofs.Math.Seq.{length-take-le}
use Rattle.specification.specs.Lists.{up_from, below}
use Rattle.specification.specs.Polynomials.{Poly, degree}
use Rattle.specification.specs.Powers.{polynomials, monics, monics_to}
use Rattle.specification.specs.Items1to3.{Smaller, Before}
use Rattle.algebra.specs.CoefficientLists.{Reduced}
use Rattle.lists.specs.NumbersFrom.{up_from_length, up_from_member, up_from_has}
use Rattle.algebra.specs.ListShapes.{low_take}
use Rattle.lists.specs.Members.{◌∈◌}
use Rattle.lists.specs.InOrder.{InOrder, in_order_by, in_order_append, in_order_map, in_order_flat_map, up_from_in_order}
use Rattle.lists.specs.Sums.{total_constant}
use Rattle.lists.specs.FlatMaps.{mem_flat_map, flat_map_mem, length_flat_map}
use Rattle.items.specs.MonicLists.{MonicList}
use Rattle.lists.specs.Ends.{then, last_again}

-- ---- the polynomials of k coefficients

-- a, then f
abbrev before : Poly → ℕ → Poly
before f a = a ∷ f

module _ (p : ℕ) (pos : 0 < p) where
  pub polynomials_member : (k : ℕ) {f : Poly} → f ∈ polynomials p k → Reduced p k f
  unfolding polynomials below
  polynomials_member zero (here e) = rw e (record { len = refl; low = λ i. pos })
  polynomials_member zero {f = f} (Memᴰ.tail i) = elim i [ ]
  polynomials_member (suc k) {f} i =
      let (g, j, m) = mem_flat_map (λ (f : Poly). map (before f) (below p)) (polynomials p k) i in
      let (a, n, e) = Memᴰ.of_map (before g) (up_from 0 p) m in
      subst (Reduced p (suc k)) e (longer a g (up_from_member 0 p n).1 (polynomials_member k j))
    where
      longer : (a : ℕ) (g : Poly) → a < 0 + p → Reduced p k g → Reduced p (suc k) (a ∷ g)
      longer a g l r = record { len = ap suc r.len; low = low }
        where
          low : (i : ℕ) → get_or (a ∷ g) i 0 < p
          low zero = omega arith
          low (suc i) = r.low i

  pub polynomials_has : (k : ℕ) (f : Poly) → Reduced p k f → f ∈ polynomials p k
  unfolding polynomials below
  polynomials_has zero [] r = here refl
  polynomials_has zero (a ∷ f) r = absurd (omega (arith, r.len))
  polynomials_has (suc k) [] r = absurd (omega (arith, r.len))
  polynomials_has (suc k) (a ∷ f) r =
      flat_map_mem (λ (f : Poly). map (before f) (below p)) (polynomials p k)
      (polynomials_has k f (record { len = omega (arith, r.len); low = λ i. r.low (suc i) }))
      (Memᴰ.map (before f) (up_from_has 0 p (omega arith) (omega (arith, r.low 0))))

pub length_polynomials : (p k : ℕ) → length (polynomials p k) ≡ p ^ k
unfolding polynomials below
length_polynomials p zero = sym (pow-zero p)
length_polynomials p (suc k) =
    length_flat_map (λ (f : Poly). map (before f) (below p)) (polynomials p k)
    ∙ total_constant _ p (polynomials p k) (λ f. length-map (up_from 0 p) (before f) ∙ up_from_length 0 p)
    ∙ ap (λ (n : ℕ). n * p) (length_polynomials p k) ∙ sym (pow-suc p k)

pub polynomials_in_order : (p k : ℕ) → InOrder Smaller (polynomials p k)
unfolding polynomials below
polynomials_in_order p zero = ((λ f i. elim i [ ]), tt)
polynomials_in_order p (suc k) =
    in_order_flat_map (λ (f : Poly). map (before f) (below p)) Smaller Smaller (polynomials p k)
    (λ f i. in_order_map ◌<◌ Smaller (before f) (up_from 0 p) (λ a b l. inr (refl, l)) (up_from_in_order 0 p)) cross (polynomials_in_order p k)
  where
    cross : (f g : Poly) → Smaller f g → (c d : Poly) → c ∈ map (before f) (up_from 0 p) → d ∈ map (before g) (up_from 0 p) → Smaller c d
    cross f g l c d i j =
        let (a, m, e) = Memᴰ.of_map (before f) (up_from 0 p) i in
        let (b, n, q) = Memᴰ.of_map (before g) (up_from 0 p) j in
        subst (λ x. Smaller x d) e (subst (Smaller (a ∷ f)) q (inl l))

-- ---- monic polynomials

-- f, then 1
abbrev topped : Poly → Poly
topped f = f ++ (1 ∷ [])

smaller_topped : (f g : Poly) → Smaller f g → Smaller (topped f) (topped g)
smaller_topped [] g s = absurd s
smaller_topped (a ∷ f) [] s = absurd s
smaller_topped (a ∷ f) (b ∷ g) s = ⊎_elim (λ l. inl (smaller_topped f g l)) (λ (e, l). inr (ap topped e, l)) s

top_is : (f : Poly) → get_or (topped f) (length f) 0 ≡ 1
top_is [] = refl
top_is (a ∷ f) = top_is f

low_topped : {n : ℕ} → 1 < n → (f : Poly) → ((k : ℕ) → get_or f k 0 < n) → (k : ℕ) → get_or (topped f) k 0 < n
low_topped l [] h zero = l
low_topped l [] h (suc k) = h 0
low_topped l (a ∷ f) h zero = h 0
low_topped l (a ∷ f) h (suc k) = low_topped l f (λ i. h (suc i)) k

topped_again : (d : ℕ) (f : Poly) → length f ≡ suc d → get_or f d 0 ≡ 1 → f ≡ topped (take d f)
topped_again d f h e = last_again d f 0 h ∙ ap (then (take d f)) e

degree_is_lem : {n d : ℕ} {f : Poly} → MonicList n d f → degree f ≡ d
degree_is_lem m = omega (arith, m.reduced.len)

module _ (p : ℕ) (large : 1 < p) where
  monics_member : (d : ℕ) {f : Poly} → f ∈ monics p d → MonicList p d f
  unfolding monics
  monics_member d i =
      let (g, j, e) = Memᴰ.of_map topped (polynomials p d) i in
      subst (MonicList p d) e (monic g (polynomials_member p (omega arith) d j))
    where
      monic : (g : Poly) → Reduced p d g → MonicList p d (topped g)
      monic g r = record {
        reduced = record { len = length-append g (1 ∷ []) ∙ omega (arith, r.len); low = low_topped large g r.low };
        leads = subst (λ k. get_or (topped g) k 0 ≡ 1) r.len (top_is g);
      }

  monics_has : (d : ℕ) (f : Poly) → MonicList p d f → f ∈ monics p d
  unfolding monics
  monics_has d f m =
      Memᴰ.cast (topped_again d f m.reduced.len m.leads)
      (Memᴰ.map topped (polynomials_has p (omega arith) d (take d f)
      (record { len = length-take-le d f (omega (arith, m.reduced.len)); low = low_take p (omega arith) d f m.reduced.low })))

  -- the monic polynomials of degree 1 to n
  pub monics_to_member : (n : ℕ) {f : Poly} → f ∈ monics_to p n → (d : ℕ) × (1 ≤ d) × (d ≤ n) × MonicList p d f
  unfolding monics_to
  monics_to_member zero i = elim i [ ]
  monics_to_member (suc n) i =
      ⊎_elim (λ j. let (d, l, u, m) = monics_to_member n j in (d, l, omega arith, m)) (λ j. (suc n, omega arith, omega arith, monics_member (suc n) j))
      (Memᴰ.append_cases (monics_to p n) i)

  pub monics_to_has : (n d : ℕ) (f : Poly) → 1 ≤ d → d ≤ n → MonicList p d f → f ∈ monics_to p n
  unfolding monics_to
  monics_to_has zero d f l u m = absurd (omega arith)
  monics_to_has (suc n) d f l u m =
      ⊎_elim (λ e. Memᴰ.append_right (monics_to p n) (subst (λ k. f ∈ monics p k) e (monics_has d f m)))
      (λ k. Memᴰ.append_left (monics p (suc n)) (monics_to_has n d f l (omega arith) m)) (eq-or-lt_of_le u)

  -- in the order of item 3
  pub monics_to_in_order : (n : ℕ) → InOrder Before (monics_to p n)
  unfolding monics_to monics
  monics_to_in_order zero = tt
  monics_to_in_order (suc n) = in_order_append Before (monics_to p n) (monics p (suc n)) (monics_to_in_order n) same_degree lower
    where
      same_degree : InOrder Before (monics p (suc n))
      same_degree =
          in_order_by Smaller Before (monics p (suc n))
          (λ f g i j l. inr (omega (arith, degree_is_lem (monics_member (suc n) i), degree_is_lem (monics_member (suc n) j)), l))
          (in_order_map Smaller Smaller topped (polynomials p (suc n)) smaller_topped (polynomials_in_order p (suc n)))

      lower : (f g : Poly) → f ∈ monics_to p n → g ∈ monics p (suc n) → Before f g
      lower f g i j =
          let (d, l, u, m) = monics_to_member n i in
          inl (omega (arith, degree_is_lem m, degree_is_lem (monics_member (suc n) j)))
