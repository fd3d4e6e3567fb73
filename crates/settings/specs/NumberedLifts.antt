-- The monic lists modulo p² whose bar is a given monic list G of degree d are numbered by d digits: the digits t give G + p·t.
-- Proves this, and that lists of k of them are numbered by d·k digits. Assumes nothing.
use Rattle.std.specs.Prelude.{◌≡◌, refl, length, replicate, ℕ, zero, suc, ◌<◌, ◌*◌}
use Rattle.std.proofs.Math.Path.{sym, ap}
use Rattle.std.proofs.Common.{◌∙◌, subst, arith}
use mathlib.Core.List.Memᴰ
use mathlib.Core.List.{List, [], ◌∷◌}
use mathlib.Core.List.Memᴰ.{head as here}
use Rattle.specification.specs.Polynomials as spec
use Rattle.specification.specs.Powers.{lifts, polynomials}
use Rattle.specification.specs.Limits.{◌²}
use Rattle.algebra.specs.Ring.{add_left_cancel}
use Rattle.algebra.specs.CoefficientLists.{poly, same_list, 𝓩[x]/}
use Rattle.lists.specs.Members.{All, all_cons, all_tail}
use Rattle.lists.specs.Sums.{total, total_nil, total_cons}
use Rattle.factorisation.specs.ExtensionLaws.{π_injective}
use Rattle.items.specs.MonicLists.{MonicList}
use Rattle.items.specs.Enumeration.{polynomials_member}
use Rattle.items.specs.Reductions.{LiftOf, bar_poly, lift_monic, lift_bar, lifts_has, extension, lift_is}
use Rattle.settings.specs.Numberings.{Digits, Numbered, Each, each_numbered, carried}
use Rattle.settings.specs.DigitStrings.{digits_reduced, reduced_digits}

-- k lifts of G
pub record LiftsOf (p : ℕ) (G : spec.Poly) (k : ℕ) (xs : List spec.Poly) : Type 0 where
  pub count : length xs ≡ k
  pub lifted : All (LiftOf p G) xs

module _ {p : ℕ} (large : 1 < p) {G : spec.Poly} (monic : MonicList p (spec.degree G) G) where
  lifts_numbered : Numbered p (spec.degree G) (LiftOf p G)
  unfolding lifts
  lifts_numbered = record {
    of = spec.lift p G;
    offered = λ ds h. record { monic = lift_monic p large monic ds (omega (arith, h.count)); bar = lift_bar p large monic ds (omega (arith, h.count)) };
    none_twice = λ ds es h g e. same_list (digits_reduced (omega arith) h) (digits_reduced (omega arith) g) (injective ds es e);
    all_offered = all;
  }
    where
      injective : (ds es : List ℕ) → spec.lift p G ds ≡ spec.lift p G es → poly p ds ≡ poly p es
      injective ds es e =
          sym (bar_poly p large ds)
          ∙ π_injective (extension p large)
          (add_left_cancel (𝓩[x]/ (p ²)) (sym (lift_is p large G ds) ∙ ap (poly (p ²)) e ∙ lift_is p large G es))
          ∙ bar_poly p large es

      all : (x : spec.Poly) → LiftOf p G x → (ds : List ℕ) × Digits p (spec.degree G) ds × (spec.lift p G ds ≡ x)
      all x l =
          let (t, i, e) = Memᴰ.of_map (spec.lift p G) (polynomials p (spec.degree G)) (lifts_has p large monic x l.monic l.bar) in
          (t, reduced_digits (polynomials_member p (omega arith) (spec.degree G) i), e)

  pub lift_lists_numbered : (k : ℕ) → Numbered p (spec.degree G * k) (LiftsOf p G k)
  lift_lists_numbered k =
      subst (λ (n : ℕ). Numbered p n (LiftsOf p G k)) (size k)
      (carried (each_numbered (LiftOf p) spec.degree (replicate k G) (only k)) (λ xs. xs) (from k) (λ xs ys h g e. e) (λ xs h. (xs, into k xs h, refl)))
    where
      size : (k : ℕ) → total spec.degree (replicate k G) ≡ spec.degree G * k
      size zero = omega (arith, total_nil spec.degree)
      size (suc k) = omega (arith, total_cons spec.degree G (replicate k G), size k)

      only : (k : ℕ) → All (λ H. Numbered p (spec.degree H) (LiftOf p H)) (replicate k G)
      only zero = λ H i. elim i [ ]
      only (suc k) = all_cons lifts_numbered (only k)

      from : (k : ℕ) (xs : List spec.Poly) → Each (LiftOf p) (replicate k G) xs → LiftsOf p G k xs
      from zero xs e = rw e (record { count = refl; lifted = λ x i. elim i [ ] })
      from (suc k) [] h = absurd h
      from (suc k) (x ∷ xs) (h, r) = let l = from k xs r in record { count = ap suc l.count; lifted = all_cons h l.lifted }

      into : (k : ℕ) (xs : List spec.Poly) → LiftsOf p G k xs → Each (LiftOf p) (replicate k G) xs
      into zero [] l = refl
      into zero (x ∷ xs) l = absurd (omega (arith, l.count))
      into (suc k) [] l = absurd (omega (arith, l.count))
      into (suc k) (x ∷ xs) l = (l.lifted x (here refl), into k xs (record { count = omega (arith, l.count); lifted = all_tail l.lifted }))
