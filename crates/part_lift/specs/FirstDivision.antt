-- The division of f by b modulo p², where the bar of b divides that of f: it leaves p·h, and h is held in the array of what is left, over p.
-- Proves this, that h is reduced modulo p and has no more terms, and that the bars of the quotient and of b are coprime. Assumes nothing.
use Rattle.std.specs.Prelude.{◌≡◌, List, map, ℕ, ◌<◌, ◌-◌, ◌/◌, length, get_or}
use Rattle.std.proofs.Common.{sym, ◌∙◌, ap, div-lt_iff_lt-mul, arith}
use Rattle.std.proofs.Math.Nat.{zero-div}
use Rattle.std.proofs.lemmas.List.{length-map}
use Rattle.specification.specs.Limits.{◌²}
use Rattle.algebra.specs.Divisibility.{coprime_sym}
use Rattle.algebra.specs.PolynomialRing.{◌·◌}
use Rattle.algebra.specs.Degree.{Below}
use Rattle.algebra.specs.CoefficientLists.{poly, Reduced, 𝓩[x]/}
use Rattle.algebra.specs.ListShapes.{get_d_map}
use Rattle.arrays.specs.Represents.{Represents, below_zeros}
use Rattle.arrays.specs.SameEntries.{zero_above}
use Rattle.items.specs.Reductions.{bar_poly, extension}
use Rattle.items.specs.ListExtension.{part_list}
use Rattle.division.specs.DivisionLoop.{DividedBy}
use Rattle.part_lift.specs.Inverses.{CoprimePair}
use Rattle.part_lift.specs.Cuttable.{Cuttable, large, base_bar, other_monic, even}

module _ (p : ℕ) (r : List ℕ) {h : List ℕ} (e : h ≡ map (λ v. v / p) r) where
  entry : (k : ℕ) → get_or h k 0 ≡ get_or r k 0 / p
  entry k = ap (λ l. get_or l k 0) e ∙ get_d_map (λ v. v / p) (zero-div p) r k

  -- entries below p², over p
  pub over_reduced : 0 < p → Reduced (p ²) 33 r → Reduced p 33 h
  over_reduced pos hr = record {
    len = ap length e ∙ length-map r (λ v. v / p) ∙ hr.len;
    low = λ k. rw (entry k) ((div-lt_iff_lt-mul pos).1 (hr.low k));
  }

  pub over_small : {n : ℕ} → Reduced (p ²) 33 r → Below n (poly (p ²) r) → Below n (poly p h)
  over_small hr small = below_zeros p h (λ k l. entry k ∙ ap (λ v. v / p) (zero_above hr small k l) ∙ zero-div p)

module _ {p : ℕ} {f b : List ℕ} {e n : ℕ} (C : Cuttable p f e b n) {q r : List ℕ} (D : DividedBy (p ²) f b n q r) where
  -- a is the quotient and c is b, modulo p
  pub pair : {a c : List ℕ} → Represents p a (poly p q) → Represents p c (poly p b) → CoprimePair p a (e - n) c n
  pair ha hc = record {
    prime = C.monic.prime;
    positive = C.positive;
    fits = omega (arith, C.monic.array.fits, C.less);
    first = ha.reduced;
    monic_first = rw (ha.is ∙ (even C D).0) (other_monic C);
    second = hc.reduced;
    monic_second = rw hc.is (base_bar C);
    coprime = rw (ha.is ∙ (even C D).0, hc.is) (coprime_sym (𝓩[x]/ p) C.coprime);
  }

  -- f leaves p·h
  pub left_over : {h : List ℕ} → h ≡ map (λ v. v / p) r → (extension p (large C)).π · poly (p ²) h ≡ poly (p ²) r
  left_over hh =
      ap (λ l. (extension p (large C)).π · poly (p ²) l) hh
      ∙ ap (λ k. (extension p (large C)).π · k) (sym (part_list p (large C) r D.remainder.low))
      ∙ sym ((extension p (large C)).kernel (poly (p ²) r) (bar_poly p (large C) r ∙ (even C D).1))
