-- A factor of f modulo p² with a given bar, and what it leaves: `CutOff`.
-- Proves that b + p·t and q − p·y are such, where f is b·q + p·h and t and y correct the division modulo p. Assumes nothing.
use Rattle.std.specs.Prelude.{◌≡◌, List, map, ℕ, ◌-◌, ◌+◌, ◌/◌}
use Rattle.std.proofs.Common.{sym, ◌∙◌, ap, ap₂, subst, arith}
use Rattle.specification.specs.Limits.{◌²}
use Rattle.algebra.specs.Numbers.{square_large, square_least}
use Rattle.algebra.specs.Ring.{CommRing, linear2}
use Rattle.algebra.specs.Identities.{con, ◌⊕◌, ◌⊖◌, ◌⊗◌, ⊝◌, ◌≈◌, solve}
use Rattle.algebra.specs.Residues.{residue}
use Rattle.algebra.specs.PolynomialRing.{◌+ᴿ◌, ◌·◌, -ᴿ◌, 𝟏, constant}
use Rattle.algebra.specs.Monomials.{x^, shift_zero}
use Rattle.algebra.specs.Degree.{Monic, monic_add, below_constant_mul}
use Rattle.algebra.specs.Leading.{monic_cofactor}
use Rattle.algebra.specs.Fields.{residue_discrete, residue_nontrivial}
use Rattle.algebra.specs.CoefficientLists.{ℤ[x]/, poly, 𝓩[x]/}
use Rattle.arrays.specs.Represents.{Represents}
use Rattle.arrays.specs.SameEntries.{below_modulo}
use Rattle.arrays.specs.Held.{MonicArray}
use Rattle.factorisation.specs.MonicDivisors.{monic_cancel_eq}
use Rattle.factorisation.specs.ExtensionLaws.{bar_add, bar_mul, bar_add_π, π_equal}
use Rattle.items.specs.Reductions.{barred, bar_poly, extension, π_is}
use Rattle.modular.specs.Multiples.{multiple_taken_off}
use Rattle.division.specs.DivisionLoop.{DividedBy}
use Rattle.part_lift.specs.Correction.{Correction}
use Rattle.part_lift.specs.Cuttable.{Cuttable, large, base_bar}
use Rattle.part_lift.specs.FirstDivision.{left_over}

-- f = P·A modulo p², where P has the bar of b, and A that of what b leaves
pub record CutOff (p : ℕ) (f : List ℕ) (e : ℕ) (b : List ℕ) (n : ℕ) (P A : List ℕ) : Type 0 where
  pub part : MonicArray (p ²) n P
  pub rest : MonicArray (p ²) (e - n) A
  pub bar_part : poly p P ≡ poly p b
  pub bar_rest : (a : ℤ[x]/ p) → poly p b · a ≡ poly p f → poly p A ≡ a
  pub multiplies : poly (p ²) P · poly (p ²) A ≡ poly (p ²) f

module _ {p : ℕ} {f b : List ℕ} {e n : ℕ} (C : Cuttable p f e b n) {q r a c h : List ℕ} (D : DividedBy (p ²) f b n q r)
    (ha : Represents p a (poly p q)) (hc : Represents p c (poly p b)) (hh : h ≡ map (λ v. v / p) r)
    {t y P A : List ℕ} (T : Correction p h a (e - n) c n t y)
    (h_p : Represents (p ²) P (poly (p ²) b +ᴿ constant (residue (p ²) p) · (x^ 0 · poly (p ²) t)))
    (h_a : Represents (p ²) A (poly (p ²) q +ᴿ constant (residue (p ²) (p ² - p)) · (x^ 0 · poly (p ²) y))) where
  abbrev 𝓐 : CommRing (ℤ[x]/ (p ²))
  𝓐 = 𝓩[x]/ (p ²)

  abbrev π : ℤ[x]/ (p ²)
  π = (extension p (large C)).π

  part_is_lem : poly (p ²) P ≡ poly (p ²) b +ᴿ π · poly (p ²) t
  part_is_lem = h_p.is ∙ ap₂ (λ k a. poly (p ²) b +ᴿ k · a) (sym (π_is p (large C))) (shift_zero (poly (p ²) t))

  rest_is : poly (p ²) A ≡ poly (p ²) q +ᴿ -ᴿ (π · poly (p ²) y)
  rest_is =
      multiple_taken_off (p ²) (omega (arith, square_large p (large C))) (square_least p) (poly (p ²) q) (poly (p ²) y) h_a
      ∙ ap (λ k. poly (p ²) q +ᴿ -ᴿ (k · poly (p ²) y)) (sym (π_is p (large C)))

  part_monic : Monic n (poly (p ²) P)
  part_monic =
      rw (part_is_lem, π_is p (large C))
      (monic_add C.base.monic (below_constant_mul (residue (p ²) p) (below_modulo (p ²) T.part T.small_part)))

  bar_part_lem : poly p P ≡ poly p b
  bar_part_lem =
      sym (bar_poly p (large C) P) ∙ ap (barred p (large C)) part_is_lem ∙ bar_add_π (extension p (large C)) (poly (p ²) b) (poly (p ²) t)
      ∙ bar_poly p (large C) b

  -- y·b + h = t·q modulo p
  bars : barred p (large C) (poly (p ²) y · poly (p ²) b +ᴿ poly (p ²) h) ≡ barred p (large C) (poly (p ²) t · poly (p ²) q)
  bars =
      bar_add (extension p (large C)) (poly (p ²) y · poly (p ²) b) (poly (p ²) h)
      ∙ ap₂ ◌+ᴿ◌
      (bar_mul (extension p (large C)) (poly (p ²) y) (poly (p ²) b) ∙ ap₂ ◌·◌ (bar_poly p (large C) y) (bar_poly p (large C) b ∙ sym hc.is))
      (bar_poly p (large C) h)
      ∙ T.law
      ∙ sym (bar_mul (extension p (large C)) (poly (p ²) t) (poly (p ²) q)
      ∙ ap₂ ◌·◌ (bar_poly p (large C) t) (bar_poly p (large C) q ∙ sym ha.is))

  -- so (q − p·y)·(b + p·t) = q·b + p·h
  exact : poly (p ²) A · poly (p ²) P ≡ poly (p ²) f
  exact =
      ap₂ ◌·◌ rest_is part_is_lem
      ∙ linear2 𝓐 (-ᴿ 𝟏) (-ᴿ (poly (p ²) y · poly (p ²) t)) (π_equal (extension p (large C)) bars) (extension p (large C)).square
      (solve 𝓐 6
      (λ q y b t π h. (q ⊖ π ⊗ y) ⊗ (b ⊕ π ⊗ t) ⊖ (q ⊗ b ⊕ π ⊗ h) ≈ ⊝ con 1 ⊗ (π ⊗ (y ⊗ b ⊕ h) ⊖ π ⊗ (t ⊗ q)) ⊕ ⊝ (y ⊗ t) ⊗ (π ⊗ π ⊖ con 0))
      tt (poly (p ²) q) (poly (p ²) y) (poly (p ²) b) (poly (p ²) t) π (poly (p ²) h))
      ∙ ap (λ l. poly (p ²) q · poly (p ²) b +ᴿ l) (left_over C D hh) ∙ D.law

  rest_monic : Monic (e - n) (poly (p ²) A)
  rest_monic =
      go
      (monic_cofactor (residue_discrete (p ²)) (residue_nontrivial (square_large p (large C))) {d = e} (poly (p ²) A) (poly (p ²) P) part_monic
      (rw exact C.monic.array.monic))
    where
      go : (j : ℕ) × Monic j (poly (p ²) A) × (j + n ≡ e) → Monic (e - n) (poly (p ²) A)
      go (j, m, s) = subst (λ k. Monic k (poly (p ²) A)) (let u : j ≡ e - n = omega arith in u) m

  -- A times the bar of b is the bar of f
  bar_exact : poly p A · poly p b ≡ poly p f
  bar_exact =
      ap₂ ◌·◌ (sym (bar_poly p (large C) A)) (sym bar_part_lem ∙ sym (bar_poly p (large C) P))
      ∙ sym (bar_mul (extension p (large C)) (poly (p ²) A) (poly (p ²) P)) ∙ ap (barred p (large C)) exact ∙ bar_poly p (large C) f

  pub cut_off_is : CutOff p f e b n P A
  cut_off_is = record {
    part = record { fits = C.base.fits; reduced = h_p.reduced; monic = part_monic };
    rest = record { fits = omega (arith, C.monic.array.fits); reduced = h_a.reduced; monic = rest_monic };
    bar_part = bar_part_lem;
    bar_rest = λ a law. monic_cancel_eq (base_bar C) (bar_exact ∙ sym law ∙ (𝓩[x]/ p).*_comm (poly p b) a);
    multiplies = 𝓐.*_comm (poly (p ²) P) (poly (p ²) A) ∙ exact;
  }
