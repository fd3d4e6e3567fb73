-- Multiples by x modulo a monic polynomial: `MovedUp a r`, each coefficient of r is that of a one place lower. The loops of `move_up` and `times_power_of_x`.
-- Proves that coefficients moved up one place are x·a, that one turn of a division leaves its remainder, and how the loops begin, go on and end.
-- Assumes nothing.
use Rattle.std.specs.Prelude.{◌≡◌, refl, List, ◌∷◌, ℕ, zero, suc, ◌<◌, ◌≤◌, ◌-◌, ◌+◌, length, get_or, set}
use Rattle.std.proofs.Common.{sym, ◌∙◌, ap, subst, ⊎_elim, zero-le, le_antisymm, add-one, arith}
use Rattle.lists.specs.Entries.{Replaced, replaced_none, replaced_down}
use Rattle.algebra.specs.Numbers.{lt_or_le}
use Rattle.algebra.specs.Identities.{◌⊖◌, ◌⊗◌, ⊝◌, ◌≈◌, solve}
use Rattle.algebra.specs.Residues.{residue}
use Rattle.algebra.specs.PolynomialRing.{◌+ᴿ◌, ◌·◌, -ᴿ◌, x, constant}
use Rattle.algebra.specs.Degree.{Below, Monic, below_x_mul}
use Rattle.algebra.specs.Division.{below_top}
use Rattle.algebra.specs.CoefficientLists.{ℤ[x]/, poly, Reduced, coef_poly, poly_zero_cons, 𝓩[x]/}
use Rattle.algebra.specs.Congruence.{Congruent, congruent_equal, congruent_trans, congruent_mul}
use Rattle.algebra.specs.Monomials.{x^, shift_zero, shift_suc}
use Rattle.arrays.specs.Represents.{Represents, ZeroFrom}
use Rattle.arrays.specs.SameEntries.{same_poly}
use Rattle.modular.specs.Multiples.{multiple_taken_off}
use Rattle.quotients.specs.Remainder.{Remainder, remainder_as}

-- r is 0 and then a
pub record MovedUp (a r : List ℕ) : Type 0 where
  pub len : length r ≡ length a
  pub each : (j : ℕ) → get_or r j 0 ≡ get_or (0 ∷ a) j 0

-- the entries from i + 1 to d are those of a one place lower
pub record Moving (a : List ℕ) (d i : ℕ) (r : List ℕ) : Type 0 where
  pub entries : Replaced 0 (λ j. get_or (0 ∷ a) j 0) a (i + 1) r (d + 1)

pub moving_none : {a : List ℕ} {d : ℕ} → Moving a d d a
moving_none = record { entries = replaced_none }

pub moving_more : {a : List ℕ} {d i : ℕ} {r : List ℕ} → Moving a d i r → 0 < i → i < length a → Moving a d (i - 1) (set r i (get_or r (i - 1) 0))
moving_more {a} {d} {i} {r} w pos fits = record {
  entries = subst (λ (k : ℕ). Replaced 0 (λ j. get_or (0 ∷ a) j 0) a k (set r i (get_or r (i - 1) 0)) (d + 1)) (let e : i ≡ i - 1 + 1 = omega arith in e)
      (replaced_down w.entries fits (w.entries.below (i - 1) (omega arith) ∙ lower i pos));
}
  where
    lower : (i : ℕ) → 0 < i → get_or a (i - 1) 0 ≡ get_or (0 ∷ a) i 0
    lower zero l = absurd (omega arith)
    lower (suc i) l = ap (λ (k : ℕ). get_or a k 0) (let e : suc i - 1 ≡ i = omega arith in e)

-- and 0 comes to stand in the first place
pub moving_done : {a : List ℕ} {d i : ℕ} {r : List ℕ} → Moving a d i r → i ≤ 0 → d < length a → ZeroFrom d a → MovedUp a (set r 0 0)
moving_done {a} {d} {i} {r} w l fits none = record {
  len = all.len;
  each = λ j. ⊎_elim (λ u. all.new j zero-le u) (λ u. all.above j u ∙ none j (omega arith) ∙ past j u) (lt_or_le j (d + 1));
}
  where
    all : Replaced 0 (λ j. get_or (0 ∷ a) j 0) a 0 (set r 0 0) (d + 1)
    all = replaced_down (subst (λ (k : ℕ). Replaced 0 (λ j. get_or (0 ∷ a) j 0) a (k + 1) r (d + 1)) (let e : i ≡ 0 = omega arith in e) w.entries)
        (omega arith) refl

    past : (j : ℕ) → d + 1 ≤ j → 0 ≡ get_or (0 ∷ a) j 0
    past zero u = refl
    past (suc j) u = sym (none j (omega arith))

module _ {n : ℕ} {a t : List ℕ} (ha : Reduced n 33 a) (T : MovedUp a t) where
  is : poly n t ≡ x · poly n a
  is = same_poly n t (0 ∷ a) T.each ∙ poly_zero_cons n a

  pub moved_reduced : Reduced n 33 t
  moved_reduced = record { len = T.len ∙ ha.len; low = λ j. rw (T.each j) (low j) }
    where
      low : (j : ℕ) → get_or (0 ∷ a) j 0 < n
      low zero = omega (arith, ha.low 0)
      low (suc j) = ha.low j

  -- the leading coefficient times q is taken off; n − c stands for −c
  pub shifted : {d : ℕ} {q r : List ℕ} → Below d (poly n a) → Monic d (poly n q)
      → Represents n r (poly n t +ᴿ constant (residue n (n - get_or t d 0)) · (x^ 0 · poly n q)) → Remainder n q d r (x · poly n a)
  shifted {d} {q} {r} small m h = record {
    reduced = h.reduced;
    small = rw less (below_top m (poly n t) (rw is (below_x_mul small)));
    congruent = rw less (congruent_trans (𝓩[x]/ n) (taken_off (constant ((poly n t).coef d))) (congruent_equal (𝓩[x]/ n) is));
  }
    where
      low : get_or t d 0 < n
      low = moved_reduced.low d

      less : poly n r ≡ poly n t +ᴿ -ᴿ (constant ((poly n t).coef d) · poly n q)
      less =
          multiple_taken_off n (omega (arith, low)) (omega (arith, low)) (poly n t) (poly n q) h
          ∙ ap (λ c. poly n t +ᴿ -ᴿ (constant c · poly n q)) (sym (coef_poly n t d))

      taken_off : (c : ℤ[x]/ n) → Congruent (𝓩[x]/ n) (poly n q) (poly n t +ᴿ -ᴿ (c · poly n q)) (poly n t)
      taken_off c = (-ᴿ c, solve (𝓩[x]/ n) 3 (λ t c q. ⊝ c ⊗ q ≈ t ⊖ c ⊗ q ⊖ t) tt (poly n t) c (poly n q))

-- ---- k turns

module _ {n : ℕ} {q : List ℕ} {d : ℕ} (a : List ℕ) where
  pub shifts_none : Reduced n 33 a → Below d (poly n a) → Remainder n q d a (x^ 0 · poly n a)
  shifts_none ha small = record { reduced = ha; small = small; congruent = congruent_equal (𝓩[x]/ n) (sym (shift_zero (poly n a))) }

  pub shifts_more : (i : ℕ) {r v : List ℕ} → Remainder n q d r (x^ i · poly n a) → Remainder n q d v (x · poly n r)
      → Remainder n q d v (x^ (i + 1) · poly n a)
  shifts_more i {r} hr hv =
      rw (add-one, shift_suc i (poly n a))
      (remainder_as n hv (congruent_mul (𝓩[x]/ n) (congruent_equal (𝓩[x]/ n) refl) hr.congruent))

  pub shifts_done : {i k : ℕ} {r : List ℕ} → i ≤ k → k ≤ i → Remainder n q d r (x^ i · poly n a) → Remainder n q d r (x^ k · poly n a)
  shifts_done {r = r} l g h = subst (λ m. Remainder n q d r (x^ m · poly n a)) (le_antisymm l g) h
