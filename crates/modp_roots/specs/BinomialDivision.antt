-- Division by x^k − c, in place: `BinomialDivided p k c a w`, the quotient of a stands in w from k on, and the remainder below k; `BinomialSteps`, the
-- loop of `divide_binomial`; `MovedDown`, the entries from k on moved down; `PowerOf` and `LargestPower`, the powers of p.
-- Proves that the loops end so, and that (x − c)^k is divided out where the remainder is 0 and k is a power of p. Assumes nothing.
use Rattle.std.specs.Prelude.{◌≡◌, refl, List, ℕ, zero, suc, ◌≤◌, ◌<◌, ◌-◌, ◌%◌, ◌/◌, ◌+◌, ◌*◌, ◌^◌, length, get_or, set, take, drop, replicate, ◌++◌, ◌⊎◌}
use Rattle.std.proofs.Common.{sym, ◌∙◌, ap, ap₂, inl, inr, ⊎_elim, zero-le, mod-lt, add_comm, one-mul, pow-suc, mul-div_cancel, arith, length-set, get_or-set_same, get_or-set_other, get_or-drop}
use Rattle.std.proofs.Math.Decide.{ℕ_discrete}
use Rattle.std.proofs.Math.Nat.{pow-zero, pow-le-pow_right}
use Rattle.std.proofs.lemmas.List.{length-replicate}
use Rattle.std.proofs.Math.ListN.{get_or-append}
use Rattle.std.proofs.Math.Seq.{get_or-append_right}
use Rattle.std.proofs.lemmas.List.{take_all, length-drop, length-append}
use Rattle.lists.specs.Entries.{Replaced}
use Rattle.lists.specs.Places.{from_end}
use Rattle.algebra.specs.Numbers.{lt_or_le}
use Rattle.algebra.specs.Ring.{add_zero, mul_zero}
use Rattle.algebra.specs.Identities.{◌⊕◌, ◌⊖◌, ◌⊗◌, ◌≈◌, solve}
use Rattle.algebra.specs.Divisibility.{pow}
use Rattle.algebra.specs.Residues.{residue, Residues, residue_add, residue_mul, residue_mod}
use Rattle.algebra.specs.PolynomialRing.{◌+ᴿ◌, ◌·◌, -ᴿ◌, 𝟎, x, constant, poly_ext}
use Rattle.algebra.specs.Monomials.{x^}
use Rattle.algebra.specs.Degree.{Below}
use Rattle.algebra.specs.Fields.{Prime, prime_pos}
use Rattle.algebra.specs.CoefficientLists.{𝓩[x]/, poly, Reduced, coef_poly}
use Rattle.algebra.specs.ListShapes.{get_d_zeros}
use Rattle.arrays.specs.Represents.{Within, coef_added, poly_parts}
use Rattle.arrays.specs.SameEntries.{same_poly}
use Rattle.frobenius.specs.Evaluation.{linear}
use Rattle.frobenius.specs.FrobeniusPowers.{binomial_power}

-- ---- powers of p

-- k is a power of p
pub record PowerOf (p k : ℕ) : Type 0 where
  pub exponent : ℕ
  pub is : k ≡ p ^ exponent

-- k is the largest power of p that is at most n
pub record LargestPower (p n k : ℕ) : Type 0 where
  pub power : PowerOf p k
  pub fits : k ≤ n
  pub next : n < k * p

module _ {p : ℕ} where
  -- p itself
  pub power_none : PowerOf p p
  power_none = record { exponent = 1; is = sym (pow-suc p 0 ∙ ap (λ (i : ℕ). i * p) (pow-zero p) ∙ one-mul p) }

  pub power_more : {k : ℕ} → PowerOf p k → PowerOf p (k * p)
  power_more h = record { exponent = suc h.exponent; is = ap (λ (i : ℕ). i * p) h.is ∙ sym (pow-suc p h.exponent) }

  module _ (P : Prime p) {k : ℕ} (h : PowerOf p k) where
    pub power_positive : 0 < k
    power_positive = omega (arith, h.is, pow-zero p, pow-le-pow_right (prime_pos P) {i = 0} {j = h.exponent} zero-le)

    -- the next lower power
    pub power_less : 1 < k → PowerOf p (k / p)
    power_less l = go h.exponent h.is
      where
        go : (j : ℕ) → k ≡ p ^ j → PowerOf p (k / p)
        go zero e = absurd (omega (arith, e, pow-zero p))
        go (suc j) e = record { exponent = j; is = ap (λ (i : ℕ). i / p) (e ∙ pow-suc p j) ∙ mul-div_cancel (p ^ j) (prime_pos P) }

-- ---- the division

-- a is q·(x^k − c) + r, where q are the entries of w from k on, and r those below
pub record BinomialDivided (p k c : ℕ) (a w : List ℕ) : Type 0 where
  pub len : length w ≡ length a
  pub low : Within p w
  pub law : poly p (drop k w) · (x^ k +ᴿ -ᴿ constant (residue p c)) +ᴿ poly p (take k w) ≡ poly p a

-- from i on w is a and c times the entries of w that stand k places higher; below i it is a
pub record BinomialSteps (p k c : ℕ) (a : List ℕ) (i : ℕ) (w : List ℕ) : Type 0 where
  pub len : length w ≡ length a
  pub low : Within p w
  pub kept : (j : ℕ) → j < i → get_or w j 0 ≡ get_or a j 0
  pub steps : (j : ℕ) → i ≤ j
      → residue p (get_or w j 0) ≡ (Residues p).add (residue p (get_or a j 0)) ((Residues p).mul (residue p c) (residue p (get_or w (j + k) 0)))

module _ {p k c : ℕ} {a : List ℕ} where
  pub steps_none : {n : ℕ} → k ≤ n → Within p a → Below (suc n) (poly p a) → BinomialSteps p k c a (n - k + 1) a
  steps_none {n} l low below = record {
    len = refl;
    low = low;
    kept = λ j u. refl;
    steps = λ j u.
        sym (add_zero (Residues p) _)
        ∙ ap ((Residues p).add (residue p (get_or a j 0)))
        (sym (ap ((Residues p).mul (residue p c)) (sym (coef_poly p a (j + k)) ∙ below.high (j + k) (omega arith)) ∙ mul_zero (Residues p) _));
  }

  -- one entry more, the entry j below i
  pub steps_more : {i j : ℕ} {w : List ℕ} {v : ℕ} → 0 < k → i ≡ suc j → j < length a → BinomialSteps p k c a i w
      → v ≡ (get_or w j 0 + c * get_or w (j + k) 0) % p → BinomialSteps p k c a j (set w j v)
  steps_more {i} {j} {w} {v} pos next inside S is = record {
    len = length-set w j v ∙ S.len;
    low = λ t. low t (ℕ_discrete t j);
    kept = λ t u. get_or-set_other w j t v 0 (omega arith) ∙ S.kept t (omega arith);
    steps = λ t u. step t u (ℕ_discrete t j);
  }
    where
      modulus : 0 < p
      modulus = omega (arith, S.low 0)

      room : j < length w
      room = omega (arith, S.len)

      low : (t : ℕ) → Dec (t ≡ j) → get_or (set w j v) t 0 < p
      low t (yes e) = rw (e, get_or-set_same w j v 0 room, is) (mod-lt _ modulus)
      low t (no e) = rw (get_or-set_other w j t v 0 e) (S.low t)

      -- the entries above j stay
      higher : (t : ℕ) → j < t → get_or (set w j v) t 0 ≡ get_or w t 0
      higher t l = get_or-set_other w j t v 0 (omega arith)

      step : (t : ℕ) → j ≤ t → Dec (t ≡ j) → residue p (get_or (set w j v) t 0)
          ≡ (Residues p).add (residue p (get_or a t 0)) ((Residues p).mul (residue p c) (residue p (get_or (set w j v) (t + k) 0)))
      step t l (yes e) =
          rw (e, get_or-set_same w j v 0 room, higher (j + k) (omega arith), is)
          (residue_mod p modulus _ ∙ residue_add p (get_or w j 0) (c * get_or w (j + k) 0)
          ∙ ap₂ (Residues p).add (ap (residue p) (S.kept j (omega arith))) (residue_mul p c (get_or w (j + k) 0)))
      step t l (no e) =
          rw (higher t (omega (arith, e)), higher (t + k) (omega arith)) (S.steps t (omega (arith, e)))

  pub steps_done : {i : ℕ} {w : List ℕ} → i ≤ 0 → BinomialSteps p k c a i w → BinomialDivided p k c a w
  steps_done {i} {w} z S = record {
    len = S.len;
    low = S.low;
    law = solve (𝓩[x]/ p) 4 (λ q m c r. q ⊗ (m ⊖ c) ⊕ r ≈ r ⊕ m ⊗ q ⊖ c ⊗ q) tt
        (poly p (drop k w)) (x^ k) (constant (residue p c)) (poly p (take k w))
        ∙ ap (λ b. b +ᴿ -ᴿ (constant (residue p c) · poly p (drop k w))) (sym (poly_parts p w k) ∙ whole)
        ∙ solve (𝓩[x]/ p) 3 (λ a c q. a ⊕ c ⊗ q ⊖ c ⊗ q ≈ a) tt (poly p a) (constant (residue p c)) (poly p (drop k w));
  }
    where
      whole : poly p w ≡ poly p a +ᴿ constant (residue p c) · poly p (drop k w)
      whole = poly_ext (λ j.
          coef_poly p w j ∙ S.steps j (omega arith)
          ∙ ap (λ b. (Residues p).add (residue p (get_or a j 0)) ((Residues p).mul (residue p c) b))
          (ap (λ (t : ℕ). residue p (get_or w t 0)) (add_comm j k) ∙ ap (residue p) (sym (get_or-drop k w j 0)) ∙ sym (coef_poly p (drop k w) j))
          ∙ sym (coef_added p a c (poly p (drop k w)) j))

-- ---- the quotient moved down

-- r are the entries of a from k on
pub record MovedDown (k : ℕ) (a r : List ℕ) : Type 0 where
  pub len : length r ≡ 33
  pub entries : (j : ℕ) → get_or r j 0 ≡ get_or a (j + k) 0

-- the entries from k on, and zeros behind them
pub moved_copy : {k : ℕ} {a q : List ℕ} → length a ≡ 33 → k < 33 → q ≡ take (33 - k) (drop k a) → MovedDown k a (q ++ drop (33 - k) (replicate 33 0))
moved_copy {k} {a} {q} len l copied = record {
  len = omega (arith, length-append q zeros, few, length-drop {A = ℕ} (33 - k) (replicate 33 0), length-replicate {A = ℕ} 33 0);
  entries = λ j. at j (lt_or_le j (33 - k));
}
  where
    zeros : List ℕ
    zeros = drop (33 - k) (replicate 33 0)

    is : q ≡ drop k a
    is = copied ∙ take_all (33 - k) (drop k a) (omega (arith, length-drop k a, len))

    few : length q ≡ 33 - k
    few = ap length is ∙ length-drop k a ∙ ap (λ (n : ℕ). n - k) len

    at : (j : ℕ) → (j < 33 - k) ⊎ (33 - k ≤ j) → get_or (q ++ zeros) j 0 ≡ get_or a (j + k) 0
    at j (inl u) =
        get_or-append q zeros 0 j (omega (arith, few)) ∙ ap (λ (r : List ℕ). get_or r j 0) is ∙ get_or-drop k a j 0
        ∙ ap (λ (t : ℕ). get_or a t 0) (add_comm k j)
    at j (inr u) =
        get_or-append_right q zeros j 0 (omega (arith, few)) ∙ get_or-drop (33 - k) (replicate 33 0) (j - length q) 0
        ∙ get_d_zeros 33 (33 - k + (j - length q)) ∙ sym (from_end 0 a 33 (omega (arith, len)) (j + k) (omega arith))

module _ {k : ℕ} {a : List ℕ} where
  -- a loop has passed all entries from k on
  pub moved_done : {r : List ℕ} {i : ℕ} → length a ≡ 33 → 33 - k ≤ i → Replaced 0 (λ j. get_or a (j + k) 0) (replicate 33 0) 0 r i → MovedDown k a r
  moved_done {r} {i} len l R = record {
    len = R.len ∙ length-replicate {A = ℕ} 33 0;
    entries = λ j. ⊎_elim (R.new j zero-le)
        (λ u. R.above j u ∙ get_d_zeros 33 j ∙ sym (from_end 0 a 33 (omega (arith, len)) (j + k) (omega arith))) (lt_or_le j i);
  }

-- ---- (x − c)^k divided out

module _ {p k c : ℕ} {a w q : List ℕ} (D : BinomialDivided p k c a w) (M : MovedDown k w q) where
  pub moved_reduced : Reduced p 33 q
  moved_reduced = record { len = M.len; low = λ j. rw (M.entries j) (D.low (j + k)) }

  pub power_exact : Prime p → PowerOf p k → poly p (take k w) ≡ 𝟎 → poly p q · pow (𝓩[x]/ p) (linear (residue p c)) k ≡ poly p a
  power_exact P h none =
      ap₂ ◌·◌ same power ∙ sym (add_zero (𝓩[x]/ p) _)
      ∙ ap (λ b. poly p (drop k w) · (x^ k +ᴿ -ᴿ constant (residue p c)) +ᴿ b) (sym none) ∙ D.law
    where
      same : poly p q ≡ poly p (drop k w)
      same = same_poly p q (drop k w) (λ j. M.entries j ∙ ap (λ (t : ℕ). get_or w t 0) (add_comm j k) ∙ sym (get_or-drop k w j 0))

      power : pow (𝓩[x]/ p) (linear (residue p c)) k ≡ x^ k +ᴿ -ᴿ constant (residue p c)
      power = rw h.is (binomial_power P x (residue p c) h.exponent)
