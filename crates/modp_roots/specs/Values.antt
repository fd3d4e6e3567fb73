-- The values of a polynomial at all residues: `value_at p c a`, the value of a at c; `ValuesOf p a r`, the array r holds them; `HornerStep`, one step of
-- Horner's rule at every residue, and `HornerValues`, the loop of `values`.
-- Proves that the loop ends with the values, and that the value is 0 where x − c divides a. Assumes nothing.
use Rattle.std.specs.Prelude.{◌≡◌, List, ℕ, suc, ◌≤◌, ◌<◌, ◌%◌, ◌+◌, ◌*◌, length, get_or, set, drop, replicate}
use Rattle.std.proofs.Common.{sym, ◌∙◌, ap, ap₂, subst, zero-le, mod-lt, le_refl, arith}
use Rattle.std.proofs.lemmas.List.{length-replicate}
use Rattle.lists.specs.Entries.{Replaced, replaced_none, replaced_more, replaced_each}
use Rattle.algebra.specs.Divisibility.{◌∣◌}
use Rattle.algebra.specs.Residues.{ℤ/, residue, Residues, residue_zero, residue_add, residue_mul, residue_mod}
use Rattle.algebra.specs.PolynomialRing.{◌+ᴿ◌, ◌·◌, 𝟎, x, constant, constant_zero}
use Rattle.algebra.specs.Degree.{Below}
use Rattle.algebra.specs.Fields.{residue_discrete}
use Rattle.algebra.specs.CoefficientLists.{ℤ[x]/, 𝓩[x]/, poly}
use Rattle.algebra.specs.ListShapes.{get_d_zeros}
use Rattle.arrays.specs.Represents.{Within, poly_drop, poly_drop_none}
use Rattle.arrays.specs.SameEntries.{same_number}
use Rattle.frobenius.specs.Evaluation.{linear, evaluate, evaluation, evaluate_x, evaluate_constant, divides_root}

-- the value of a at c
abbrev pub value_at : (p c : ℕ) → ℤ[x]/ p → ℤ/ p
value_at p c a = evaluate (Residues p) (residue_discrete p) (residue p c) a

-- r[c] is the value of a at c
pub record ValuesOf (p : ℕ) (a : ℤ[x]/ p) (r : List ℕ) : Type 0 where
  pub len : length r ≡ 256
  pub low : (c : ℕ) → c < p → get_or r c 0 < p
  pub is : (c : ℕ) → c < p → residue p (get_or r c 0) ≡ value_at p c a

module _ {p : ℕ} {a : ℤ[x]/ p} {r : List ℕ} (h : ValuesOf p a r) {c : ℕ} (l : c < p) where
  -- where x − c divides a, the value is 0
  pub divides_value : ◌∣◌ (𝓩[x]/ p) (linear (residue p c)) a → get_or r c 0 ≡ 0
  divides_value d =
      same_number (h.low c l) (omega arith)
      (h.is c l ∙ divides_root (Residues p) (residue_discrete p) (residue p c) a d ∙ sym (residue_zero p))

-- ---- Horner's rule

-- r is a with the first `end` values one step further
pub record HornerStep (p y end : ℕ) (a r : List ℕ) : Type 0 where
  pub entries : Replaced 0 (λ c. (y + get_or a c 0 * c) % p) a 0 r end

module _ {p y : ℕ} {a : List ℕ} where
  pub step_none : HornerStep p y 0 a a
  step_none = record { entries = replaced_none }

  -- the value that comes next is still that of a
  step_next : {i : ℕ} {r : List ℕ} → HornerStep p y i a r → get_or r i 0 ≡ get_or a i 0
  step_next {i} h = h.entries.above i (le_refl i)

  pub step_low : {i : ℕ} {r : List ℕ} → HornerStep p y i a r → Within p a → get_or r i 0 < p
  step_low {i} h low = rw (step_next h) (low i)

  pub step_more : {i : ℕ} {r : List ℕ} {v : ℕ} → HornerStep p y i a r → i < length a → v ≡ (y + get_or r i 0 * i) % p → HornerStep p y (i + 1) a (set r i v)
  step_more {i} h l e = record { entries = replaced_more h.entries l (e ∙ ap (λ (v : ℕ). (y + v * i) % p) (step_next h)) }

  -- the loop has passed `end` places
  pub step_done : {i end : ℕ} {r : List ℕ} → i ≡ end → HornerStep p y i a r → HornerStep p y end a r
  step_done {r = r} e h = subst (λ k. HornerStep p y k a r) e h

-- r[c] is the value of the terms of a from i on
pub record HornerValues (p end : ℕ) (a : List ℕ) (i : ℕ) (r : List ℕ) : Type 0 where
  pub limit : i ≤ 33
  pub len : length r ≡ 256
  pub low : Within p r
  pub is : (c : ℕ) → c < end → residue p (get_or r c 0) ≡ value_at p c (poly p (drop i a))

module _ {p : ℕ} where
  value_zero : (c : ℕ) → value_at p c 𝟎 ≡ (Residues p).𝟘
  value_zero c =
      ap (value_at p c) (sym (constant_zero (Residues p))) ∙ evaluate_constant (Residues p) (residue_discrete p) (residue p c) (Residues p).𝟘

  -- y + x·t has the value y + c·t(c)
  value_horner : (c : ℕ) (y : ℤ/ p) (t : ℤ[x]/ p) → value_at p c (constant y +ᴿ x · t) ≡ (Residues p).add y ((Residues p).mul (residue p c) (value_at p c t))
  value_horner c y t =
      let h = evaluation (Residues p) (residue_discrete p) (residue p c) in
      h.keeps_add (constant y) (x · t)
      ∙ ap₂ (Residues p).add (evaluate_constant (Residues p) (residue_discrete p) (residue p c) y)
      (h.keeps_mul x t ∙ ap (λ b. (Residues p).mul b (value_at p c t)) (evaluate_x (Residues p) (residue_discrete p) (residue p c)))

module _ {p end : ℕ} {a : List ℕ} where
  pub horner_none : {s : ℕ} → 0 < p → s ≤ 33 → Below s (poly p a) → HornerValues p end a s (replicate 256 0)
  horner_none {s} pos l below = record {
    limit = l;
    len = length-replicate {A = ℕ} 256 0;
    low = λ c. rw (get_d_zeros 256 c) pos;
    is = λ c u. ap (residue p) (get_d_zeros 256 c) ∙ residue_zero p ∙ sym (ap (value_at p c) (poly_drop_none p a s below) ∙ value_zero c);
  }

  horner_next : {i : ℕ} {r t : List ℕ} → i < length a → 0 < p → HornerValues p end a (suc i) r → HornerStep p (get_or a i 0) end r t
      → HornerValues p end a i t
  horner_next {i} {r} {t} l pos H S = record {
    limit = omega (arith, H.limit);
    len = S.entries.len ∙ H.len;
    low = replaced_each (λ c v. v < p) S.entries (λ c u. H.low c) (λ c u v. mod-lt _ pos) (λ c u. H.low c);
    is = λ c u. ap (residue p) (S.entries.new c zero-le u) ∙ residue_mod p pos _ ∙ residue_add p (get_or a i 0) (get_or r c 0 * c)
        ∙ ap ((Residues p).add (residue p (get_or a i 0)))
        (residue_mul p (get_or r c 0) c ∙ (Residues p).*_comm (residue p (get_or r c 0)) (residue p c) ∙ ap ((Residues p).mul (residue p c)) (H.is c u))
        ∙ sym (ap (value_at p c) (poly_drop p a i l) ∙ value_horner c (residue p (get_or a i 0)) (poly p (drop (suc i) a)));
  }

  -- one term more, the term j below i
  pub horner_more : {i j : ℕ} {r t : List ℕ} → i ≡ suc j → j < length a → 0 < p → HornerValues p end a i r → HornerStep p (get_or a j 0) end r t
      → HornerValues p end a j t
  horner_more {r = r} next l pos H S = horner_next l pos (subst (λ k. HornerValues p end a k r) next H) S

  pub horner_done : {i : ℕ} {r : List ℕ} → p ≤ end → i ≤ 0 → HornerValues p end a i r → ValuesOf p (poly p a) r
  horner_done {i} {r} l z h = done (subst (λ k. HornerValues p end a k r) (let e : i ≡ 0 = omega arith in e) h)
    where
      done : HornerValues p end a 0 r → ValuesOf p (poly p a) r
      done H = record { len = H.len; low = λ c u. H.low c; is = λ c u. H.is c (omega arith) }
