-- The arrays that `derivative` and `root` store, entry by entry.
-- Proves that the one represents the derivative, and that the other is the p-th root where the derivative is 𝟎. Assumes nothing.
use mathlib.Core.Path.{◌≡◌, sym, ◌∙◌}
use mathlib.Core.List.{List}
use Prim.Native.Nat.{ℕ, suc, ◌≤◌, ◌<◌, ◌/◌, ◌%◌, ◌+◌, ◌*◌}
use native.Mathlib.Nat.{mod-lt, mul-le-mul_right, div-lt_iff_lt-mul}
use native.Mathlib.Numerals.{add-one}
use native.Mathlib.Omega.{arith}
use lib.ListN.{get_or, replicate, length-replicate}
use Rattle.lists.specs.Entries.{Replaced, replaced_each}
use Rattle.algebra.specs.Residues.{residue, residue_zero, residue_mul, residue_mod}
use Rattle.algebra.specs.PolynomialRing.{𝟎, poly_ext}
use Rattle.algebra.specs.Degree.{Below}
use Rattle.algebra.specs.Fields.{Prime, prime_pos}
use Rattle.algebra.specs.CoefficientLists.{poly, Reduced, coef_poly}
use Rattle.algebra.specs.ListShapes.{get_d_zeros}
use Rattle.arrays.specs.Represents.{Represents}
use Rattle.arrays.specs.Held.{MonicArray}
use Rattle.frobenius.specs.Derivatives.{derivative, coef_derivative, below_derivative}
use Rattle.frobenius.specs.PowerRoots.{power_of_root}
use Rattle.modp_radical.specs.Radicals.{RootHeld, radical_root}

-- an array of zeros with the first i entries stored
abbrev pub Stored : (ℕ → ℕ) → List ℕ → ℕ → Type 0
Stored f r i = Replaced 0 f (replicate 33 0) 0 r i

module _ {f : ℕ → ℕ} {r : List ℕ} {i : ℕ} (h : Stored f r i) where
  -- what holds of the stored entries, and of 0 from i on, holds of every entry
  entries : (Q : ℕ → ℕ → Type 0) → ((k : ℕ) → k < i → Q k (f k)) → ((k : ℕ) → i ≤ k → Q k 0) → (k : ℕ) → Q k (get_or r k 0)
  entries Q new rest = replaced_each Q h (λ k l. absurd (omega arith)) (λ k l. new k) (λ k l. rw (get_d_zeros 33 k) (rest k l))

  reduced_stored : {p : ℕ} → 0 < p → ((k : ℕ) → f k < p) → Reduced p 33 r
  reduced_stored {p} pos low = record { len = h.len ∙ length-replicate {A = ℕ} 33 0; low = entries (λ k v. v < p) (λ k l. low k) (λ k l. pos) }

-- the entry k of the derivative
abbrev pub derivative_entry : ℕ → List ℕ → ℕ → ℕ
derivative_entry p a k = (k + 1) * get_or a (k + 1) 0 % p

pub derivative_stored : {p d : ℕ} (a : List ℕ) {r : List ℕ} {i : ℕ} → Reduced p 33 a → Below (suc d) (poly p a) → d ≤ i → Stored (derivative_entry p a) r i
    → Represents p r (derivative (poly p a))
derivative_stored {p} {d} a {r} reduced below l h = record {
  reduced = reduced_stored h pos (λ k. mod-lt _ pos);
  is = poly_ext (λ k.
      coef_poly p r k
      ∙ entries h (λ k v. residue p v ≡ (derivative (poly p a)).coef k) (λ k m. new k)
      (λ k m. residue_zero p ∙ sym ((below_derivative below).high k (omega arith))) k);
}
  where
    pos : 0 < p
    pos = omega (arith, reduced.low 0)

    new : (k : ℕ) → residue p (derivative_entry p a k) ≡ (derivative (poly p a)).coef k
    new k = simp (add-one, residue_mod p pos, residue_mul, coef_derivative, coef_poly)

-- the entry i of the p-th root
abbrev pub root_entry : ℕ → List ℕ → ℕ → ℕ
root_entry p a i = get_or a (i * p) 0

pub root_stored : {p d : ℕ} (a : List ℕ) {r : List ℕ} {i : ℕ} → Prime p → 0 < d → MonicArray p d a → derivative (poly p a) ≡ 𝟎
    → d / p < i → Stored (root_entry p a) r i → RootHeld p (poly p a) d r (d / p)
root_stored {p} {d} a {r} {i} P pos m z l h =
    radical_root a P pos m.monic z (reduced_stored h (prime_pos P) (λ k. m.reduced.low (k * p))) (power_of_root P (poly p a) (poly p r) z at)
  where
    -- the next multiple of p is above the degree
    above : d < i * p
    above = (div-lt_iff_lt-mul (prime_pos P)).0 l

    at : (k : ℕ) → (poly p r).coef k ≡ (poly p a).coef (k * p)
    at k =
        coef_poly p r k
        ∙ entries h (λ k v. residue p v ≡ (poly p a).coef (k * p)) (λ k m. sym (coef_poly p a (k * p)))
        (λ k u. residue_zero p ∙ sym (m.monic.below.high (k * p) (omega (arith, above, mul-le-mul_right p u)))) k
