-- The commands of an array's coefficients, as they are written one by one.
-- Proves what is written for one coefficient, and how a loop writes all. Assumes nothing.
use mathlib.Core.Path.{◌≡◌, sym, ◌∙◌, ap}
use mathlib.Core.List.{[], ◌∷◌}
use mathlib.Core.Logic.{◌≢◌}
use Prim.Native.Nat.{ℕ}
use native.Mathlib.Omega.{arith}
use lib.ListN.{length, get_or, take}
use lib.Seq.{take-length}
use Rattle.specification.specs.Polynomials.{Poly}
use Rattle.specification.specs.Coefficients.{coefficient_code, value_bytes}
use Rattle.layouts.specs.CoefficientBytes.{
  coefficient_bytes,
  coefficient_bytes_none,
  coefficient_bytes_zero,
  coefficient_bytes_one,
  coefficient_bytes_next,
}
use Rattle.area.specs.declared.Cursor.{Cursor}
use Rattle.area.specs.Cursors.{Fits, Puts, puts_as, puts_none}
use Rattle.area.proofs.Turns.{Turns}

-- ---- one coefficient

-- a coefficient that is 0 is not written
pub puts_zero : (c : Cursor) (p i v : ℕ) → v ≡ 0 → Fits c (coefficient_bytes p i (v ∷ [])) → Puts c c (coefficient_bytes p i (v ∷ []))
puts_zero c p i v e r = puts_as (sym (ap (λ a. coefficient_bytes p i (a ∷ [])) e ∙ coefficient_bytes_zero p i)) (puts_none c (omega (arith, r.room.fits)))

-- any other is, under the code k
pub command_is : (p i v : ℕ) {k : ℕ} → v ≢ 0 → k ≡ coefficient_code p → k ∷ i ∷ value_bytes p v ≡ coefficient_bytes p i (v ∷ [])
command_is p i v n e = ap (λ k. k ∷ i ∷ value_bytes p v) e ∙ sym (coefficient_bytes_one p i v (omega (arith, n)))

-- ---- all of them

-- a loop writes them one by one
pub coefficient_turns : (p : ℕ) (f : Poly)
    → Turns (λ i. coefficient_bytes p 0 (take i f)) (λ i. coefficient_bytes p i (get_or f i 0 ∷ [])) (length f) (coefficient_bytes p 0 f)
coefficient_turns p f = record {
  none = coefficient_bytes_none p 0;
  next = λ i u. coefficient_bytes_next p f i u;
  all = ap (coefficient_bytes p 0) (take-length f);
}
