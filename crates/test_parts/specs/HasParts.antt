-- The records that have parts: `HasParts`.
-- Proves that such a record holds what `parts::powers_of` asks for. Assumes nothing.
use Rattle.std.specs.Prelude.{◌≡◌, true, ℕ, ◌-◌, ◌<◌}
use Rattle.std.proofs.Common.{⊎_elim, arith}
use Rattle.specification.specs.Polynomials.{leading}
use Rattle.specification.specs.Records.{PolyRecord, modulus, proper, polynomial, size}
use Rattle.algebra.specs.Numbers.{lt_or_le}
use Rattle.arrays.specs.Sizes.{Size}
use Rattle.arrays.specs.Held.{MonicModSquare}
use Rattle.polynomial.proofs.Accepted.{proper_prime, proper_reduced}
use Rattle.arrays.specs.Trimming.{length_trim}
use Rattle.polynomial.proofs.DivisionResult.{monic_size, monic_array}

-- a proper record of a monic polynomial of degree 1 or more
pub record HasParts (a : PolyRecord) : Type 0 where
  pub proper_is : proper a ≡ true
  pub monic : leading (polynomial a) ≡ 1
  pub positive : size a ≡ 1 → ⊥

-- a record that has parts, with the number of its terms
module _ (a : PolyRecord) (t : HasParts a) {s : ℕ} (z : Size a.coefficients s) where
  pub positive : 1 < s
  positive = ⊎_elim (λ l. l) (λ l. absurd (t.positive (omega (arith, length_trim z, monic_size z t.monic)))) (lt_or_le 1 s)

  pub record_monic : MonicModSquare a.prime a.coefficients (s - 1)
  record_monic = record {
    prime = proper_prime a t.proper_is;
    positive = omega (arith, positive);
    array = record {
      fits = omega (arith, z.limit, positive);
      reduced = proper_reduced a t.proper_is;
      monic = monic_array (modulus a) z t.monic;
    };
  }
