-- One division of Euclid's algorithm: the latter row takes the former's place, and what it leaves of the former its own.
-- Proves that such a division can be made, and that its rows are formed and combined of a and b as those before. Assumes nothing.
use Rattle.std.specs.Prelude.{List, ℕ, ◌+◌, ◌-◌, ◌<◌}
use Rattle.std.proofs.Common.{arith}
use Rattle.algebra.specs.Divisibility.{divides_mul, divides_add}
use Rattle.modp_euclid.specs.RemainderRows.{Row, Rows, Formed, Combined, row_up}
use Rattle.modp_euclid.specs.TakenOff.{fewer_left}
use Rattle.modp_euclid.specs.RowTakenOff.{Operands, RowTakenOff, leaves_taken_off}
use Rattle.algebra.specs.Degree.{below_up}
use Rattle.algebra.specs.CoefficientLists.{poly, 𝓩[x]/}
use Rattle.arrays.specs.Sizes.{below_size, size_degree}

module _ {p d : ℕ} {w : Rows} (formed : Formed p d w) (pos : 0 < w.size) where
  -- the former row can be divided by the latter
  pub operands : Operands p w.terms (w.size - 1) (d + 2 - w.terms) w.former w.latter
  operands = record {
    dividend = row_up (omega arith) formed.former;
    terms = below_size p formed.leading;
    divisor = formed.latter;
    size = size_degree pos formed.size;
  }

  module _ {z : Row} {s : ℕ} (h : RowTakenOff p w.terms (w.size - 1) (d + 2 - w.terms) w.former w.latter z s) where
    abbrev next : Rows
    next = record { former = w.latter; terms = w.size; latter = z; size = s }

    pub formed_next : Formed p d next
    formed_next = record {
      former = row_up (omega (arith, formed.limit, formed.fewer)) formed.latter;
      latter = record {
        remainder = h.divided.remainder;
        cofactor = h.cofactor.reduced;
        small = below_up (omega (arith, formed.limit, formed.fewer)) h.cofactor.small;
      };
      leading = formed.size;
      limit = omega (arith, formed.limit, formed.fewer);
      size = h.size;
      fewer = fewer_left pos h.divided h.size;
    }

    pub combined_next : {a b : List ℕ} → Combined p a b w → Combined p a b next
    combined_next {a} {b} before = record {
      former = before.latter;
      latter = leaves_taken_off p a b h before.former before.latter;
      common = λ g k l. before.common g
          (rw (← h.divided.law) (divides_add (𝓩[x]/ p) (divides_mul (𝓩[x]/ p) (poly p h.quotient) k) l)) k;
    }
