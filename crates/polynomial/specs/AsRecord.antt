-- The code's structs as the records of the specification, field by field: `as_record`, `as_result`, `as_division`.
-- Assumes nothing.
use Rattle.std.specs.Prelude.{List, [], ℕ}
use Rattle.specification.specs.Limits.{refused_prime}
use Rattle.specification.specs.Records as records
use Rattle.polynomial.specs.declared.Poly.{Poly}
use Rattle.polynomial.specs.declared.Answer.{Answer}
use Rattle.polynomial.specs.declared.Division.{Division}

abbrev pub as_record : Poly → records.PolyRecord
as_record a = record { prime = a.prime; coefficients = a.coefs }

abbrev pub as_result : Answer → records.Result
as_result a = record { number = a.number; place = a.place; value = as_record a.poly }

abbrev pub as_division : Division → records.Division
as_division a = record {
  number = a.number;
  place = a.place;
  quotient = as_record a.quotient;
  remainder = as_record a.remainder;
}

-- number 0 with a record
abbrev pub accepted : ℕ → List ℕ → records.Result
accepted p f = record { number = 0; place = 0; value = record { prime = p; coefficients = f } }

-- "the zero polynomial of prime 2"
abbrev pub refused_record : records.PolyRecord
refused_record = records.record_of refused_prime []

-- a number with it
abbrev pub refused : ℕ → records.Result
refused k = record { number = k; place = 0; value = refused_record }

-- number 0 with a quotient and a remainder
abbrev pub divided : ℕ → List ℕ → List ℕ → records.Division
divided p q r = record {
  number = 0;
  place = 0;
  quotient = record { prime = p; coefficients = q };
  remainder = record { prime = p; coefficients = r };
}

-- a number with it twice
abbrev pub refused_division : ℕ → records.Division
refused_division k = record { number = k; place = 0; quotient = refused_record; remainder = refused_record }
