-- The factor list, the totals s, z and r, and the run length that bytes hold: "Term 3 is read off bytes".
-- They are read off the commands that the bytes are cut into.
use Rattle.std.specs.Prelude.{ℕ, true, false, cond, List, [], ◌∷◌, ◌++◌, replicate, eqb}
use Rattle.specification.specs.Polynomials.{Poly, monomial}
use Rattle.specification.specs.Commands.{Command, operand, from_two_bytes, commands, first_with}
use Rattle.specification.specs.Coefficients.{is_coefficient, with_coefficient}

-- f with "the coefficients written directly after it, before any other command"
unfoldable pub with_coefficients : Poly → List Command → Poly
with_coefficients f [] = f
with_coefficients f (c ∷ cs) = elim (is_coefficient c) [ true ↦ with_coefficients (with_coefficient f c) cs | false ↦ f ]

-- "for each 0x12 in order, t copies of the monic polynomial of degree e with the coefficients written directly after it"
unfoldable pub factors_in : List Command → List Poly
factors_in [] = []
factors_in (c ∷ cs) = cond (eqb c.code 0x12) (replicate (operand c 1) (with_coefficients (monomial (operand c 0)) cs)) [] ++ factors_in cs

-- "The factor list of an answer"
unfoldable pub factor_list : List ℕ → List Poly
factor_list bytes = factors_in (commands bytes)

-- s, the first operand of 0x13
unfoldable pub factor_total : List ℕ → ℕ
factor_total bytes = operand (first_with 0x13 (commands bytes)) 0

-- z, the second operand of 0x13
unfoldable pub different_total : List ℕ → ℕ
different_total bytes = operand (first_with 0x13 (commands bytes)) 1

-- r, the third operand of 0x13: "free digits"
unfoldable pub free_total : List ℕ → ℕ
free_total bytes = operand (first_with 0x13 (commands bytes)) 2

-- the operand of 0x14: the run length
unfoldable pub run_in : List ℕ → ℕ
run_in bytes = from_two_bytes (first_with 0x14 (commands bytes)).operands
