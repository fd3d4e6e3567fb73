-- The number that a check comes to, as docs/API.md has them: `checked`, 0 where nothing is wrong.
-- Proves that the number of a refusal is not 0. Assumes nothing.
use Rattle.std.specs.Prelude.{◌≡◌, ℕ, ⊤, Result, Ok, Err}
use Rattle.std.proofs.Common.{arith}
use Rattle.refusals.specs.declared.Refusal.{Refusal}
use Rattle.refusals.specs.declared.Refusal.TheVariants as refusal
use Rattle.refusals.specs.Numbers.{number_of}

abbrev pub checked : Result ⊤ Refusal → ℕ
checked (Ok done) = 0
checked (Err why) = number_of why

pub not_zero : (why : Refusal) → number_of why ≡ 0 → ⊥
not_zero refusal.AreaTooShort e = omega arith
not_zero refusal.SheetEnds e = omega arith
not_zero refusal.NoCommand e = omega arith
not_zero refusal.NoPrime e = omega arith
not_zero refusal.WrongDegree e = omega arith
not_zero refusal.WrongIndex e = omega arith
not_zero refusal.WrongValue e = omega arith
not_zero refusal.PastTheEnd e = omega arith
not_zero refusal.NoAnswer e = omega arith
not_zero refusal.NotProper e = omega arith
not_zero refusal.PrimesDiffer e = omega arith
not_zero refusal.ProductTooHigh e = omega arith
not_zero refusal.DivisorNotMonic e = omega arith
not_zero refusal.NoRun e = omega arith
not_zero refusal.NotALine e = omega arith
not_zero refusal.LineTooLarge e = omega arith
not_zero refusal.NoPattern e = omega arith
