-- The number of each refusal, as docs/API.md has them: `number_of`. Assumes nothing.
use Rattle.std.specs.Prelude.{ℕ}
use Rattle.refusals.specs.declared.Refusal.{Refusal}
use Rattle.refusals.specs.declared.Refusal.TheVariants as refusal

abbrev pub number_of : Refusal → ℕ
number_of refusal.AreaTooShort = 1
number_of refusal.SheetEnds = 2
number_of refusal.NoCommand = 3
number_of refusal.NoPrime = 4
number_of refusal.WrongDegree = 5
number_of refusal.WrongIndex = 6
number_of refusal.WrongValue = 7
number_of refusal.PastTheEnd = 8
number_of refusal.NoAnswer = 9
number_of refusal.NotProper = 10
number_of refusal.PrimesDiffer = 11
number_of refusal.ProductTooHigh = 12
number_of refusal.DivisorNotMonic = 13
number_of refusal.NoRun = 14
number_of refusal.NotALine = 15
number_of refusal.LineTooLarge = 16
number_of refusal.NoPattern = 17
