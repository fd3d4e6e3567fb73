-- What the functions promise of any bytes, in the specification's words: what is found is what the bytes' commands say, and it is found where they fit.
-- `CandidateOf` is the promise of the crate: the candidate is a good sheet, and the only sheet whose answer the bytes can be.
-- Assumes nothing.
use Rattle.std.specs.Prelude.{◌≡◌, List, ◌++◌, map, ℕ, ◌≤◌, ◌<◌, ◌+◌, ◌*◌, length, get_or, replicate, Option, Some, None, IfSome, IsSome, IsSomeAnd}
use Rattle.specification.specs.Limits.{degree_limit, ◌²}
use Rattle.specification.specs.Polynomials.{Poly, monomial}
use Rattle.specification.specs.Commands.{Command, commands}
use Rattle.specification.specs.Coefficients.{given_index, given_value}
use Rattle.specification.specs.Sheets as spec
use Rattle.specification.specs.Answers.{answer}
use Rattle.specification.specs.FactorList.{with_coefficients, factors_in, factor_list}
use Rattle.specification.specs.ReadOff.{degree_sum}
use Rattle.specification.specs.SheetClaims.{GoodSheet}
use Rattle.algebra.specs.Divisibility.{pow, product}
use Rattle.algebra.specs.PolynomialRing.{◌·◌}
use Rattle.algebra.specs.CoefficientLists.{ℤ[x]/, poly, 𝓩[x]/}
use Rattle.arrays.specs.Listed.{listed}
use Rattle.arrays.specs.declared.MonicPoly.{MonicPoly}
use Rattle.arrays.specs.Held.{MonicModSquare}
use Rattle.layouts.specs.CommandsReadBack.{Without}
use Rattle.commands.specs.AsSheet.{as_sheet}
use Rattle.commands.specs.declared.Sheet.{Sheet}
use Rattle.answer_reader.specs.declared.Coefficient.{Coefficient}
use Rattle.answer_reader.specs.declared.Factor.{Factor}
use Rattle.layouts.specs.CommandPlaces.{commands_from, command_at, place_after}
use Rattle.answer_reader.specs.Fits.{CoefficientFits, CoefficientsFit, Fits}

-- the place that is found, or the end
abbrev pub place_or_end : List ℕ → Option ℕ → ℕ
place_or_end bytes (Some at) = at
place_or_end bytes None = length bytes

-- r is the place of the first command with a code, if one has it: the commands before it, or all where none has it, have other codes
pub record FoundAt (bytes : List ℕ) (code : ℕ) (r : Option ℕ) : Type 0 where
  pub before : List Command
  pub cut : commands bytes ≡ before ++ commands_from bytes (place_or_end bytes r)
  pub others : Without code before
  pub here : IfSome r (λ at. (at < length bytes) × (get_or bytes at 0 ≡ code))

-- ---- a factor

-- the coefficient that the command at a place gives a polynomial of degree d
pub record CoefficientOf (bytes : List ℕ) (at d p : ℕ) (r : Option Coefficient) : Type 0 where
  pub sound : IfSome r (λ c.
      CoefficientFits d (p ²) (command_at bytes at)
      × (c.index ≡ given_index (command_at bytes at))
      × (c.value ≡ given_value (command_at bytes at)))
  pub exact : CoefficientFits d (p ²) (command_at bytes at) → IsSome r

-- the polynomial of degree d, modulo p², whose coefficients are written from a place on
pub record CoefficientsOf (bytes : List ℕ) (at d p : ℕ) (r : Option MonicPoly) : Type 0 where
  pub sound : IfSome r (λ f. (f.n ≡ p ²) × (f.degree ≡ d) × (listed d f.coefs ≡ with_coefficients (monomial d) (commands_from bytes at)))
  pub exact : CoefficientsFit d (p ²) (commands_from bytes at) → IsSome r

-- the list of the commands from a place on
abbrev pub factors_from : List ℕ → ℕ → List Poly
factors_from bytes at = factors_in (commands_from bytes at)

-- the factor at a place, with its repeats
pub record FactorOf (bytes : List ℕ) (at p : ℕ) (r : Option Factor) : Type 0 where
  pub sound : IfSome r (λ f.
      (f.poly.n ≡ p ²)
      × (factors_from bytes at ≡ replicate f.times (listed f.poly.degree f.poly.coefs) ++ factors_from bytes (place_after bytes at)))
  pub exact : Fits (p ²) (commands_from bytes at) → IsSome r

-- ---- the product

-- the product of a list modulo n
abbrev pub product_of : (n : ℕ) → List Poly → ℤ[x]/ n
product_of n L = product (𝓩[x]/ n) (map (poly n) L)

-- the polynomial modulo n that is held
abbrev pub value : (n : ℕ) → MonicPoly → ℤ[x]/ n
value n a = poly n a.coefs

-- a times a factor with its repeats, where it has room
pub record GrownBy (a : MonicPoly) (f : Factor) (r : Option MonicPoly) : Type 0 where
  pub sound : IfSome r (λ g.
      (g.n ≡ a.n)
      × (g.degree ≡ a.degree + f.poly.degree * f.times)
      × (value a.n g ≡ value a.n a · pow (𝓩[x]/ a.n) (value a.n f.poly) f.times))
  pub exact : a.degree + f.poly.degree * f.times ≤ degree_limit → IsSome r

-- a times what the command at a place lists: with what is listed after it, as much as a with what is listed from there on
pub record MultipliedAt (bytes : List ℕ) (at p : ℕ) (a : MonicPoly) (r : Option MonicPoly) : Type 0 where
  pub sound : IfSome r (λ g.
      let after : List Poly = factors_from bytes (place_after bytes at) in
      (g.n ≡ p ²)
      × (g.degree + degree_sum after ≡ a.degree + degree_sum (factors_from bytes at))
      × (value (p ²) g · product_of (p ²) after ≡ value (p ²) a · product_of (p ²) (factors_from bytes at)))
  pub exact : Fits (p ²) (commands_from bytes at) → a.degree + degree_sum (factors_from bytes at) ≤ degree_limit → IsSome r

-- the product of the bytes' list
pub record ProductOf (bytes : List ℕ) (p : ℕ) (r : Option MonicPoly) : Type 0 where
  pub sound : IfSome r (λ g. (g.n ≡ p ²) × (value (p ²) g ≡ product_of (p ²) (factor_list bytes)))
  pub exact : Fits (p ²) (commands bytes) → degree_sum (factor_list bytes) ≤ degree_limit → IsSome r

-- ---- the sheet

-- "the answer to" a sheet can be that of the candidate only
pub record CandidateOf (bytes : List ℕ) (r : Option Sheet) : Type 0 where
  pub sound : IfSome r (λ s. MonicModSquare s.prime s.coefs s.degree)
  pub good : IfSome r (λ s. GoodSheet (as_sheet s))
  pub exact : (s : spec.Sheet) → GoodSheet s → bytes ≡ answer s → IsSomeAnd r (λ c. s ≡ as_sheet c)
