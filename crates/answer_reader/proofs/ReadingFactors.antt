-- How a factor is read: its command, and the coefficients after it.
-- Proves that the function which reads it keeps its promise, from that of the function which reads the coefficients. Assumes nothing.
use mathlib.Core.Path.{◌≡◌, refl, ◌∙◌, ap}
use Rattle.std.specs.Prelude.{Some, None}
use mathlib.Core.List.{List, ◌∷◌, ◌++◌}
use Prim.Native.Nat.{ℕ, ◌+◌, ◌-◌, ◌<◌}
use native.Mathlib.Omega.{arith}
use lib.ListN.{length, get_or, replicate}
use borrow.Author.Tests.{eq-eqb}
use Rattle.specification.specs.Limits.{degree_limit, ◌²}
use Rattle.specification.specs.Polynomials.{monomial}
use Rattle.specification.specs.Commands.{Command, operand}
use Rattle.specification.specs.FactorList.{with_coefficients, factors_in}
use Rattle.arrays.specs.declared.MonicPoly.{MonicPoly}
use Rattle.arrays.specs.Listed.{listed}
use Rattle.layouts.specs.CommandPlaces.{commands_from, command_at, place_after, commands_step, operands_there, factor_degree, factor_times, factor_after}
use Rattle.answer_reader.specs.Fits.{CoefficientsFit, FactorFits, Fits}
use Rattle.answer_reader.specs.FoundInBytes.{CoefficientsOf, FactorOf}

-- what the list begins with at a factor's command
factors_here : (c : Command) (cs : List Command) → c.code ≡ 0x12
    → factors_in (c ∷ cs) ≡ replicate (operand c 1) (with_coefficients (monomial (operand c 0)) cs) ++ factors_in cs
unfolding factors_in
factors_here c cs e = rw (eq-eqb c.code 0x12 e) refl

module _ (bytes : List ℕ) (at p : ℕ) (code : get_or bytes at 0 ≡ 0x12) (l : at < length bytes) where
  this_fits : Fits (p ²) (commands_from bytes at) → FactorFits (p ²) (command_at bytes at) (commands_from bytes (place_after bytes at))
  this_fits f = (rw (commands_step bytes at l) at f).0 code

  pub short : length bytes - at < 3 → FactorOf bytes at p None
  short u = record {
    sound = tt;
    exact = λ f. absurd (omega (arith, operands_there bytes at l (this_fits f).well_formed, factor_after bytes at code));
  }

  pub degree_high : degree_limit < get_or bytes (at + 1) 0 → FactorOf bytes at p None
  degree_high u = record { sound = tt; exact = λ f. absurd (omega (arith, (this_fits f).degree, factor_degree bytes at code)) }

  -- the coefficients after the command fit
  coefficients_fit : Fits (p ²) (commands_from bytes at) → CoefficientsFit (get_or bytes (at + 1) 0) (p ²) (commands_from bytes (at + 3))
  coefficients_fit f = rw (factor_after bytes at code, factor_degree bytes at code) at (this_fits f).coefficients

  pub not_read : CoefficientsOf bytes (at + 3) (get_or bytes (at + 1) 0) p None → FactorOf bytes at p None
  not_read h = record { sound = tt; exact = λ f. h.exact (coefficients_fit f) }

  pub factor_read : {f : MonicPoly} → CoefficientsOf bytes (at + 3) (get_or bytes (at + 1) 0) p (Some f)
      → FactorOf bytes at p (Some (record { times = get_or bytes (at + 2) 0; poly = f }))
  factor_read {f} h = record { sound = (h.sound.0, copies (ap (λ (d : ℕ). listed d f.coefs) h.sound.1 ∙ h.sound.2)); exact = λ f. refl }
    where
      copies : listed f.degree f.coefs ≡ with_coefficients (monomial (get_or bytes (at + 1) 0)) (commands_from bytes (at + 3))
          → factors_in (commands_from bytes at)
          ≡ replicate (get_or bytes (at + 2) 0) (listed f.degree f.coefs) ++ factors_in (commands_from bytes (place_after bytes at))
      copies e =
          ap factors_in (commands_step bytes at l)
          ∙ factors_here (command_at bytes at) (commands_from bytes (place_after bytes at)) code
          ∙ rw (factor_times bytes at code, factor_degree bytes at code, factor_after bytes at code, e) refl
