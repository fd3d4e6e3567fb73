-- How coefficients are read: one, and the loop over them with `Underway`, what the array holds before a command and what is left.
-- Proves that the functions which read them keep their promises, for any bytes. Assumes nothing.
use mathlib.Core.Path.{◌≡◌, refl, sym, ◌∙◌, ap, ap₂}
use mathlib.Core.Bool.{true, false, ◌||◌}
use mathlib.Core.List.{List}
use mathlib.Core.Logic.{◌⊎◌, inl, inr, ◌≢◌, ⊎_elim}
use Prim.Native.Nat.{ℕ, ◌+◌, ◌-◌, ◌*◌, ◌≤◌, ◌<◌}
use native.Mathlib.Omega.{arith}
use Rattle.std.specs.Prelude.{Some, None}
use lib.Dec.{eqb, lit<, eqb→eq}
use lib.ListN.{length, get_or, set, drop, length-drop, get_or-eq_default}
use lib.Seq.{get_or-drop, get_or-set_other}
use Rattle.specification.specs.Lists.{first}
use Rattle.specification.specs.Limits.{◌²}
use Rattle.specification.specs.Polynomials.{Poly, monomial}
use Rattle.specification.specs.Commands.{Command, operand_count}
use Rattle.specification.specs.Coefficients.{is_coefficient, given_index, given_value}
use Rattle.specification.specs.FactorList.{with_coefficients}
use Rattle.arrays.specs.Listed.{listed, listed_set}
use Rattle.arrays.specs.declared.MonicPoly.{MonicPoly}
use Rattle.arrays.specs.Held.{Held, MonicArray, leads_monic, held_set}
use Rattle.arrays.specs.MonomialArray.{IsMonomial, monomial_leads, monomial_held}
use Rattle.layouts.specs.CommandsReadBack.{NoCoefficient, written_none, written_more}
use Rattle.answer_reader.specs.declared.Coefficient.{Coefficient}
use Rattle.layouts.specs.CommandPlaces.{
  commands_from,
  operands_at,
  command_at,
  place_after,
  commands_step,
  commands_end,
  operands_few,
  operands_there,
  well_formed_there,
  operand_at,
}
use Rattle.answer_reader.specs.Fits.{CoefficientFits, CoefficientsFit}
use Rattle.lists.specs.Tests.{either}
use Rattle.answer_reader.specs.FoundInBytes.{CoefficientOf, CoefficientsOf}

-- ---- one coefficient

-- a coefficient's code is one of two
either_code : (code : ℕ) → (eqb code 0x03 || eqb code 0x05) ≡ true → (code ≡ 0x03) ⊎ (code ≡ 0x05)
either_code code e =
    ⊎_elim (λ t. inl (eqb→eq code 0x03 t)) (λ t. inr (eqb→eq code 0x05 t)) (either (eqb code 0x03) (eqb code 0x05) (rw e tt))

module _ (bytes : List ℕ) (at : ℕ) (one : is_coefficient (command_at bytes at) ≡ true) where
  abbrev code : ℕ
  code = get_or bytes at 0

  -- index and value
  pub has_value : 1 < operand_count code
  unfolding operand_count first
  has_value = ⊎_elim (λ e. rw e (lit< tt)) (λ e. rw e (lit< tt)) (either_code code one)

  index_is : given_index (command_at bytes at) ≡ get_or bytes (at + 1) 0
  index_is = operand_at bytes at code 0 refl (omega (arith, has_value))

  -- the j-th operand after the index
  value_at_lem : (j : ℕ) → 1 + j < operand_count code → get_or (drop 1 (operands_at bytes at)) j 0 ≡ get_or bytes (at + (2 + j)) 0
  value_at_lem j l =
      get_or-drop 1 (operands_at bytes at) j 0 ∙ operand_at bytes at code (1 + j) refl l
      ∙ ap (λ (k : ℕ). get_or bytes k 0) (let e : at + (1 + (1 + j)) ≡ at + (2 + j) = omega arith in e)

  -- two bytes under 0x05
  pub has_two : code ≡ 0x05 → 2 < operand_count code
  unfolding operand_count first
  has_two e = rw e (lit< tt)

  pub value_of_two : code ≡ 0x05 → get_or bytes (at + 2) 0 + get_or bytes (at + 3) 0 * 256 ≡ given_value (command_at bytes at)
  value_of_two e =
      omega (arith, ap₂ (λ (low high : ℕ). low + 256 * high) (value_at_lem 0 (omega (arith, has_two e))) (value_at_lem 1 (omega (arith, has_two e))))

  -- and one under 0x03
  pub value_of_one : code ≢ 0x05 → get_or bytes (at + 2) 0 ≡ given_value (command_at bytes at)
  value_of_one n = ⊎_elim (λ e. omega (arith, value_at_lem 0 (omega (arith, has_value)), none e)) (λ e. absurd (n e)) (either_code code one)
    where
      few : code ≡ 0x03 → operand_count code ≡ 2
      few e = unfold operand_count first in rw e refl

      none : code ≡ 0x03 → get_or (drop 1 (operands_at bytes at)) 1 0 ≡ 0
      none e =
          get_or-eq_default (drop 1 (operands_at bytes at)) 0 (omega (arith, length-drop 1 (operands_at bytes at), operands_few bytes at, few e))

  module _ {d p : ℕ} where
    not_fit : (CoefficientFits d (p ²) (command_at bytes at) → ⊥) → CoefficientOf bytes at d p None
    not_fit h = record { sound = tt; exact = λ f. absurd (h f) }

    pub operands_missing : at < length bytes → length bytes - at ≤ operand_count code → CoefficientOf bytes at d p None
    operands_missing l u = not_fit (λ f. omega (arith, operands_there bytes at l f.well_formed))

    pub index_high : d ≤ get_or bytes (at + 1) 0 → CoefficientOf bytes at d p None
    index_high u = not_fit (λ f. omega (arith, f.index, index_is))

    pub value_high : p ² ≤ given_value (command_at bytes at) → CoefficientOf bytes at d p None
    value_high u = not_fit (λ f. omega (arith, f.value))

    pub coefficient_read : {v : ℕ} → operand_count code < length bytes - at → get_or bytes (at + 1) 0 < d
        → v ≡ given_value (command_at bytes at) → v < p ²
        → CoefficientOf bytes at d p (Some (record { index = get_or bytes (at + 1) 0; value = v }))
    coefficient_read l i e u = record {
      sound = (
        record {
          well_formed = well_formed_there bytes at (omega arith);
          index = rw index_is i;
          value = rw (sym e) u;
        },
        sym index_is,
        e,
      );
      exact = λ f. refl;
    }

pub index_below : {bytes : List ℕ} {at d p : ℕ} {r : Coefficient} → CoefficientOf bytes at d p (Some r) → r.index < d
index_below h = omega (arith, h.sound.1, h.sound.0.index)

-- ---- the coefficients

module _ (bytes : List ℕ) (at d p : ℕ) where
  -- the array holds a monic polynomial, and with the coefficients that are left it is the one written from `at` on
  pub record Underway (coefs : List ℕ) (next : ℕ) : Type 0 where
    pub held : Held (p ²) d coefs
    pub top : get_or coefs d 0 ≡ 1
    pub is : with_coefficients (listed d coefs) (commands_from bytes next) ≡ with_coefficients (monomial d) (commands_from bytes at)
    pub left : CoefficientsFit d (p ²) (commands_from bytes at) → CoefficientsFit d (p ²) (commands_from bytes next)

  pub underway_first : 1 < p ² → {coefs : List ℕ} → IsMonomial d coefs → Underway coefs at
  underway_first large m = record {
    held = monomial_held m large;
    top = monomial_leads m;
    is = ap (λ (f : Poly). with_coefficients f (commands_from bytes at)) m.is;
    left = λ f. f;
  }

  module _ {coefs : List ℕ} {next : ℕ} (w : Underway coefs next) where
    pub underway_monic : MonicArray (p ²) d coefs
    underway_monic = leads_monic w.held w.top

    module _ {f : MonicPoly} (m : f.n ≡ p ²) (deg : f.degree ≡ d) (e : f.coefs ≡ coefs) where
      found : NoCoefficient (commands_from bytes next) → CoefficientsOf bytes at d p (Some f)
      found o = record {
        sound = (m, deg, ap (listed d) e ∙ sym (written_none (listed d coefs) (commands_from bytes next) o) ∙ w.is);
        exact = λ f. refl;
      }

      -- the bytes end, or another command comes
      pub found_at_end : length bytes ≤ next → CoefficientsOf bytes at d p (Some f)
      found_at_end l = found (rw (commands_end bytes next l) tt)

      pub found_before : next < length bytes → is_coefficient (command_at bytes next) ≡ false → CoefficientsOf bytes at d p (Some f)
      found_before l h = found (rw (commands_step bytes next l) h)

    module _ (l : next < length bytes) where
      module _ (is_one : is_coefficient (command_at bytes next) ≡ true) where
        -- the next command fits, and so do those after it
        next_fits : CoefficientsFit d (p ²) (commands_from bytes at)
            → CoefficientFits d (p ²) (command_at bytes next) × CoefficientsFit d (p ²) (commands_from bytes (place_after bytes next))
        next_fits f = rw (commands_step bytes next l) at (w.left f) is_one

        pub not_read : CoefficientOf bytes next d p None → CoefficientsOf bytes at d p None
        not_read h = record { sound = tt; exact = λ f. h.exact (next_fits f).0 }

        pub underway_more : {r : Coefficient} → CoefficientOf bytes next d p (Some r) → {k : ℕ} → k ≡ operand_count (get_or bytes next 0)
            → Underway (set coefs r.index r.value) (next + (1 + k))
        underway_more {r} h {k} e = rw e (record {
          held = held_set w.held (omega (arith, below)) (omega (arith, value, h.sound.0.value));
          top = get_or-set_other coefs i d v 0 (omega (arith, below)) ∙ w.top;
          is = ap (λ (f : Poly). with_coefficients f after) (listed_set d coefs i v (omega (arith, below)) ∙ ap₂ (set (listed d coefs)) index value)
              ∙ sym (written_more (listed d coefs) (command_at bytes next) after is_one)
              ∙ ap (with_coefficients (listed d coefs)) (sym (commands_step bytes next l)) ∙ w.is;
          left = λ f. (next_fits f).1;
        })
          where
            i : ℕ
            i = r.index

            v : ℕ
            v = r.value

            after : List Command
            after = commands_from bytes (place_after bytes next)

            index : i ≡ given_index (command_at bytes next)
            index = h.sound.1

            value : v ≡ given_value (command_at bytes next)
            value = h.sound.2

            below : i < d
            below = index_below h
