-- The coefficient reader's loop: `Underway`, what is read of the part before a place where a coefficient command may come.
-- Proves how the loop begins, what is due after each step of a turn, and that a turn with no fault leads to the next. Assumes nothing.
use Rattle.std.specs.Prelude.{◌≡◌, Bool, true, false, List, ◌∷◌, ℕ, zero, suc, ◌+◌, ◌≤◌, ◌<◌, set, drop, Ok, Err}
use Rattle.std.proofs.Common.{sym, ◌∙◌, ap, ap₂, subst, zero-le, add-one, arith}
use Rattle.specification.specs.Limits.{◌²}
use Rattle.specification.specs.Polynomials.{Poly, degree}
use Rattle.specification.specs.Reading.{Read, Reader, ◌>>=◌, command_byte}
use Rattle.specification.specs.Coefficients.{coefficient_code, index_operand, value_operand, coefficients}
use Rattle.arrays.specs.Listed.{listed, degree_listed, listed_set}
use Rattle.arrays.specs.Held.{Shaped, inside, shaped_set}
use Rattle.arrays.specs.MonomialArray.{IsMonomial}
use Rattle.layouts.specs.ReaderLaws.{then_goes, next_goes, command_goes, Other}
use Rattle.layouts.specs.CoefficientsRead.{none_left}
use Rattle.layouts.specs.SheetStages.{all_coefficients}
use Rattle.layouts.specs.Operands.{index_within, index_exact}
use Rattle.refusals.specs.declared.Refused.{Refused}
use Rattle.sheet_steps.specs.Steps.{Step, read_at, StepAs, StepOf, Comes, step_good, step_fault, Left, left_more, left_stops}

-- what the coefficient reader gives: the polynomial in the array, or the fault
abbrev pub CoefficientsOf : List ℕ → ℕ → ℕ → ℕ → Step (List ℕ) → Type 0
CoefficientsOf part start p d = StepAs (listed d) (all_coefficients p d) (Shaped d) part start 0

-- what follows a coefficient's value, and its index
abbrev after_value : ℕ → ℕ → List ℕ → ℕ → ℕ → ℕ → Reader Poly
after_value p d coefs room i v = coefficients room p (suc i) (set (listed d coefs) i v)

abbrev after_index : ℕ → ℕ → List ℕ → ℕ → ℕ → Reader Poly
after_index p d coefs room i = ◌>>=◌ (value_operand p) (after_value p d coefs room i)

module _ (part : List ℕ) (start p d : ℕ) where
  -- the reading of the whole part, with the polynomial as the degree left it
  abbrev reading : Read Poly
  reading = read_at (all_coefficients p d) part start 0

  -- at a place `rest` is due, with the polynomial in the array and room for the indices from `least` on
  pub record Due (rest : ℕ → Reader Poly) (coefs : List ℕ) (least at : ℕ) : Type 0 where
    pub shaped : Shaped d coefs
    pub room : ℕ
    pub enough : d < suc room + least
    pub left : Left reading part start (rest room) at

  -- a coefficient command may come
  abbrev pub Underway : List ℕ → ℕ → ℕ → Type 0
  Underway coefs least = Due (λ room. coefficients (suc room) p least (listed d coefs)) coefs least

  abbrev pub IndexDue : List ℕ → ℕ → ℕ → Type 0
  IndexDue coefs least = Due (λ room. ◌>>=◌ (index_operand d least) (after_index p d coefs room)) coefs least

  abbrev pub ValueDue : List ℕ → ℕ → ℕ → Type 0
  ValueDue coefs i = Due (λ room. after_index p d coefs room i) coefs i

  pub underway_first : {coefs : List ℕ} → IsMonomial d coefs → Underway coefs 0 0
  underway_first m = record {
    shaped = m.shaped;
    room = d;
    enough = omega arith;
    left = record { reach = zero-le; same = ap (λ (f : Poly). read_at (coefficients (suc d) p 0 f) part start 0) (sym m.is) };
  }

module _ {part : List ℕ} {start p d : ℕ} {coefs : List ℕ} {least at : ℕ} where
  -- whether a coefficient command comes
  module _ (w : Underway part start p d coefs least at) {code : ℕ} {r : Bool} (next : Comes code part at r) (is : code ≡ coefficient_code p) where
    pub coefficients_end : r ≡ false → CoefficientsOf part start p d (Ok (coefs, at))
    coefficients_end e = record {
      same = w.left.same ∙ none_left p (listed d coefs) w.room least (start + at) (drop at part) other;
      inside = record { good = w.shaped; on = zero-le; reach = w.left.reach };
    }
      where
        other : Other (coefficient_code p) (drop at part)
        other = subst (λ (k : ℕ). Other k (drop at part)) is (next.other e)

    pub index_due : r ≡ true → IndexDue part start p d coefs least (at + 1)
    index_due e = record {
      shaped = w.shaped;
      room = w.room;
      enough = w.enough;
      left = record {
        reach = omega (arith, (next.there e).0);
        same = w.left.same
            ∙ ap (read_from (start + at)) ((next.there e).1 ∙ ap (λ (k : ℕ). k ∷ rest) is) ∙ goes
            ∙ ap₂ after (degree_listed d coefs (inside w.shaped)) (omega arith);
      };
    }
      where
        rest : List ℕ
        rest = drop (at + 1) part

        read_from : Reader Poly
        read_from = coefficients (suc w.room) p least (listed d coefs)

        after : ℕ → ℕ → Read Poly
        after e place = (◌>>=◌ (index_operand e least) (after_index p d coefs w.room)) place rest

        goes : read_from (start + at) (coefficient_code p ∷ rest) ≡ after (degree (listed d coefs)) (suc (start + at))
        goes =
            unfold coefficients in
            next_goes (coefficient_code p) _ _ (start + at) rest
            ∙ then_goes (command_byte (coefficient_code p)) _ (command_goes (coefficient_code p) (start + at) rest)

  module _ {e : Refused} where
    pub index_fault : IndexDue part start p d coefs least at → StepOf (index_operand d least) d part start at (Err e)
        → CoefficientsOf part start p d (Err e)
    index_fault w g = step_fault (left_stops (after_index p d coefs w.room) w.left g)

    pub value_fault : ValueDue part start p d coefs least at → StepOf (value_operand p) (p ²) part start at (Err e)
        → CoefficientsOf part start p d (Err e)
    value_fault w g = step_fault (left_stops (after_value p d coefs w.room least) w.left g)

  module _ {t : ℕ × ℕ} where
    pub value_due : IndexDue part start p d coefs least at → StepOf (index_operand d least) d part start at (Ok t)
        → ValueDue part start p d coefs t.0 t.1
    value_due w g = record {
      shaped = w.shaped;
      room = w.room;
      enough = omega (arith, w.enough, risen);
      left = left_more (after_index p d coefs w.room) w.left g;
    }
      where
        risen : least ≤ t.0
        risen = (index_within d least t.0 (step_good (index_exact d least) g)).1

    pub underway_more : ValueDue part start p d coefs least at → least < d → StepOf (value_operand p) (p ²) part start at (Ok t)
        → Underway part start p d (set coefs least t.0) (least + 1) t.1
    underway_more w l g = more w.room w.enough (left_more (after_value p d coefs w.room least) w.left g)
      where
        more : (room : ℕ) → d < suc room + least → Left (reading part start p d) part start (after_value p d coefs room least t.0) t.1
            → Underway part start p d (set coefs least t.0) (least + 1) t.1
        more zero m q = absurd (omega arith)
        more (suc room) m q = record {
          shaped = shaped_set w.shaped least t.0 (omega arith);
          room = room;
          enough = omega arith;
          left = record {
            reach = q.reach;
            same = q.same
                ∙ ap₂ (λ (k : ℕ) (f : Poly). read_at (coefficients (suc room) p k f) part start t.1)
                (sym (add-one least)) (sym (listed_set d coefs least t.0 (omega arith)));
          };
        }
