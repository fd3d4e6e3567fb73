-- The commands of a good sheet's answer fit: `commands_fit`.
-- Proves it from the shape of the answer's parts, and that the factors in the bytes multiply to f. Assumes nothing.
use mathlib.Core.Path.{◌≡◌, refl, sym, ◌∙◌, ap, subst}
use mathlib.Core.List.{List, [], ◌∷◌, ◌++◌, append-nil, flat_map}
use mathlib.Core.List.Memᴰ.{head as here}
use Prim.Native.Nat.{ℕ, ◌≤◌, ◌<◌, ◌*◌}
use native.Mathlib.Nat.{mul-le-mul_left}
use native.Mathlib.Omega.{arith}
use borrow.Author.Tests.{eqb-false}
use Rattle.specification.specs.Limits.{degree_limit, ◌²}
use Rattle.specification.specs.Polynomials as spec
use Rattle.specification.specs.Parts.{Factor, Part}
use Rattle.specification.specs.Totals.{totals_of}
use Rattle.specification.specs.Commands.{Command, commands}
use Rattle.specification.specs.Sheets.{Sheet, sheet_bytes, read_sheet, accepted, head_commands}
use Rattle.specification.specs.Answers.{part_commands, end_commands, answer_commands, answer}
use Rattle.specification.specs.FactorList.{factor_list}
use Rattle.specification.specs.ReadOff.{degree_sum}
use Rattle.specification.specs.SheetClaims.{GoodSheet}
use Rattle.algebra.specs.CoefficientLists.{poly, poly_product}
use Rattle.lists.specs.Members.{All, all_cons, all_tail}
use Rattle.lists.specs.Sums.{member_le}
use Rattle.lists.specs.FlatMaps.{flat_map_cons}
use Rattle.layouts.specs.CommandsReadBack.{NoCoefficient}
use Rattle.layouts.specs.AnswerLayout.{sheet_parts}
use Rattle.layouts.specs.AnswerReadBack.{other_parts, end_without, answer_commands_lem}
use Rattle.items.specs.PartShapes.{part_degree}
use Rattle.layouts.specs.SheetsRead.{written_is_read}
use Rattle.claims.specs.Proved.{shapes, parts_degrees, term_3, degrees_add_up}
use Rattle.answer_reader.specs.Fits.{Fits, FactorKnown, fits_past, factors_fit}
use Rattle.answer_reader.specs.FoundInBytes.{product_of}

module _ (s : Sheet) (n : ℕ) where
  parts_fit : (Ps : List Part) (cs : List Command) → All (λ (P : Part). All (FactorKnown n) P.splitting.factors) Ps → NoCoefficient cs → Fits n cs
      → Fits n (flat_map (part_commands s) Ps ++ cs)
  unfolding part_commands
  parts_fit [] cs h o f = unfold flat_map in f
  parts_fit (P ∷ Ps) cs h o f = rw (flat_map_cons (part_commands s) P Ps cs) (
    (λ e. absurd (eqb-false 0x11 0x12 refl e)),
    factors_fit n s.prime P.splitting.factors (flat_map (part_commands s) Ps ++ cs) (h P (here refl)) (other_parts s Ps cs o)
        (parts_fit Ps cs (all_tail h) o f),
  )

  all_fit : (Ps : List Part) → All (λ (P : Part). All (FactorKnown n) P.splitting.factors) Ps → Fits n (answer_commands s Ps)
  unfolding answer_commands head_commands end_commands
  all_fit Ps h =
      fits_past n (head_commands s) (flat_map (part_commands s) Ps ++ end_commands s (totals_of Ps)) (all_cons refl (all_cons refl (λ c i. elim i [ ])))
      (parts_fit Ps (end_commands s (totals_of Ps)) h refl
      (subst (Fits n) (append-nil (end_commands s (totals_of Ps))) (fits_past n (end_commands s (totals_of Ps)) [] (end_without s (totals_of Ps)) tt)))

module _ (s : Sheet) (g : GoodSheet s) where
  abbrev n : ℕ
  n = s.prime ²

  read : read_sheet (sheet_bytes s) ≡ accepted s
  read = written_is_read s g

  -- a factor weighs no more than its part, and that no more than f
  factors_known : All (λ (P : Part). All (FactorKnown n) P.splitting.factors) (sheet_parts s)
  factors_known P i q j =
      let part = shapes s g P i in
      let factor = part.factors q j in
      record {
        monic = factor.monic;
        fits = omega (
          arith,
          mul-le-mul_left (spec.degree q.poly) factor.repeated,
          member_le (λ (q : Factor). spec.degree q.poly * q.times) j,
          part.degrees,
          member_le part_degree i,
          parts_degrees s g,
          g.fits,
        );
      }

  pub commands_fit : Fits n (commands (answer s))
  commands_fit = rw (answer_commands_lem s) (all_fit s n (sheet_parts s) factors_known)

  pub degrees_fit : degree_sum (factor_list (answer s)) ≤ degree_limit
  degrees_fit = omega (arith, degrees_add_up (sheet_bytes s) s read, g.fits)

  pub answer_product : 0 < n → product_of n (factor_list (answer s)) ≡ poly n s.poly
  answer_product pos = sym (poly_product n pos (factor_list (answer s))) ∙ ap (poly n) (term_3 (sheet_bytes s) s read).multiplies
