-- The figures of a sheet, from its answer: what the code has in hand where a copy is written.
-- Proves that an answer's commands are whole, that there is room for its pairs, that its figures are those of the definition, whatever else the sheet asks
-- for, and that the copy has room in an answer area. Assumes nothing.
use Rattle.std.specs.Prelude.{◌≡◌, ℕ, ◌≤◌, length}
use Rattle.std.proofs.Common.{sym, ◌∙◌, subst, arith}
use Rattle.std.proofs.Math.Path.{ap, ap₂}
use Rattle.std.proofs.lemmas.Bool.{false≢true}
use mathlib.Core.List.{List}
use Rattle.specification.specs.Limits.{answer_area}
use Rattle.specification.specs.Commands.{commands}
use Rattle.specification.specs.Sheets as spec
use Rattle.specification.specs.Answers.{answer}
use Rattle.specification.specs.Copy as copy
use Rattle.specification.specs.Copy.{sorted, figures_of}
use Rattle.specification.specs.CopyClaims as claimed
use Rattle.specification.specs.CopyClaims.{pairs_in}
use Rattle.specification.specs.SheetClaims.{GoodSheet}
use Rattle.lists.specs.Members.{All}
use Rattle.arrays.specs.Listed.{degree_listed}
use Rattle.arrays.specs.Held.{MonicModSquare}
use Rattle.layouts.specs.CommandsReadBack.{WellFormed}
use Rattle.layouts.specs.AnswerLayout.{sheet_parts}
use Rattle.layouts.specs.AnswerReadBack.{answer_commands_lem, well_formed_lem}
use Rattle.copies.specs.CopyReadBack.{answer_pairs}
use Rattle.copies.specs.CopySize.{pairs_few}
use Rattle.claims.specs.Proved.{shapes, degrees_low, copy_fit}
use Rattle.commands.specs.declared.Sheet.{Sheet}
use Rattle.commands.specs.AsSheet.{as_sheet}
use Rattle.area.specs.Wrote.{Room}
use Rattle.copy_writer.specs.HeldPairs.{Pairs, held_pairs, as_figures}

-- ---- an answer

module _ (s : spec.Sheet) where
  pub commands_whole : All WellFormed (commands (answer s))
  commands_whole = subst (All WellFormed) (sym (answer_commands_lem s)) (well_formed_lem s (sheet_parts s))

  pub pairs_fit : GoodSheet s → length (pairs_in (answer s)) ≤ 32
  pairs_fit g = omega (arith, ap length (answer_pairs s), pairs_few (sheet_parts s) (shapes s g), degrees_low s g)

-- ---- a sheet that asks for nothing more

module _ (s : Sheet) where
  -- its prime and its polynomial
  abbrev pub plain : spec.Sheet
  plain = spec.sheet_of s.prime (as_sheet s).poly

  pub plain_good : GoodSheet (as_sheet s) → GoodSheet plain
  plain_good g = record { prime = g.prime; monic = g.monic; fits = g.fits; may_ask = λ e. absurd (false≢true e) }

  -- it has the figures of the sheet
  pub figures_are : MonicModSquare s.prime s.coefs s.degree → (r : Pairs) → held_pairs r ≡ sorted (pairs_in (answer plain))
      → as_figures s.prime s.degree r ≡ figures_of (as_sheet s)
  unfolding figures_of
  figures_are m r h =
      ap₂ (λ (n : ℕ) (l : List copy.Pair). record { prime = s.prime; degree = n; pairs = l })
      (sym (degree_listed s.degree s.coefs (omega (arith, m.array.fits)))) (h ∙ ap sorted (answer_pairs plain))

  pub copy_room : GoodSheet (as_sheet s) → {area : List ℕ} → answer_area ≤ length area → Room area 0 (claimed.copy (as_sheet s))
  copy_room g l = let h = copy_fit (as_sheet s) g in record { fits = omega (arith, h.short); low = h.low }
