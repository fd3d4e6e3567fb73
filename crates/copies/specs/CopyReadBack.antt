-- What is read off a copy's bytes, and the pairs that are read off an answer's.
-- Proves that a copy shows the figures that it was made of, so that no two figures have the same copy, and that the pairs of a sheet's answer are
-- those of its parts. Assumes nothing.
use Rattle.std.specs.Prelude.{◌≡◌, ℕ}
use Rattle.std.proofs.Math.Path.{refl, ap, ◌≡⟨◌⟩◌, ◌∎}
use Rattle.std.proofs.Common.{sym, ◌∙◌}
use mathlib.Core.List.{List, [], ◌∷◌, ◌++◌, append-nil, map, flat_map}
use mathlib.Core.List.Memᴰ.{head as here}
use Rattle.specification.specs.Lists.{first}
use Rattle.specification.specs.Polynomials.{Poly, lower}
use Rattle.specification.specs.Parts.{Factor, Part}
use Rattle.specification.specs.Totals.{Totals, totals_of}
use Rattle.specification.specs.Commands.{Command, command, operand, operand_count, commands, first_with}
use Rattle.specification.specs.Coefficients.{coefficient_commands}
use Rattle.specification.specs.Sheets.{Sheet, head_commands}
use Rattle.specification.specs.Answers.{factor_commands, part_commands, end_commands, answer_commands, answer}
use Rattle.specification.specs.Copy.{Pair, pair_of, part_pairs, pairs_of, Figures, pair_command, copy_commands, copy_of}
use Rattle.specification.specs.CopyClaims.{pairs_among, pairs_in, FiguresIn, FiguresReadOff}
use Rattle.lists.specs.Members.{all_cons, all_tail, all_append, all_map}
use Rattle.lists.specs.FlatMaps.{flat_map_cons}
use Rattle.layouts.specs.AnswerLayout.{sheet_parts}
use Rattle.layouts.specs.CommandsReadBack.{WellFormed, commands_back, Without, PassesOver, coefficients_without}
use Rattle.layouts.specs.AnswerReadBack.{answer_commands_lem, end_without}

-- other commands have no pair
pairs_past : PassesOver 0x12 pairs_among
unfolding pairs_among flat_map
pairs_past [] ds h = refl
pairs_past (c ∷ cs) ds h = rw (h c (here refl)) (pairs_past cs ds (all_tail h))

-- ---- a copy

-- a copy's bytes are cut into the commands they were made of
copy_commands_lem : (g : Figures) → commands (copy_of g) ≡ copy_commands g
unfolding copy_of copy_commands operand_count first
copy_commands_lem g =
    commands_back (copy_commands g)
    (all_cons refl (all_cons refl (all_append (all_map WellFormed pair_command g.pairs (λ a i. refl)) (all_cons refl (λ c i. elim i [ ])))))

pairs_written : (l : List Pair) (cs : List Command) → pairs_among (map pair_command l ++ cs) ≡ l ++ pairs_among cs
unfolding pairs_among flat_map
pairs_written [] cs = refl
pairs_written (a ∷ l) cs = ap (λ (m : List Pair). a ∷ m) (pairs_written l cs)

copy_pairs : (g : Figures) → pairs_among (copy_commands g) ≡ g.pairs
unfolding pairs_among flat_map copy_commands
copy_pairs g = pairs_written g.pairs (command 0x0F [] ∷ []) ∙ append-nil g.pairs

pub figures_read_off : FiguresReadOff
figures_read_off g = record {
  prime = rw (copy_commands_lem g) (unfold copy_commands first_with first in refl);
  degree = rw (copy_commands_lem g) (unfold copy_commands first_with first in refl);
  pairs = ap pairs_among (copy_commands_lem g) ∙ copy_pairs g;
}

abbrev figures_in : List ℕ → Figures
figures_in bytes = record {
  prime = operand (first_with 0x01 (commands bytes)) 0;
  degree = operand (first_with 0x02 (commands bytes)) 0;
  pairs = pairs_in bytes;
}

figures_back : (g : Figures) → figures_in (copy_of g) ≡ g
figures_back g = let is : FiguresIn g (copy_of g) = figures_read_off g in rw (is.prime, is.degree, is.pairs) refl

pub same_figures : (g h : Figures) → copy_of g ≡ copy_of h → g ≡ h
same_figures g h e = sym (figures_back g) ∙ ap figures_in e ∙ figures_back h

-- ---- an answer

-- the pairs of commands, a factor or a part at a time
pairs_factor : (p : ℕ) (q : Factor) (cs : List Command)
    → pairs_among (factor_commands p q ++ cs) ≡ pair_of q ∷ pairs_among (coefficient_commands p 0 (lower q.poly) ++ cs)
unfolding factor_commands pairs_among flat_map
pairs_factor p q cs = refl

pairs_part : (s : Sheet) (P : Part) (cs : List Command)
    → pairs_among (part_commands s P ++ cs) ≡ pairs_among (flat_map (factor_commands s.prime) P.splitting.factors ++ cs)
unfolding part_commands pairs_among flat_map
pairs_part s P cs = refl

factors_pairs : (p : ℕ) (qs : List Factor) (cs : List Command) → pairs_among (flat_map (factor_commands p) qs ++ cs) ≡ map pair_of qs ++ pairs_among cs
factors_pairs p [] cs = unfold flat_map in refl
factors_pairs p (q ∷ qs) cs =
    let f : Poly = lower q.poly in
    let more : List Command = flat_map (factor_commands p) qs ++ cs in
    let past = pairs_past (coefficient_commands p 0 f) more (coefficients_without p 0x12 refl refl 0 f) in
    ap pairs_among (flat_map_cons (factor_commands p) q qs cs) ∙ pairs_factor p q more ∙ ap (λ (l : List Pair). pair_of q ∷ l) (past ∙ factors_pairs p qs cs)

pairs_of_cons : (P : Part) (Ps : List Part) (l : List Pair) → pairs_of (P ∷ Ps) ++ l ≡ part_pairs P ++ (pairs_of Ps ++ l)
unfolding pairs_of
pairs_of_cons P Ps l = flat_map_cons part_pairs P Ps l

parts_pairs : (s : Sheet) (Ps : List Part) (cs : List Command) → pairs_among (flat_map (part_commands s) Ps ++ cs) ≡ pairs_of Ps ++ pairs_among cs
parts_pairs s [] cs = unfold flat_map pairs_of in refl
parts_pairs s (P ∷ Ps) cs =
    let more : List Command = flat_map (part_commands s) Ps ++ cs in
    pairs_among (flat_map (part_commands s) (P ∷ Ps) ++ cs) ≡⟨ ap pairs_among (flat_map_cons (part_commands s) P Ps cs) ⟩
    pairs_among (part_commands s P ++ more) ≡⟨ pairs_part s P more ⟩
    pairs_among (flat_map (factor_commands s.prime) P.splitting.factors ++ more) ≡⟨ factors_pairs s.prime P.splitting.factors more ⟩
    part_pairs P ++ pairs_among more ≡⟨ ap (λ (l : List Pair). part_pairs P ++ l) (parts_pairs s Ps cs) ⟩
    part_pairs P ++ (pairs_of Ps ++ pairs_among cs) ≡⟨ sym (pairs_of_cons P Ps (pairs_among cs)) ⟩
    pairs_of (P ∷ Ps) ++ pairs_among cs ∎

-- no pair stands in the head, nor after the parts
head_without : (s : Sheet) → Without 0x12 (head_commands s)
unfolding head_commands
head_without s = all_cons refl (all_cons refl (λ c i. elim i [ ]))

end_pairs : (s : Sheet) (t : Totals) → pairs_among (end_commands s t) ≡ []
unfolding pairs_among flat_map
end_pairs s t = ap pairs_among (sym (append-nil (end_commands s t))) ∙ pairs_past (end_commands s t) [] (end_without s t)

pub answer_pairs : (s : Sheet) → pairs_in (answer s) ≡ pairs_of (sheet_parts s)
unfolding answer_commands
answer_pairs s =
    let Ps : List Part = sheet_parts s in
    let end : List Command = end_commands s (totals_of Ps) in
    pairs_in (answer s) ≡⟨ ap pairs_among (answer_commands_lem s) ⟩
    pairs_among (head_commands s ++ (flat_map (part_commands s) Ps ++ end)) ≡⟨ pairs_past (head_commands s) (flat_map (part_commands s) Ps ++ end) (head_without s) ⟩
    pairs_among (flat_map (part_commands s) Ps ++ end) ≡⟨ parts_pairs s Ps end ⟩
    pairs_of Ps ++ pairs_among end ≡⟨ ap (λ (l : List Pair). pairs_of Ps ++ l) (end_pairs s (totals_of Ps)) ⟩
    pairs_of Ps ++ [] ≡⟨ append-nil (pairs_of Ps) ⟩
    pairs_of Ps ∎
