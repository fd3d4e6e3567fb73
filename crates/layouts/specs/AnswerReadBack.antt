-- What is read off an answer's bytes, where the factors of its parts are monic: its commands, the list of the parts, its three totals and its run.
-- Proves them of every sheet's answer, and carries term 3 from the list of the definitions to the bytes. Assumes nothing.
use Rattle.std.specs.Prelude.{◌≡◌, Bool, cond, ℕ, replicate, eqb}
use Rattle.std.proofs.Math.Path.{refl, ap, ◌≡⟨◌⟩◌, ◌∎}
use Rattle.std.proofs.Common.{sym, ◌∙◌}
use Rattle.std.proofs.Math.Bool.{true, false}
use mathlib.Core.List.{List, [], ◌∷◌, ◌++◌, append_assoc, append-nil, flat_map}
use mathlib.Core.List.Memᴰ.{head as here}
use Rattle.specification.specs.Lists.{first, any_passes}
use Rattle.specification.specs.Polynomials.{Poly, degree, lower, monomial}
use Rattle.specification.specs.Parts.{Factor, Part}
use Rattle.specification.specs.Totals.{copies, list_of, total, different, free_digits, Totals, totals_of}
use Rattle.specification.specs.Commands.{Command, command, two_bytes, from_two_bytes, operand_count, commands, first_with, has}
use Rattle.specification.specs.Coefficients.{coefficient_commands}
use Rattle.specification.specs.RunLength.{run_length}
use Rattle.specification.specs.Sheets.{Sheet, head_commands}
use Rattle.specification.specs.Answers.{factor_commands, part_commands, run_commands, end_commands, answer_commands, answer}
use Rattle.specification.specs.FactorList.{with_coefficients, factors_in, factor_list, factor_total, different_total, free_total, run_in}
use Rattle.specification.specs.Longest as claimed
use Rattle.specification.specs.Term3 as term3
use Rattle.specification.specs.Limits.{◌²}
use Rattle.lists.specs.Members.{All, all_cons, all_tail, all_append}
use Rattle.lists.specs.FlatMaps.{flat_map_cons}
use Rattle.layouts.specs.CommandBytes.{all_asked, two_back}
use Rattle.layouts.specs.CoefficientBytes.{all_coefficients_lem}
use Rattle.layouts.specs.AnswerLayout.{sheet_parts}
use Rattle.items.specs.ListOfParts.{copies_cons, list_of_cons}
use Rattle.layouts.specs.CommandsReadBack.{
  WellFormed,
  coefficient_well_formed,
  commands_back,
  Without,
  PassesOver,
  first_with_past,
  has_past,
  factors_past,
  coefficients_without,
  NoCoefficient,
  written_back,
}

-- every factor of every part is monic modulo n
abbrev pub MonicFactors : ℕ → List Part → Type 0
MonicFactors n Ps = All (λ (P : Part). All (λ (q : Factor). claimed.Monic n q.poly) P.splitting.factors) Ps

-- ---- what holds of every command of the parts

-- a property of commands, of each kind that parts have
record Kinds (p : ℕ) (C : Command → Type 0) : Type 0 where
  part : (d m v : ℕ) → C (command 0x11 (d ∷ m ∷ v ∷ []))
  factor : (e t : ℕ) → C (command 0x12 (e ∷ t ∷ []))
  coefficients : (f : Poly) → All C (coefficient_commands p 0 f)

module _ {C : Command → Type 0} (s : Sheet) (k : Kinds s.prime C) where
  all_factors : (qs : List Factor) → All C (flat_map (factor_commands s.prime) qs)
  unfolding flat_map factor_commands
  all_factors [] = λ c i. elim i [ ]
  all_factors (q ∷ qs) = all_cons (k.factor _ _) (all_append (k.coefficients (lower q.poly)) (all_factors qs))

  all_parts : (Ps : List Part) → All C (flat_map (part_commands s) Ps)
  unfolding flat_map part_commands
  all_parts [] = λ c i. elim i [ ]
  all_parts (P ∷ Ps) = all_cons (k.part _ _ _) (all_append (all_factors P.splitting.factors) (all_parts Ps))

-- each command has the operands that its code asks for
pub well_formed_lem : (s : Sheet) (Ps : List Part) → All WellFormed (answer_commands s Ps)
unfolding answer_commands head_commands end_commands run_commands operand_count first
well_formed_lem s Ps =
    all_cons refl (all_cons refl (all_append (all_parts s (record {
      part = λ d m v. refl;
      factor = λ e t. refl;
      coefficients = λ f. all_coefficients_lem WellFormed s.prime 0 f (coefficient_well_formed s.prime);
    }) Ps) (all_cons refl (all_append (all_asked WellFormed s.run _ refl) (all_cons refl (λ c i. elim i [ ]))))))

-- a code that no part has
record NoPart (code : ℕ) : Type 0 where
  part : eqb 0x11 code ≡ false
  factor : eqb 0x12 code ≡ false
  one : eqb 0x03 code ≡ false
  two : eqb 0x05 code ≡ false

no_part : {code : ℕ} → eqb 0x11 code ≡ false → eqb 0x12 code ≡ false → eqb 0x03 code ≡ false → eqb 0x05 code ≡ false → NoPart code
no_part h i j k = record { part = h; factor = i; one = j; two = k }

parts_without : (s : Sheet) (code : ℕ) → NoPart code → (Ps : List Part) → Without code (flat_map (part_commands s) Ps)
parts_without s code h Ps =
    all_parts s (record {
      part = λ d m v. h.part;
      factor = λ e t. h.factor;
      coefficients = coefficients_without s.prime code h.one h.two 0;
    }) Ps

-- ---- no coefficient follows a factor's own

pub other_factors : (p : ℕ) (qs : List Factor) (cs : List Command) → NoCoefficient cs → NoCoefficient (flat_map (factor_commands p) qs ++ cs)
unfolding flat_map factor_commands
other_factors p [] cs o = o
other_factors p (q ∷ qs) cs o = refl

pub other_parts : (s : Sheet) (Ps : List Part) (cs : List Command) → NoCoefficient cs → NoCoefficient (flat_map (part_commands s) Ps ++ cs)
unfolding flat_map part_commands
other_parts s [] cs o = o
other_parts s (P ∷ Ps) cs o = refl

-- ---- the list

-- the factors of commands, a factor or a part at a time
factors_factor : (p : ℕ) (q : Factor) (cs : List Command)
    → let more : List Command = coefficient_commands p 0 (lower q.poly) ++ cs in
    factors_in (factor_commands p q ++ cs) ≡ replicate q.times (with_coefficients (monomial (degree q.poly)) more) ++ factors_in more
unfolding factor_commands factors_in
factors_factor p q cs = refl

factors_part : (s : Sheet) (P : Part) (cs : List Command)
    → factors_in (part_commands s P ++ cs) ≡ factors_in (flat_map (factor_commands s.prime) P.splitting.factors ++ cs)
unfolding part_commands factors_in
factors_part s P cs = refl

-- no factor stands in the head, nor after the parts
factors_head : (s : Sheet) (cs : List Command) → factors_in (head_commands s ++ cs) ≡ factors_in cs
unfolding head_commands factors_in
factors_head s cs = refl

pub end_without : (s : Sheet) (t : Totals) → Without 0x12 (end_commands s t)
unfolding end_commands run_commands
end_without s t = all_cons refl (all_append (all_asked (λ c. eqb c.code 0x12 ≡ false) s.run _ refl) (all_cons refl (λ c i. elim i [ ])))

factors_end : (s : Sheet) (t : Totals) → factors_in (end_commands s t) ≡ []
unfolding factors_in
factors_end s t = ap factors_in (sym (append-nil (end_commands s t))) ∙ factors_past (end_commands s t) [] (end_without s t)

other_end : (s : Sheet) (t : Totals) → NoCoefficient (end_commands s t)
unfolding end_commands
other_end s t = refl

factors_back : {n : ℕ} (p : ℕ) (qs : List Factor) (cs : List Command) → All (λ (q : Factor). claimed.Monic n q.poly) qs → NoCoefficient cs
    → factors_in (flat_map (factor_commands p) qs ++ cs) ≡ flat_map copies qs ++ factors_in cs
factors_back p [] cs h o = unfold flat_map in refl
factors_back p (q ∷ qs) cs h o =
    let f : Poly = lower q.poly in
    let more : List Command = flat_map (factor_commands p) qs ++ cs in
    let back = written_back p q.poly more (h q (here refl)) (other_factors p qs cs o) in
    let past = factors_past (coefficient_commands p 0 f) more (coefficients_without p 0x12 refl refl 0 f) in
    simp (flat_map_cons, factors_factor, back, past, factors_back p qs cs (all_tail h) o, copies_cons, append_assoc)

parts_back : {n : ℕ} (s : Sheet) (Ps : List Part) (cs : List Command) → MonicFactors n Ps → NoCoefficient cs
    → factors_in (flat_map (part_commands s) Ps ++ cs) ≡ list_of Ps ++ factors_in cs
parts_back s [] cs h o = unfold flat_map list_of in refl
parts_back s (P ∷ Ps) cs h o =
    let more = parts_back s Ps cs (all_tail h) o in
    let back = factors_back s.prime P.splitting.factors (flat_map (part_commands s) Ps ++ cs) (h P (here refl)) (other_parts s Ps cs o) in
    simp (flat_map_cons, factors_part, back, more, list_of_cons, append_assoc)

-- ---- a sheet's answer

module _ (s : Sheet) where
  abbrev Ps : List Part
  Ps = sheet_parts s

  -- an answer's bytes are cut into the commands they were made of
  pub answer_commands_lem : commands (answer s) ≡ answer_commands s Ps
  unfolding answer
  answer_commands_lem = commands_back (answer_commands s Ps) (well_formed_lem s Ps)

  pub list_back : {n : ℕ} → MonicFactors n Ps → factor_list (answer s) ≡ list_of Ps
  unfolding factor_list answer_commands
  list_back h =
      let end : List Command = end_commands s (totals_of Ps) in
      factors_in (commands (answer s)) ≡⟨ ap factors_in answer_commands_lem ⟩
      factors_in (head_commands s ++ (flat_map (part_commands s) Ps ++ end)) ≡⟨ factors_head s (flat_map (part_commands s) Ps ++ end) ⟩
      factors_in (flat_map (part_commands s) Ps ++ end) ≡⟨ parts_back s Ps end h (other_end s (totals_of Ps)) ⟩
      list_of Ps ++ factors_in end ≡⟨ ap (λ (l : List Poly). list_of Ps ++ l) (factors_end s (totals_of Ps)) ⟩
      list_of Ps ++ [] ≡⟨ append-nil (list_of Ps) ⟩
      list_of Ps ∎

  -- what stands in the head or in the end alone is found past the parts
  module _ (code : ℕ) (none : NoPart code) (head : Without code (head_commands s)) where
    end_alone : {A : Type 0} (F : List Command → A) → PassesOver code F → F (commands (answer s)) ≡ F (end_commands s (totals_of Ps))
    unfolding answer_commands
    end_alone F past =
        ap F answer_commands_lem
        ∙ past (head_commands s) (flat_map (part_commands s) Ps ++ end_commands s (totals_of Ps)) head
        ∙ past (flat_map (part_commands s) Ps) (end_commands s (totals_of Ps)) (parts_without s code none Ps)

  pub head_back : first_with 0x01 (commands (answer s)) ≡ command 0x01 (s.prime ∷ [])
  head_back = rw answer_commands_lem (unfold answer_commands head_commands first_with first in refl)

  totals : first_with 0x13 (commands (answer s)) ≡ first_with 0x13 (end_commands s (totals_of Ps))
  totals =
      end_alone 0x13 (no_part refl refl refl refl) (unfold head_commands in all_cons refl (all_cons refl (λ c i. elim i [ ])))
      (first_with 0x13) (first_with_past 0x13)

  pub total_back : factor_total (answer s) ≡ total Ps
  unfolding factor_total first_with first end_commands
  total_back = rw totals refl

  pub different_back : different_total (answer s) ≡ different (list_of Ps)
  unfolding different_total first_with first end_commands
  different_back = rw totals refl

  pub free_back : free_total (answer s) ≡ free_digits Ps
  unfolding free_total first_with first end_commands
  free_back = rw totals refl

  -- a run is shown where it is asked for, and is the run length
  head_without_run : Without 0x14 (head_commands s)
  unfolding head_commands
  head_without_run = all_cons refl (all_cons refl (λ c i. elim i [ ]))

  pub run_shown : has 0x14 (commands (answer s)) ≡ s.run
  unfolding end_commands run_commands has any_passes
  run_shown = end_alone 0x14 (no_part refl refl refl refl) head_without_run (has 0x14) (has_past 0x14) ∙ asked s.run (command 0x14 _) refl
    where
      asked : (b : Bool) (c : Command) → c.code ≡ 0x14 → has 0x14 (cond b (c ∷ []) [] ++ (command 0x0F [] ∷ [])) ≡ b
      asked true c e = rw e refl
      asked false c e = refl

  run_command : s.run ≡ true → first_with 0x14 (commands (answer s)) ≡ command 0x14 (two_bytes (run_length s.prime s.poly))
  unfolding end_commands run_commands first_with first
  run_command e = end_alone 0x14 (no_part refl refl refl refl) head_without_run (first_with 0x14) (first_with_past 0x14) ∙ rw e refl

  pub run_back : s.run ≡ true → run_in (answer s) ≡ run_length s.prime s.poly
  unfolding run_in
  run_back e = ap (λ (c : Command). from_two_bytes c.operands) (run_command e) ∙ two_back (run_length s.prime s.poly)

  -- "Term 3 is read off bytes"
  pub longest_in : {n : ℕ} → MonicFactors n Ps → claimed.Longest (s.prime ²) s.poly (list_of Ps) (total Ps) (different (list_of Ps))
      → term3.LongestIn s (answer s)
  longest_in h t = rw (list_back h, total_back, different_back) t
