-- Commands found again in their bytes, and what is read off a list of commands.
-- Proves that well-formed commands are what their bytes are cut into, that a command with a code, and the first, is found past others, and that a
-- monic list is found again from x to its degree and the commands written after it. Assumes nothing.
use Rattle.std.specs.Prelude.{◌≡◌, true, false, ℕ, zero, suc, length, take, drop, set, eqb}
use Rattle.std.proofs.Math.Path.{refl}
use Rattle.std.proofs.Common.{sym, ◌∙◌, ap, arith, length-append, drop_at}
use mathlib.Core.List.{List, [], ◌∷◌, ◌++◌, flat_map}
use mathlib.Core.List.Memᴰ.{head as here}
use Rattle.std.proofs.lemmas.List.{set_at}
use Rattle.std.proofs.Math.Seq.{append_snoc, take-append_seam}
use Rattle.specification.specs.Lists.{first}
use Rattle.specification.specs.Polynomials.{Poly, degree, lower, monomial}
use Rattle.specification.specs.Commands.{Command, command, command_bytes, bytes_of, operand_count, commands_after, commands, first_with, has}
use Rattle.specification.specs.Coefficients.{is_coefficient, coefficient_command, coefficient_commands, with_coefficient}
use Rattle.specification.specs.FactorList.{with_coefficients, factors_in}
use Rattle.specification.specs.Longest as claimed
use Rattle.lists.specs.Members.{All, all_tail}
use Rattle.lists.specs.AllAny.{any_past}
use Rattle.lists.specs.Firsts.{first_past}
use Rattle.layouts.specs.CoefficientBytes.{either_width, is_coefficient_lem, value_back, all_coefficients_lem, length_lower, lower_top}

-- ---- commands in bytes

-- a command has as many operands as its code says
abbrev pub WellFormed : Command → Type 0
WellFormed c = operand_count c.code ≡ length c.operands

pub coefficient_well_formed : (p i v : ℕ) → WellFormed (coefficient_command p i v)
unfolding operand_count first
coefficient_well_formed p i v = either_width p v WellFormed i (λ e. refl) (λ e. refl)

-- the bytes of a command, and then others
pub commands_cut : (code : ℕ) (bytes : List ℕ)
    → commands (code ∷ bytes) ≡ command code (take (operand_count code) bytes) ∷ commands_after (operand_count code) bytes
unfolding commands_after
commands_cut code bytes = refl

-- operands are passed over, as many as there are
pub past_operands : (k : ℕ) (bytes : List ℕ) → commands_after k bytes ≡ commands (drop k bytes)
unfolding commands_after
past_operands zero bytes = refl
past_operands (suc k) [] = refl
past_operands (suc k) (b ∷ bytes) = past_operands k bytes

commands_cons : (c : Command) (bytes : List ℕ) → WellFormed c → commands (command_bytes c ++ bytes) ≡ c ∷ commands bytes
commands_cons c bytes w =
    let k : ℕ = length c.operands in
    let rest = past_operands k (c.operands ++ bytes) ∙ ap commands (drop_at c.operands bytes k refl) in
    commands_cut c.code (c.operands ++ bytes) ∙ rw (w, take-append_seam c.operands bytes, rest) refl

pub commands_back : (cs : List Command) → All WellFormed cs → commands (bytes_of cs) ≡ cs
unfolding bytes_of flat_map
commands_back [] h = unfold commands_after in refl
commands_back (c ∷ cs) h = commands_cons c (bytes_of cs) (h c (here refl)) ∙ ap (λ (ds : List Command). c ∷ ds) (commands_back cs (all_tail h))

-- ---- commands with other codes

-- no command of the list has the code
abbrev pub Without : ℕ → List Command → Type 0
Without code cs = All (λ (c : Command). eqb c.code code ≡ false) cs

-- what is read off commands with a code passes over the others
abbrev pub PassesOver : {A : Type 0} → ℕ → (List Command → A) → Type 0
PassesOver code F = (cs ds : List Command) → Without code cs → F (cs ++ ds) ≡ F ds

pub first_with_past : (code : ℕ) → PassesOver code (first_with code)
unfolding first_with
first_with_past code cs ds h = first_past (λ (c : Command). eqb c.code code) (command code []) cs ds h

pub has_past : (code : ℕ) → PassesOver code (has code)
unfolding has
has_past code cs ds h = any_past (λ (c : Command). eqb c.code code) cs ds h

pub factors_past : PassesOver 0x12 factors_in
unfolding factors_in
factors_past [] ds h = refl
factors_past (c ∷ cs) ds h = rw (h c (here refl)) (factors_past cs ds (all_tail h))

-- a coefficient's code is 0x03 or 0x05
pub coefficients_without : (p code : ℕ) → eqb 0x03 code ≡ false → eqb 0x05 code ≡ false → (i : ℕ) (f : Poly) → Without code (coefficient_commands p i f)
coefficients_without p code one two i f =
    all_coefficients_lem (λ c. eqb c.code code ≡ false) p i f (λ k v. either_width p v (λ c. eqb c.code code ≡ false) k (λ e. one) (λ e. two))

-- ---- "the coefficients written directly after it, before any other command"

-- the next command, if there is one, gives no coefficient
abbrev pub NoCoefficient : List Command → Type 0
NoCoefficient [] = Unit {0}
NoCoefficient (c ∷ cs) = is_coefficient c ≡ false

pub written_none : (f : Poly) (cs : List Command) → NoCoefficient cs → with_coefficients f cs ≡ f
unfolding with_coefficients
written_none f [] o = refl
written_none f (c ∷ cs) o = rw (o, with_coefficients)

pub written_more : (f : Poly) (c : Command) (cs : List Command) → is_coefficient c ≡ true
    → with_coefficients f (c ∷ cs) ≡ with_coefficients (with_coefficient f c) cs
unfolding with_coefficients
written_more f c cs e = rw (e, with_coefficients)

with_first : (p i v : ℕ) (f : Poly) (cs : List Command) → with_coefficients f (coefficient_command p i v ∷ cs) ≡ with_coefficients (set f i v) cs
with_first p i v f cs =
    written_more f (coefficient_command p i v) cs (is_coefficient_lem p v i) ∙ ap (λ (w : ℕ). with_coefficients (set f i w) cs) (value_back p v)

-- the coefficients a are there, t is to come
written_after : (p i : ℕ) (a t : Poly) (cs : List Command) → length a ≡ i → NoCoefficient cs
    → with_coefficients (a ++ monomial (length t)) (coefficient_commands p i t ++ cs) ≡ a ++ (t ++ (1 ∷ []))
unfolding coefficient_commands
written_after p i a [] cs e o = written_none (a ++ (1 ∷ [])) cs o
written_after p i a (zero ∷ t) cs e o =
    ap (λ (f : Poly). with_coefficients f (coefficient_commands p (suc i) t ++ cs)) (sym (append_snoc a 0 (monomial (length t))))
    ∙ written_after p (suc i) (a ++ (0 ∷ [])) t cs (length-append a (0 ∷ []) ∙ omega arith) o
    ∙ append_snoc a 0 (t ++ (1 ∷ []))
written_after p i a (suc v ∷ t) cs e o =
    with_first p i (suc v) (a ++ monomial (suc (length t))) (coefficient_commands p (suc i) t ++ cs)
    ∙ ap (λ (f : Poly). with_coefficients f (coefficient_commands p (suc i) t ++ cs))
    (set_at a 0 (monomial (length t)) (suc v) i e ∙ sym (append_snoc a (suc v) (monomial (length t))))
    ∙ written_after p (suc i) (a ++ (suc v ∷ [])) t cs (length-append a (suc v ∷ []) ∙ omega arith) o
    ∙ append_snoc a (suc v) (t ++ (1 ∷ []))

pub written_back : {n : ℕ} (p : ℕ) (f : Poly) (cs : List Command) → claimed.Monic n f → NoCoefficient cs
    → with_coefficients (monomial (degree f)) (coefficient_commands p 0 (lower f) ++ cs) ≡ f
written_back p f cs m o =
    ap (λ (k : ℕ). with_coefficients (monomial k) (coefficient_commands p 0 (lower f) ++ cs)) (sym (length_lower f))
    ∙ written_after p 0 [] (lower f) cs refl o ∙ lower_top f m
