-- Readers that are exact: `Exact r Good written`, r reads exactly the good values, each from its own bytes.
-- Proves it of bytes, judged values and commands with an operand, how a reading goes on where readers are joined or a command may come, and what a
-- command says that is there or not. Assumes nothing.
use Rattle.std.specs.Prelude.{◌≡◌, Bool, length, eqb}
use Rattle.std.proofs.Math.Path.{refl, ap}
use Rattle.std.proofs.Common.{◌∙◌, ap₂, eqb→eq, ltb→lt, eq-eqb, ne_eqb, lt-ltb}
use Rattle.std.proofs.Math.Bool.{true, false, cond}
use Rattle.std.proofs.lemmas.Bool.{false≢true}
use mathlib.Core.List.{List, [], ◌∷◌, ◌++◌, flat_map}
use Prim.Native.Nat.{ℕ, suc, ◌<◌, ◌+◌, ◌*◌, ◌/◌, ◌%◌}
use native.Mathlib.Omega.{arith}
use Rattle.std.proofs.Math.Dec.{T}
use Rattle.specification.specs.Lists.{any_passes}
use Rattle.specification.specs.Commands.{bytes_of, flag_commands, two_bytes}
use Rattle.specification.specs.Reading.{Read, got, stop, Reader, done, go_on, ◌>>=◌, judged, on_next, byte, is_byte, two_byte_number, command_byte, with_operand, flag}
use Rattle.lists.specs.Tests.{picked, passes, fails, or_right}
use Rattle.layouts.specs.CommandBytes.{two_back}

-- ---- what a reading says, if there is no fault

-- Q of the value, the place after it and the bytes from there on
abbrev pub Holds : {A : Type 0} → (A → ℕ → List ℕ → Type 0) → Read A → Type 0
Holds Q (got a after rest) = Q a after rest
Holds Q (stop k place) = Unit {0}

pub holds_as : {A : Type 0} {P Q : A → ℕ → List ℕ → Type 0} → ((a : A) (after : ℕ) (rest : List ℕ) → P a after rest → Q a after rest)
    → (x : Read A) → Holds P x → Holds Q x
holds_as f (got a after rest) h = f a after rest h
holds_as f (stop k place) h = tt

module _ {A : Type 0} (Q : A → ℕ → List ℕ → Type 0) where
  pub holds_then : {B : Type 0} {P : B → ℕ → List ℕ → Type 0} (r : Reader B) (f : B → Reader A) (at : ℕ) (bytes : List ℕ) → Holds P (r at bytes)
      → ((b : B) (after : ℕ) (rest : List ℕ) → P b after rest → Holds Q (f b after rest)) → Holds Q (◌>>=◌ r f at bytes)
  unfolding ◌>>=◌
  holds_then {B} {P} r f at bytes h k = go (r at bytes) h
    where
      go : (x : Read B) → Holds P x → Holds Q (go_on x f)
      go (got b after rest) h = unfold go_on in k b after rest h
      go (stop n place) h = unfold go_on in tt

  pub holds_next : (code : ℕ) (r other : Reader A) (at : ℕ) (bytes : List ℕ) → Holds Q (r at bytes) → Holds Q (other at bytes)
      → Holds Q (on_next code r other at bytes)
  unfolding on_next
  holds_next code r other at [] h k = k
  holds_next code r other at (b ∷ bytes) h k = picked (Holds Q) (eqb b code) (λ t. h) (λ t. k)

-- ---- two readings that go on alike

module _ {A B : Type 0} {P : A → ℕ → List ℕ → Type 0} (r : Reader A) (f g : A → Reader B) (at : ℕ) (bytes : List ℕ) where
  pub then_same : Holds P (r at bytes) → ((a : A) (after : ℕ) (rest : List ℕ) → P a after rest → f a after rest ≡ g a after rest)
      → ◌>>=◌ r f at bytes ≡ ◌>>=◌ r g at bytes
  unfolding ◌>>=◌
  then_same h same = go (r at bytes) h
    where
      go : (x : Read A) → Holds P x → go_on x f ≡ go_on x g
      go (got a after rest) h = unfold go_on in same a after rest h
      go (stop k place) h = unfold go_on in refl

pub next_same : {A : Type 0} (code : ℕ) (r q other : Reader A) (at : ℕ) (bytes : List ℕ) → r at bytes ≡ q at bytes
    → on_next code r other at bytes ≡ on_next code q other at bytes
unfolding on_next
next_same code r q other at [] e = refl
next_same code r q other at (b ∷ bytes) e = ap (λ x. cond (eqb b code) x (other at (b ∷ bytes))) e

-- ---- how a reading goes on

module _ {A B : Type 0} (r : Reader A) (f : A → Reader B) {at : ℕ} {bytes : List ℕ} where
  pub then_goes : {a : A} {after : ℕ} {rest : List ℕ} → r at bytes ≡ got a after rest → ◌>>=◌ r f at bytes ≡ f a after rest
  unfolding ◌>>=◌ go_on
  then_goes e = rw e refl

  pub then_stops : {k place : ℕ} → r at bytes ≡ stop k place → ◌>>=◌ r f at bytes ≡ stop k place
  unfolding ◌>>=◌ go_on
  then_stops e = rw e refl

pub command_goes : (code at : ℕ) (rest : List ℕ) → command_byte code at (code ∷ rest) ≡ got code (suc at) rest
unfolding command_byte judged go_on byte
command_goes code at rest = rw (eq-eqb code code refl) refl

-- the next byte, if there is one, is another
abbrev pub Other : ℕ → List ℕ → Type 0
Other code [] = Unit {0}
Other code (b ∷ bytes) = b ≡ code → ⊥

module _ {A : Type 0} (code : ℕ) (r other : Reader A) (at : ℕ) where
  pub next_goes : (bytes : List ℕ) → on_next code r other at (code ∷ bytes) ≡ r at (code ∷ bytes)
  unfolding on_next
  next_goes bytes = rw (eq-eqb code code refl) refl

  pub other_goes : (bytes : List ℕ) → Other code bytes → on_next code r other at bytes ≡ other at bytes
  unfolding on_next
  other_goes [] h = refl
  other_goes (b ∷ bytes) h = rw (ne_eqb b code h) refl

-- ---- exact readers

-- the value is good, and its bytes come before the rest
abbrev pub Stands : {A : Type 0} → (A → Type 0) → (A → List ℕ) → List ℕ → A → ℕ → List ℕ → Type 0
Stands Good written bytes a after rest = Good a × (bytes ≡ written a ++ rest)

pub record Exact {A : Type 0} (r : Reader A) (Good : A → Type 0) (written : A → List ℕ) : Type 0 where
  pub sound : (at : ℕ) (bytes : List ℕ) → Holds (Stands Good written bytes) (r at bytes)
  pub complete : (at : ℕ) (a : A) (rest : List ℕ) → Good a → r at (written a ++ rest) ≡ got a (at + length (written a)) rest

-- any byte
pub byte_exact : Exact byte (λ b. Unit {0}) (λ b. b ∷ [])
byte_exact = record { sound = sound; complete = complete }
  where
    complete : (at a : ℕ) (rest : List ℕ) → Unit {0} → byte at (a ∷ rest) ≡ got a (at + 1) rest
    complete at a rest g = unfold byte in ap (λ (k : ℕ). got a k rest) (let e : suc at ≡ at + 1 = omega arith in e)

    sound : (at : ℕ) (bytes : List ℕ) → Holds (Stands (λ b. Unit {0}) (λ b. b ∷ []) bytes) (byte at bytes)
    sound at [] = unfold byte in tt
    sound at (b ∷ bytes) = unfold byte in (tt, refl)

module _ {A : Type 0} {r : Reader A} {Good : A → Type 0} {written : A → List ℕ} (x : Exact r Good written) where
  pub judged_exact : (k : ℕ) (good : A → Bool) → Exact (judged k good r) (λ a. Good a × T (good a)) written
  judged_exact k good = record {
    sound = λ at bytes. unfold judged in go at bytes (r at bytes) (x.sound at bytes);
    complete = complete;
  }
    where
      complete : (at : ℕ) (a : A) (rest : List ℕ) → Good a × T (good a)
          → judged k good r at (written a ++ rest) ≡ got a (at + length (written a)) rest
      complete at a rest (g, t) = unfold judged go_on in rw (x.complete at a rest g, passes (good a) t) refl

      go : (at : ℕ) (bytes : List ℕ) (y : Read A) → Holds (Stands Good written bytes) y
          → Holds (Stands (λ a. Good a × T (good a)) written bytes) (go_on y λ a after rest. cond (good a) (got a after rest) (stop k at))
      go at bytes (got a after rest) (g, e) =
          unfold go_on in picked (Holds (Stands (λ a. Good a × T (good a)) written bytes)) (good a) (λ t. ((g, t), e)) (λ t. tt)
      go at bytes (stop n place) h = unfold go_on in tt

  -- "good" said in other words
  exact_as : {Fine : A → Type 0} → ((a : A) → Good a → Fine a) → ((a : A) → Fine a → Good a) → Exact r Fine written
  exact_as to from = record {
    sound = λ at bytes. holds_as (λ a after rest (g, e). (to a g, e)) (r at bytes) (x.sound at bytes);
    complete = λ at a rest f. x.complete at a rest (from a f);
  }

-- a judged value of which nothing else is asked
pub judged_any : {A : Type 0} {r : Reader A} {written : A → List ℕ} → Exact r (λ a. Unit {0}) written → (k : ℕ) (good : A → Bool)
    → Exact (judged k good r) (λ a. T (good a)) written
judged_any x k good = exact_as (judged_exact x k good) (λ a (u, t). t) (λ a t. (tt, t))

-- an operand of one byte
pub operand_exact : (k : ℕ) (good : ℕ → Bool) → Exact (judged k good byte) (λ b. T (good b)) (λ b. b ∷ [])
operand_exact k good = judged_any byte_exact k good

-- a number of two bytes
pub two_exact : (k : ℕ) → Exact (two_byte_number k) (λ v. Unit {0}) two_bytes
unfolding two_byte_number done
two_exact k = record {
  sound = λ at bytes.
      holds_then (Stands (λ v. Unit {0}) two_bytes bytes) (judged k is_byte byte) _ at bytes ((operand_exact k is_byte).sound at bytes) (λ low at₁ rest₁ (t, e₁).
      holds_then (Stands (λ v. Unit {0}) two_bytes bytes) byte _ at₁ rest₁ (byte_exact.sound at₁ rest₁) (λ high at₂ rest₂ (u, e₂).
      (tt, e₁ ∙ ap (λ (l : List ℕ). low ∷ l) e₂ ∙ same low high rest₂ (ltb→lt low 256 t))));
  complete = λ at v rest u.
      then_goes (judged k is_byte byte) _ ((operand_exact k is_byte).complete at (v % 256) (v / 256 ∷ rest) (rw (lt-ltb (v % 256) 256 (omega arith)) tt))
      ∙ then_goes byte _ (byte_exact.complete (at + 1) (v / 256) rest tt)
      ∙ ap₂ (λ (n place : ℕ). got n place rest) (two_back v) (let e : at + 1 + 1 ≡ at + 2 = omega arith in e);
}
  where
    same : (low high : ℕ) (rest : List ℕ) → low < 256 → low ∷ high ∷ rest ≡ two_bytes (low + 256 * high) ++ rest
    same low high rest l =
        ap₂ (λ (a b : ℕ). a ∷ b ∷ rest) (let e : low ≡ (low + 256 * high) % 256 = omega arith in e)
        (let e : high ≡ (low + 256 * high) / 256 = omega arith in e)

command_exact : (code : ℕ) → Exact (command_byte code) (λ b. T (eqb b code)) (λ b. b ∷ [])
unfolding command_byte
command_exact code = operand_exact 3 (λ b. eqb b code)

pub command_sound : (code at : ℕ) (bytes : List ℕ) → Holds (λ b after rest. bytes ≡ code ∷ rest) (command_byte code at bytes)
command_sound code at bytes =
    holds_as (λ b after rest (t, e). e ∙ ap (λ (c : ℕ). c ∷ rest) (eqb→eq b code t)) (command_byte code at bytes) ((command_exact code).sound at bytes)

-- a command with its operand
pub with_exact : {A : Type 0} {r : Reader A} {Good : A → Type 0} {written : A → List ℕ} (code : ℕ) → Exact r Good written
    → Exact (with_operand code r) Good (λ a. code ∷ written a)
unfolding with_operand
with_exact {A} {r} {Good} {written} code x = record {
  sound = λ at bytes.
      holds_then (Stands Good (λ a. code ∷ written a) bytes) (command_byte code) (λ c. r) at bytes (command_sound code at bytes)
      (λ c after rest e. holds_as (λ a end more (g, h). (g, e ∙ ap (λ (l : List ℕ). code ∷ l) h)) (r after rest) (x.sound after rest));
  complete = λ at a rest g.
      then_goes (command_byte code) (λ c. r) (command_goes code at (written a ++ rest)) ∙ x.complete (suc at) a rest g
      ∙ ap (λ (k : ℕ). got a k rest) (let e : suc at + length (written a) ≡ at + suc (length (written a)) = omega arith in e);
}

-- ---- the next byte is one of some codes

-- the bytes begin with one of the codes, or there are none
abbrev pub Begins : List ℕ → List ℕ → Type 0
Begins codes [] = Unit {0}
Begins codes (b ∷ bytes) = T (any_passes (eqb b) codes)

pub begins_other : (code : ℕ) (codes bytes : List ℕ) → Begins codes bytes → any_passes (eqb code) codes ≡ false → Other code bytes
begins_other code codes [] h e = tt
begins_other code codes (b ∷ bytes) h e = λ q. let k : T (any_passes (eqb code) codes) = rw q at h in rw e at k

-- ---- a command that is there or not

-- it is allowed where it is there, and its bytes come before the rest
abbrev Flag : ℕ → Bool → List ℕ → Bool → ℕ → List ℕ → Type 0
Flag code allowed bytes asked after rest = (asked ≡ true → T allowed) × (bytes ≡ bytes_of (flag_commands code asked) ++ rest)

module _ (code k : ℕ) (allowed : Bool) where
  allowed_exact : Exact (judged k (λ c. allowed) (command_byte code)) (λ c. T (eqb c code) × T allowed) (λ c. c ∷ [])
  allowed_exact = judged_exact (command_exact code) k (λ c. allowed)

  pub flag_sound : (at : ℕ) (bytes : List ℕ) → Holds (Flag code allowed bytes) (flag code k allowed at bytes)
  unfolding flag done bytes_of flat_map
  flag_sound at bytes =
      holds_next (Flag code allowed bytes) code _ (done false) at bytes
      (holds_then (Flag code allowed bytes) (judged k (λ c. allowed) (command_byte code)) (λ c. done true) at bytes (allowed_exact.sound at bytes)
      (λ c after rest ((t, a), e). ((λ q. a), e ∙ ap (λ (x : ℕ). x ∷ rest) (eqb→eq c code t))))
      ((λ q. absurd (false≢true q)), refl)

  pub flag_there : (at : ℕ) (rest : List ℕ) → T allowed → flag code k allowed at (code ∷ rest) ≡ got true (at + 1) rest
  unfolding flag done
  flag_there at rest t =
      next_goes code _ _ at rest
      ∙ then_goes (judged k (λ c. allowed) (command_byte code)) (λ c. done true) (allowed_exact.complete at code rest (rw (eq-eqb code code refl) tt, t))

  pub flag_none : (at : ℕ) (rest : List ℕ) → Other code rest → flag code k allowed at rest ≡ got false at rest
  unfolding flag done
  flag_none at rest o = other_goes code _ (done false) at rest o

  pub flag_goes : (asked : Bool) (at : ℕ) (rest : List ℕ) → (asked ≡ true → T allowed) → Other code rest
      → flag code k allowed at (bytes_of (flag_commands code asked) ++ rest) ≡ got asked (at + length (bytes_of (flag_commands code asked))) rest
  unfolding bytes_of flat_map
  flag_goes true at rest h o = flag_there at rest (h refl)
  flag_goes false at rest h o = flag_none at rest o ∙ ap (λ (x : ℕ). got false x rest) (let q : at ≡ at + 0 = omega arith in q)

  pub flag_stops : (at : ℕ) (rest : List ℕ) → (T allowed → ⊥) → flag code k allowed at (code ∷ rest) ≡ stop k at
  unfolding flag judged go_on
  flag_stops at rest h =
      next_goes code _ _ at rest
      ∙ then_stops (judged k (λ c. allowed) (command_byte code)) (λ c. done true) (rw (command_goes code at rest, fails allowed h) refl)

pub flag_begins : (code : ℕ) (asked : Bool) (codes rest : List ℕ) → Begins codes rest
    → Begins (code ∷ codes) (bytes_of (flag_commands code asked) ++ rest)
unfolding bytes_of flat_map any_passes
flag_begins code true codes rest h = rw (eq-eqb code code refl) tt
flag_begins code false codes [] h = tt
flag_begins code false codes (x ∷ rest) h = or_right (eqb x code) (any_passes (eqb x) codes) h
