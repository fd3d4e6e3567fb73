-- How far readers go: `Bounded r Good most last`, r takes at most `most` bytes, looks at none past the place `last` after where it begins, and what it
-- reads is good; its faults stand where it looked, and have numbers. Proves it of each way to make a reader. Assumes nothing.
use Rattle.std.specs.Prelude.{◌≡◌, Bool, ◌&&◌, eqb, leb}
use Rattle.std.proofs.Math.Path.{refl, ap}
use Rattle.std.proofs.Common.{◌∙◌, leb→le}
use Rattle.std.proofs.Math.Bool.{true, false, cond}
use mathlib.Core.List.{List, [], ◌∷◌}
use Prim.Native.Nat.{ℕ, zero, suc, ◌≤◌, ◌<◌, ◌+◌, ◌-◌, ◌*◌}
use native.Mathlib.Omega.{arith}
use Rattle.std.proofs.Math.ListN.{length, take}
use Rattle.std.proofs.Math.Dec.{T}
use Rattle.specification.specs.Lists.{all_pass, any_passes}
use Rattle.specification.specs.Sheets.{sheet_numbers}
use Rattle.specification.specs.Reading.{Read, got, stop, Reader, done, go_on, ◌>>=◌, judged, on_next, byte, is_byte, two_byte_number, command_byte, with_operand, flag}
use Rattle.lists.specs.Tests.{picked, left, right}
use Rattle.lists.specs.AllAny.{member_passes}

-- a number of a sheet's faults
abbrev pub Numbered : ℕ → Type 0
Numbered k = T (any_passes (eqb k) sheet_numbers)

-- the last of them
abbrev pub last_number : ℕ
last_number = 14

pub numbered_within : (k : ℕ) → Numbered k → (2 ≤ k) × (k ≤ last_number)
unfolding all_pass
numbered_within k h =
    let t : T (leb 2 k && leb k last_number) = member_passes (λ (n : ℕ). leb 2 n && leb n last_number) k sheet_numbers h tt in
    (leb→le 2 k (left (leb 2 k) (leb k last_number) t), leb→le k last_number (right (leb 2 k) (leb k last_number) t))

-- what is read at a place, where `long` bytes are left
abbrev pub Within : {A : Type 0} → (A → Type 0) → ℕ → ℕ → ℕ → ℕ → Read A → Type 0
Within Good most last at long (got a after rest) = Good a × (at ≤ after) × (after ≤ at + most) × (at + long ≡ after + length rest)
Within Good most last at long (stop k place) = Numbered k × (place ≤ at + last) × (place ≤ at + long)

-- the same with the bytes cut off at a place
abbrev pub cut : {A : Type 0} → ℕ → Read A → Read A
cut end (got a after rest) = got a after (take (end - after) rest)
cut end (stop k place) = stop k place

pub record Bounded {A : Type 0} (r : Reader A) (Good : A → Type 0) (most last : ℕ) : Type 0 where
  pub within : (at : ℕ) (bytes : List ℕ) → Within Good most last at (length bytes) (r at bytes)
  -- the first bytes decide
  pub decides : (at n : ℕ) (bytes : List ℕ) → last < n → r at (take n bytes) ≡ cut (at + n) (r at bytes)

-- ---- nothing, and a byte

pub bounded_done : {A : Type 0} {Good : A → Type 0} (a : A) → Good a → Bounded (done a) Good 0 0
unfolding done
bounded_done a g = record {
  within = λ at bytes. (g, omega arith, omega arith, refl);
  decides = λ at n bytes l. ap (λ (k : ℕ). got a at (take k bytes)) (let e : n ≡ at + n - at = omega arith in e);
}

pub bounded_byte : Bounded byte (λ b. Unit {0}) 1 0
unfolding byte
bounded_byte = record { within = within; decides = decides }
  where
    within : (at : ℕ) (bytes : List ℕ) → Within (λ b. Unit {0}) 1 0 at (length bytes) (byte at bytes)
    within at [] = (unfold any_passes in tt, omega arith, omega arith)
    within at (b ∷ bytes) = (tt, omega arith, omega arith, omega arith)

    decides : (at n : ℕ) (bytes : List ℕ) → 0 < n → byte at (take n bytes) ≡ cut (at + n) (byte at bytes)
    decides at zero bytes l = absurd (omega arith)
    decides at (suc n) [] l = refl
    decides at (suc n) (b ∷ bytes) l = ap (λ (k : ℕ). got b (suc at) (take k bytes)) (let e : n ≡ at + suc n - suc at = omega arith in e)

-- ---- wider bounds

module _ {A : Type 0} {r : Reader A} {Good : A → Type 0} {m l : ℕ} (b : Bounded r Good m l) where
  pub bounded_wider : {most last : ℕ} → m ≤ most → l ≤ last → Bounded r Good most last
  bounded_wider {most} {last} h i = record {
    within = λ at bytes. wider at (length bytes) (r at bytes) (b.within at bytes);
    decides = λ at n bytes k. b.decides at n bytes (omega arith);
  }
    where
      wider : (at long : ℕ) (x : Read A) → Within Good m l at long x → Within Good most last at long x
      wider at long (got a after rest) (g, u, v, e) = (g, u, omega arith, e)
      wider at long (stop k place) (p, u, v) = (p, omega arith, v)

  -- a reader that never comes to an end takes nothing, and anything may be said of what it reads
  pub bounded_never : {Fine : A → Type 0} → ((a : A) → Good a → ⊥) → Bounded r Fine 0 l
  bounded_never {Fine} f = record { within = λ at bytes. none at (length bytes) (r at bytes) (b.within at bytes); decides = b.decides }
    where
      none : (at long : ℕ) (x : Read A) → Within Good m l at long x → Within Fine 0 l at long x
      none at long (got a after rest) (g, u, v, e) = absurd (f a g)
      none at long (stop k place) h = h

  -- ---- a judged value

  judged_decides : (k : ℕ) (good : A → Bool) (at n : ℕ) (bytes : List ℕ) → l < n
      → judged k good r at (take n bytes) ≡ cut (at + n) (judged k good r at bytes)
  unfolding judged
  judged_decides k good at n bytes i = rw (b.decides at n bytes i) (cuts (r at bytes))
    where
      chosen : (a : A) (after : ℕ) (rest : List ℕ) (t : Bool)
          → cond t (got a after (take (at + n - after) rest)) (stop k at) ≡ cut (at + n) (cond t (got a after rest) (stop k at))
      chosen a after rest true = refl
      chosen a after rest false = refl

      cuts : (x : Read A)
          → (go_on (cut (at + n) x) λ a after rest. cond (good a) (got a after rest) (stop k at))
          ≡ cut (at + n) (go_on x λ a after rest. cond (good a) (got a after rest) (stop k at))
      cuts (got a after rest) = unfold go_on in chosen a after rest (good a)
      cuts (stop j place) = unfold go_on in refl

  pub bounded_judged : (k : ℕ) (good : A → Bool) → Numbered k → Bounded (judged k good r) (λ a. T (good a)) m l
  bounded_judged k good h = record {
    within = λ at bytes. unfold judged in inside at (length bytes) (r at bytes) (b.within at bytes);
    decides = judged_decides k good;
  }
    where
      inside : (at long : ℕ) (x : Read A) → Within Good m l at long x
          → Within (λ a. T (good a)) m l at long (go_on x λ a after rest. cond (good a) (got a after rest) (stop k at))
      inside at long (got a after rest) (g, u, v, e) =
          unfold go_on in picked (Within (λ a. T (good a)) m l at long) (good a) (λ t. (t, u, v, e)) (λ t. (h, omega arith, omega arith))
      inside at long (stop j place) w = unfold go_on in w

-- ---- one reader, then another

module _ {A B : Type 0} {r : Reader A} {f : A → Reader B} {Good : A → Type 0} {Fine : B → Type 0} {m₁ l₁ m₂ l₂ : ℕ} where
  -- the first looks no further than both together
  pub bounded_then : l₁ ≤ m₁ + l₂ → Bounded r Good m₁ l₁ → ((a : A) → Good a → Bounded (f a) Fine m₂ l₂) → Bounded (◌>>=◌ r f) Fine (m₁ + m₂) (m₁ + l₂)
  bounded_then h b c = record {
    within = λ at bytes. unfold ◌>>=◌ in inside at (length bytes) (r at bytes) (b.within at bytes);
    decides = λ at n bytes l. unfold ◌>>=◌ in rw (b.decides at n bytes (omega arith)) (cuts at n bytes l (r at bytes) (b.within at bytes));
  }
    where
      wider : (at after long : ℕ) (rest : List ℕ) → at ≤ after → after ≤ at + m₁ → at + long ≡ after + length rest → (x : Read B)
          → Within Fine m₂ l₂ after (length rest) x → Within Fine (m₁ + m₂) (m₁ + l₂) at long x
      wider at after long rest u v e (got y end more) (g, w, z, q) = (g, omega arith, omega arith, omega arith)
      wider at after long rest u v e (stop k place) (p, w, z) = (p, omega arith, omega arith)

      inside : (at long : ℕ) (x : Read A) → Within Good m₁ l₁ at long x → Within Fine (m₁ + m₂) (m₁ + l₂) at long (go_on x f)
      inside at long (got a after rest) (g, u, v, e) = unfold go_on in wider at after long rest u v e (f a after rest) ((c a g).within after rest)
      inside at long (stop k place) (p, w, z) = unfold go_on in (p, omega arith, omega arith)

      cuts : (at n : ℕ) (bytes : List ℕ) → m₁ + l₂ < n → (x : Read A) → Within Good m₁ l₁ at (length bytes) x
          → go_on (cut (at + n) x) f ≡ cut (at + n) (go_on x f)
      cuts at n bytes l (got a after rest) (g, u, v, e) =
          unfold go_on in
          (c a g).decides after (at + n - after) rest (omega arith)
          ∙ ap (λ (k : ℕ). cut k (f a after rest)) (let e : after + (at + n - after) ≡ at + n = omega arith in e)
      cuts at n bytes l (stop k place) h = unfold go_on in refl

-- one where a command comes next, or another
pub bounded_next : {A : Type 0} {r other : Reader A} {Good : A → Type 0} {most last : ℕ} (code : ℕ) → Bounded r Good most last
    → Bounded other Good most last → Bounded (on_next code r other) Good most last
bounded_next {A} {r} {other} {Good} {most} {last} code b c = record { within = within; decides = decides }
  where
    within : (at : ℕ) (bytes : List ℕ) → Within Good most last at (length bytes) (on_next code r other at bytes)
    within at [] = unfold on_next in c.within at []
    within at (x ∷ bytes) =
        unfold on_next in
        picked (Within Good most last at (suc (length bytes))) (eqb x code) (λ t. b.within at (x ∷ bytes)) (λ t. c.within at (x ∷ bytes))

    decides : (at n : ℕ) (bytes : List ℕ) → last < n → on_next code r other at (take n bytes) ≡ cut (at + n) (on_next code r other at bytes)
    decides at zero bytes l = absurd (omega arith)
    decides at (suc n) [] l = unfold on_next in c.decides at (suc n) [] l
    decides at (suc n) (x ∷ bytes) l = unfold on_next in chosen (eqb x code)
      where
        chosen : (t : Bool)
            → cond t (r at (x ∷ take n bytes)) (other at (x ∷ take n bytes)) ≡ cut (at + suc n) (cond t (r at (x ∷ bytes)) (other at (x ∷ bytes)))
        chosen true = b.decides at (suc n) (x ∷ bytes) l
        chosen false = c.decides at (suc n) (x ∷ bytes) l

pub bounded_two : (k : ℕ) → Numbered k → Bounded (two_byte_number k) (λ v. Unit {0}) 2 2
unfolding two_byte_number
bounded_two k h =
    bounded_then (omega arith) (bounded_judged bounded_byte k is_byte h) (λ low t.
    bounded_then (omega arith) bounded_byte (λ high t. bounded_done (low + 256 * high) tt))

-- ---- operands and commands

-- an operand of one byte
pub bounded_operand : (k : ℕ) (good : ℕ → Bool) → Numbered k → Bounded (judged k good byte) (λ b. T (good b)) 1 0
bounded_operand k good h = bounded_judged bounded_byte k good h

pub bounded_command : (code : ℕ) → Bounded (command_byte code) (λ b. T (eqb b code)) 1 0
unfolding command_byte
bounded_command code = bounded_operand 3 (λ b. eqb b code) (unfold any_passes in tt)

-- a command with its operand
pub bounded_with : {A : Type 0} {r : Reader A} {Good : A → Type 0} {most last : ℕ} (code : ℕ) → Bounded r Good most last
    → Bounded (with_operand code r) Good (1 + most) (1 + last)
unfolding with_operand
bounded_with code b = bounded_then (omega arith) (bounded_command code) (λ c t. b)

-- a command that is there or not
pub bounded_flag : (code k : ℕ) (allowed : Bool) → Numbered k → Bounded (flag code k allowed) (λ b. Unit {0}) 1 1
unfolding flag
bounded_flag code k allowed h =
    bounded_next code
    (bounded_then (omega arith) (bounded_judged (bounded_command code) k (λ c. allowed) h) (λ c t. bounded_done true tt))
    (bounded_wider (bounded_done false tt) (omega arith) (omega arith))
