-- The bytes of the commands of a coefficient list, and the list below the top, for which they are written.
-- Proves what holds of coefficients of one byte and of two, how the bytes of two lists stand together, how many they are and that each is a byte, and
-- that a monic list is what stands below the top and then 1. Assumes nothing.
use Rattle.std.specs.Prelude.{◌≡◌, refl, Bool, true, false, cond, length, get_or, take, drop}
use Rattle.std.proofs.Common.{sym, ◌∙◌, ap, add-zero, zero-add, suc-add, add-suc, length-append, get_or-take, length-take-le, take-suc}
use mathlib.Core.List.{List, [], ◌∷◌, ◌++◌, append-nil, flat_map}
use Prim.Native.Nat.{ℕ, zero, suc, ◌<◌, ◌≤◌, ◌+◌, ◌*◌}
use native.Mathlib.Omega.{arith}
use Rattle.specification.specs.Polynomials.{Poly, degree, lower}
use Rattle.specification.specs.Commands.{Command, command, command_bytes, two_bytes, bytes_of}
use Rattle.specification.specs.Coefficients.{coefficient_code, is_coefficient, value_bytes, value_of, coefficient_command, coefficient_commands}
use Rattle.specification.specs.Longest as claimed
use Rattle.specification.specs.Limits.{wide, ◌²}
use Rattle.algebra.specs.TakenPrimes.{square_fits_byte}
use Rattle.lists.specs.Members.{All, all_cons}
use Rattle.lists.specs.Ends.{then, last_again}
use Rattle.layouts.specs.CommandBytes.{Byte, byte_none, ByteCommand, bytes_of_append, bytes_two, two_back}

-- ---- one value, of one byte or of two

module _ (p v : ℕ) where
  -- what holds of both widths holds of a coefficient's command, whatever the prime
  pub either_width : (C : Command → Type 0) (i : ℕ) → (wide p ≡ false → C (command 0x03 (i ∷ v ∷ []))) → (wide p ≡ true → C (command 0x05 (i ∷ two_bytes v)))
      → C (coefficient_command p i v)
  either_width C i one two = by (wide p) refl
    where
      by : (w : Bool) → wide p ≡ w → C (command (cond w 0x05 0x03) (i ∷ cond w (two_bytes v) (v ∷ [])))
      by false e = one e
      by true e = two e

  pub value_one : wide p ≡ false → v ∷ [] ≡ value_bytes p v
  value_one e = rw e refl

  pub value_two : wide p ≡ true → two_bytes v ≡ value_bytes p v
  value_two e = rw e refl

  -- found again
  pub value_back : value_of (value_bytes p v) ≡ v
  value_back = either_width (λ c. value_of (drop 1 c.operands) ≡ v) 0 (λ e. omega arith) (λ e. two_back v)

  pub is_coefficient_lem : (i : ℕ) → is_coefficient (coefficient_command p i v) ≡ true
  is_coefficient_lem i = either_width (λ c. is_coefficient c ≡ true) i (λ e. refl) (λ e. refl)

-- the most bytes of a coefficient's command: code, index and value
abbrev pub coefficient_room : ℕ
coefficient_room = 4

length_value : (p v : ℕ) → 2 + length (value_bytes p v) ≤ coefficient_room
length_value p v = either_width p v (λ c. 2 + length (drop 1 c.operands) ≤ coefficient_room) 0 (λ e. omega arith) (λ e. omega arith)

byte_coefficient : (p i v : ℕ) → p ² ≤ 65536 → v < p ² → Byte i → ByteCommand (coefficient_command p i v)
byte_coefficient p i v small l low =
    either_width p v ByteCommand i
    (λ e. all_cons (omega arith) (all_cons low (all_cons (omega (arith, square_fits_byte p e)) byte_none)))
    (λ e. all_cons (omega arith) (all_cons low (bytes_two v (omega arith))))

-- ---- the commands of a list

commands_append : (p i : ℕ) (f g : Poly) → coefficient_commands p i (f ++ g) ≡ coefficient_commands p i f ++ coefficient_commands p (i + length f) g
unfolding coefficient_commands
commands_append p i [] g = ap (λ k. coefficient_commands p k g) (sym (add-zero i))
commands_append p i (zero ∷ f) g =
    commands_append p (suc i) f g ∙ ap (λ k. coefficient_commands p (suc i) f ++ coefficient_commands p k g) (suc-add i (length f) ∙ sym (add-suc i (length f)))
commands_append p i (suc a ∷ f) g =
    ap (λ (cs : List Command). coefficient_command p i (suc a) ∷ cs)
    (commands_append p (suc i) f g ∙ ap (λ k. coefficient_commands p (suc i) f ++ coefficient_commands p k g) (suc-add i (length f) ∙ sym (add-suc i (length f))))

module _ (C : Command → Type 0) (p : ℕ) where
  -- what is said of the commands that f would have with its zeros, from index i on
  abbrev pub Each : ℕ → Poly → Type 0
  Each i f = (k : ℕ) → k < length f → C (coefficient_command p (i + k) (get_or f k 0))

  each_tail : (i a : ℕ) (f : Poly) → Each i (a ∷ f) → Each (suc i) f
  each_tail i a f h k l = rw (let e : suc i + k ≡ i + suc k = omega arith in e) (h (suc k) (omega arith))

  pub all_coefficients_in : (i : ℕ) (f : Poly) → Each i f → All C (coefficient_commands p i f)
  unfolding coefficient_commands
  all_coefficients_in i [] h = λ c k. elim k [ ]
  all_coefficients_in i (zero ∷ f) h = all_coefficients_in (suc i) f (each_tail i zero f h)
  all_coefficients_in i (suc a ∷ f) h =
      all_cons (rw (let e : i + 0 ≡ i = omega arith in e) at (h 0 (omega arith))) (all_coefficients_in (suc i) f (each_tail i (suc a) f h))

  -- what holds of any
  pub all_coefficients_lem : (i : ℕ) (f : Poly) → ((i v : ℕ) → C (coefficient_command p i v)) → All C (coefficient_commands p i f)
  all_coefficients_lem i f h = all_coefficients_in i f (λ k l. h (i + k) (get_or f k 0))

-- their bytes, from index i on
abbrev pub coefficient_bytes : ℕ → ℕ → Poly → List ℕ
coefficient_bytes p i f = bytes_of (coefficient_commands p i f)

-- one coefficient more
pub coefficient_bytes_next : (p : ℕ) (f : Poly) (i : ℕ) → i < length f
    → coefficient_bytes p 0 (take (suc i) f) ≡ coefficient_bytes p 0 (take i f) ++ coefficient_bytes p i (get_or f i 0 ∷ [])
coefficient_bytes_next p f i l =
    ap (coefficient_bytes p 0) (take-suc f i 0 l)
    ∙ ap bytes_of (commands_append p 0 (take i f) (get_or f i 0 ∷ []))
    ∙ bytes_of_append (coefficient_commands p 0 (take i f)) (coefficient_commands p (0 + length (take i f)) (get_or f i 0 ∷ []))
    ∙ ap (λ k. coefficient_bytes p 0 (take i f) ++ coefficient_bytes p k (get_or f i 0 ∷ [])) (zero-add (length (take i f)) ∙ length-take-le i f (omega arith))

pub coefficient_bytes_none : (p i : ℕ) → coefficient_bytes p i [] ≡ []
unfolding coefficient_commands bytes_of flat_map
coefficient_bytes_none p i = refl

-- 0 is not written
pub coefficient_bytes_skip : (p i : ℕ) (f : Poly) → coefficient_bytes p i (0 ∷ f) ≡ coefficient_bytes p (suc i) f
unfolding coefficient_commands
coefficient_bytes_skip p i f = refl

pub coefficient_bytes_cons : (p i v : ℕ) (f : Poly)
    → coefficient_bytes p i (suc v ∷ f) ≡ coefficient_code p ∷ i ∷ (value_bytes p (suc v) ++ coefficient_bytes p (suc i) f)
unfolding coefficient_commands bytes_of flat_map
coefficient_bytes_cons p i v f = refl

-- one coefficient alone
pub coefficient_bytes_zero : (p i : ℕ) → coefficient_bytes p i (0 ∷ []) ≡ []
coefficient_bytes_zero p i = coefficient_bytes_skip p i [] ∙ coefficient_bytes_none p (suc i)

pub coefficient_bytes_one : (p i v : ℕ) → 0 < v → coefficient_bytes p i (v ∷ []) ≡ command_bytes (coefficient_command p i v)
coefficient_bytes_one p i zero l = absurd (omega arith)
coefficient_bytes_one p i (suc v) l =
    coefficient_bytes_cons p i v []
    ∙ ap (λ (bytes : List ℕ). coefficient_code p ∷ i ∷ (value_bytes p (suc v) ++ bytes)) (coefficient_bytes_none p (suc i))
    ∙ append-nil (command_bytes (coefficient_command p i (suc v)))

-- ---- how many, and how large

module _ (p : ℕ) where
  pub length_coefficients : (i : ℕ) (f : Poly) → length (coefficient_bytes p i f) ≤ coefficient_room * length f
  length_coefficients i [] = omega (arith, ap length (coefficient_bytes_none p i))
  length_coefficients i (zero ∷ f) = omega (arith, length_coefficients (suc i) f, ap length (coefficient_bytes_skip p i f))
  length_coefficients i (suc a ∷ f) =
      omega (
        arith,
        length_coefficients (suc i) f,
        ap length (coefficient_bytes_cons p i a f),
        length-append (value_bytes p (suc a)) (coefficient_bytes p (suc i) f),
        length_value p (suc a),
      )

  pub byte_coefficients : (i : ℕ) (f : Poly) → p ² ≤ 65536 → i + length f ≤ 256 → ((k : ℕ) → k < length f → get_or f k 0 < p ²)
      → All ByteCommand (coefficient_commands p i f)
  byte_coefficients i f small l h =
      all_coefficients_in ByteCommand p i f (λ k u. byte_coefficient p (i + k) (get_or f k 0) small (h k u) (omega arith))

-- ---- below the top

pub length_lower : (f : Poly) → length (lower f) ≡ degree f
length_lower f = length-take-le (degree f) f (omega arith)

-- "leading coefficient 1": the top is all that is not written
pub lower_top : {n : ℕ} (f : Poly) → claimed.Monic n f → lower f ++ (1 ∷ []) ≡ f
lower_top f m =
    ap (then (lower f)) (sym m.leads_with_one) ∙ sym (last_again (degree f) f 0 (omega (arith, m.positive)))

pub lower_reduced : {n : ℕ} (f : Poly) → claimed.Monic n f → (k : ℕ) → k < length (lower f) → get_or (lower f) k 0 < n
lower_reduced f m k u = rw (get_or-take (degree f) f k 0 (omega (arith, length_lower f))) (m.reduced k (omega (arith, length_lower f)))
