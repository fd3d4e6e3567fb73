-- The coefficients of a sheet, read and written: the one stage of a sheet that is a loop.
-- Proves that what is read is a good sheet's polynomial with its own bytes, that a good sheet's coefficients are read again, and that the room of the
-- definition never decides. Assumes nothing.
use Rattle.std.specs.Prelude.{◌≡◌, refl, length, get_or, take, set, replicate, T}
use Rattle.std.proofs.Common.{sym, ◌∙◌, ap₂, ⊎_elim, eq-or-lt_of_le, length-append, get_or-set_same, get_or-set_other}
use Rattle.std.proofs.Math.Path.{ap, subst, ◌≡⟨◌⟩◌, ◌∎}
use mathlib.Core.List.{List, [], ◌∷◌, ◌++◌, append_assoc, append-nil, flat_map}
use Prim.Native.Nat.{ℕ, zero, suc, ◌≤◌, ◌<◌, ◌+◌}
use native.Mathlib.Omega.{arith}
use Rattle.std.proofs.Math.ListN.{length-set}
use Rattle.std.proofs.lemmas.List.{take-set-le, set_at}
use Rattle.std.proofs.Math.Seq.{append_snoc}
use Rattle.specification.specs.Limits.{taken, degree_limit, ◌²}
use Rattle.specification.specs.Polynomials.{Poly, degree, lower, monomial}
use Rattle.specification.specs.Commands.{command_bytes, bytes_of}
use Rattle.specification.specs.Reading.{got, done, command_byte}
use Rattle.specification.specs.Coefficients.{
  coefficient_code,
  value_bytes,
  coefficient_command,
  coefficient_commands,
  index_operand,
  value_operand,
  coefficients,
}
use Rattle.specification.specs.Sheets.{Sheet, sheet_of}
use Rattle.specification.specs.SheetClaims.{GoodSheet}
use Rattle.algebra.specs.ListShapes.{degree_monomial}
use Rattle.layouts.specs.ReaderLaws.{
  Holds,
  holds_then,
  holds_next,
  then_same,
  next_same,
  then_goes,
  command_sound,
  command_goes,
  next_goes,
  Other,
  other_goes,
}
use Rattle.layouts.specs.Operands.{index_passes, index_within, value_passes, value_within, index_exact, value_exact}
use Rattle.layouts.specs.CoefficientBytes.{
  coefficient_bytes,
  coefficient_bytes_next,
  coefficient_bytes_zero,
  coefficient_bytes_one,
  coefficient_bytes_skip,
  coefficient_bytes_cons,
  length_lower,
  lower_top,
  lower_reduced,
}
use Rattle.layouts.specs.GoodSheets.{monomial_low, monomial_good, set_good}

-- ---- read

-- the coefficients below `least` are those of the bytes w, and the others below the top are 0
record Begun (s : Sheet) (least : ℕ) (w : List ℕ) : Type 0 where
  good : GoodSheet s
  within : least ≤ degree s.poly
  zeros : (i : ℕ) → least ≤ i → i < degree s.poly → get_or s.poly i 0 ≡ 0
  bytes : w ≡ coefficient_bytes s.prime 0 (take least s.poly)

begun_none : (p n : ℕ) → T (taken p) → 0 < n → n ≤ degree_limit → Begun (sheet_of p (monomial n)) 0 []
begun_none p n t l u = record {
  good = monomial_good p n t l u;
  within = omega arith;
  zeros = λ i k h. monomial_low n i (omega (arith, degree_monomial n));
  bytes = unfold bytes_of coefficient_commands flat_map in refl;
}

begun_zero : {s : Sheet} {i : ℕ} {w : List ℕ} → Begun s i w → i < degree s.poly → Begun s (suc i) w
begun_zero {s} {i} {w} b l = record {
  good = b.good;
  within = l;
  zeros = λ j k h. b.zeros j (omega arith) h;
  bytes = b.bytes ∙ sym nothing;
}
  where
    before : List ℕ
    before = coefficient_bytes s.prime 0 (take i s.poly)

    nothing : coefficient_bytes s.prime 0 (take (suc i) s.poly) ≡ coefficient_bytes s.prime 0 (take i s.poly)
    nothing =
        coefficient_bytes_next s.prime s.poly i (omega arith)
        ∙ ap (λ (a : ℕ). before ++ coefficient_bytes s.prime i (a ∷ [])) (b.zeros i (omega arith) l)
        ∙ ap (λ (c : List ℕ). before ++ c) (coefficient_bytes_zero s.prime i) ∙ append-nil before

begun_later : {s : Sheet} {least : ℕ} {w : List ℕ} → Begun s least w → (i : ℕ) → least ≤ i → i ≤ degree s.poly → Begun s i w
begun_later {s} {least} {w} b zero l u = subst (λ (k : ℕ). Begun s k w) (let e : least ≡ 0 = omega arith in e) b
begun_later {s} {least} {w} b (suc i) l u =
    ⊎_elim (λ e. subst (λ (k : ℕ). Begun s k w) e b) (λ h. begun_zero (begun_later b i (omega arith) (omega arith)) u) (eq-or-lt_of_le l)

begun_set : {s : Sheet} {i : ℕ} {w : List ℕ} → Begun s i w → i < degree s.poly → (v : ℕ) → 0 < v → v < s.prime ²
    → Begun (sheet_of s.prime (set s.poly i v)) (suc i) (w ++ command_bytes (coefficient_command s.prime i v))
begun_set {s} {i} {w} b h v l u = record {
  good = set_good s i v b.good h u;
  within = omega (arith, length-set s.poly i v);
  zeros = λ j k m. get_or-set_other s.poly i j v 0 (omega arith) ∙ b.zeros j (omega arith) (omega (arith, length-set s.poly i v));
  bytes = ap (λ (x : List ℕ). x ++ command_bytes (coefficient_command s.prime i v)) b.bytes ∙ sym one;
}
  where
    p : ℕ
    p = s.prime

    one : coefficient_bytes p 0 (take (suc i) (set s.poly i v)) ≡ coefficient_bytes p 0 (take i s.poly) ++ command_bytes (coefficient_command p i v)
    one =
        coefficient_bytes_next p (set s.poly i v) i (omega (arith, length-set s.poly i v))
        ∙ ap₂ (λ (f : Poly) (a : ℕ). coefficient_bytes p 0 f ++ coefficient_bytes p i (a ∷ []))
        (take-set-le i s.poly i v (omega arith)) (get_or-set_same s.poly i v 0 (omega arith))
        ∙ ap (λ (c : List ℕ). coefficient_bytes p 0 (take i s.poly) ++ c) (coefficient_bytes_one p i v l)

-- a good sheet of the prime p and the degree d, with its coefficients' bytes before `rest`
abbrev Coefficients : ℕ → ℕ → List ℕ → Poly → ℕ → List ℕ → Type 0
Coefficients p d x f after rest = GoodSheet (sheet_of p f) × (degree f ≡ d) × (x ≡ coefficient_bytes p 0 (lower f) ++ rest)

-- no coefficient command is taken
begun_done : {p d : ℕ} {f : Poly} {least : ℕ} {w : List ℕ} → degree f ≡ d → Begun (sheet_of p f) least w → (at : ℕ) (bytes : List ℕ)
    → Holds (Coefficients p d (w ++ bytes)) (done f at bytes)
begun_done {f = f} e b at bytes =
    unfold done in (b.good, e, ap (λ (x : List ℕ). x ++ bytes) (begun_later b (degree f) b.within (omega arith)).bytes)

module _ (p d : ℕ) where
  reads : (room least : ℕ) (f : Poly) (w : List ℕ) → degree f ≡ d → Begun (sheet_of p f) least w → (at : ℕ) (bytes : List ℕ)
      → Holds (Coefficients p d (w ++ bytes)) (coefficients room p least f at bytes)
  unfolding coefficients
  reads zero least f w e b at bytes = begun_done e b at bytes
  reads (suc room) least f w e b at bytes =
      let C = Coefficients p d (w ++ bytes) in
      holds_next C (coefficient_code p) _ (done f) at bytes
      (holds_then C (command_byte (coefficient_code p)) _ at bytes (command_sound (coefficient_code p) at bytes) (λ c at₁ rest₁ e₁.
      holds_then C (index_operand (degree f) least) _ at₁ rest₁ ((index_exact (degree f) least).sound at₁ rest₁) (λ i at₂ rest₂ (t, e₂).
      holds_then C (value_operand p) _ at₂ rest₂ ((value_exact p).sound at₂ rest₂) (λ v at₃ rest₃ (q, e₃).
      let (low, l) = index_within (degree f) least i t in
      let (positive, small) = value_within p v q in
      let next = begun_set (begun_later b i l (omega arith)) low v positive small in
      let command : List ℕ = command_bytes (coefficient_command p i v) in
      let read : bytes ≡ command ++ rest₃ = e₁ ∙ ap (λ (x : List ℕ). coefficient_code p ∷ x) (e₂ ∙ ap (λ (x : List ℕ). i ∷ x) e₃) in
      subst (λ (x : List ℕ). Holds (Coefficients p d x) (coefficients room p (suc i) (set f i v) at₃ rest₃))
      (append_assoc w command rest₃ ∙ ap (λ (x : List ℕ). w ++ x) (sym read))
      (reads room (suc i) (set f i v) (w ++ command) (omega (arith, length-set f i v)) next at₃ rest₃)))))
      (begun_done e b at bytes)

-- what follows the degree n of a sheet with the prime p
pub coefficients_sound : (p n : ℕ) → T (taken p) → 0 < n → n ≤ degree_limit → (at : ℕ) (bytes : List ℕ)
    → Holds (Coefficients p n bytes) (coefficients (suc n) p 0 (monomial n) at bytes)
coefficients_sound p n t l u at bytes = reads p n (suc n) 0 (monomial n) [] (degree_monomial n) (begun_none p n t l u) at bytes

-- ---- written

-- one coefficient
coefficient_goes : (p : ℕ) (f : Poly) (room least i v at : ℕ) (more : List ℕ) → i < degree f → least ≤ i → 0 < v → v < p ²
    → coefficients (suc room) p least f at (coefficient_code p ∷ i ∷ (value_bytes p v ++ more))
    ≡ coefficients room p (suc i) (set f i v) (suc at + 1 + length (value_bytes p v)) more
unfolding coefficients
coefficient_goes p f room least i v at more low l positive small =
    next_goes (coefficient_code p) _ _ at (i ∷ (value_bytes p v ++ more))
    ∙ then_goes (command_byte (coefficient_code p)) _ (command_goes (coefficient_code p) at (i ∷ (value_bytes p v ++ more)))
    ∙ then_goes (index_operand (degree f) least) _
    ((index_exact (degree f) least).complete (suc at) i (value_bytes p v ++ more) (index_passes (degree f) least i low l))
    ∙ then_goes (value_operand p) _ ((value_exact p).complete (suc at + 1) v more (value_passes p v positive small))

-- none is left
pub none_left : (p : ℕ) (f : Poly) (room least at : ℕ) (rest : List ℕ) → Other (coefficient_code p) rest
    → coefficients (suc room) p least f at rest ≡ got f at rest
unfolding coefficients done
none_left p f room least at rest o = other_goes (coefficient_code p) _ (done f) at rest o

-- the coefficients a are read, t is to come, and then `rest`
goes : (p : ℕ) (a t : Poly) (room i least at : ℕ) (rest : List ℕ) → length a ≡ i → least ≤ i → length t < room
    → ((k : ℕ) → k < length t → get_or t k 0 < p ²) → Other (coefficient_code p) rest
    → coefficients room p least (a ++ monomial (length t)) at (coefficient_bytes p i t ++ rest)
    ≡ got (a ++ (t ++ (1 ∷ []))) (at + length (coefficient_bytes p i t)) rest
goes p a [] zero i least at rest e l r h o = absurd (omega arith)
goes p a [] (suc room) i least at rest e l r h o =
    unfold bytes_of coefficient_commands flat_map in
    none_left p (a ++ (1 ∷ [])) room least at rest o ∙ ap (λ (k : ℕ). got (a ++ (1 ∷ [])) k rest) (let q : at ≡ at + 0 = omega arith in q)
goes p a (zero ∷ t) room i least at rest e l r h o =
    ap₂ (λ (f : Poly) (bytes : List ℕ). coefficients room p least f at (bytes ++ rest))
    (sym (append_snoc a 0 (monomial (length t)))) (coefficient_bytes_skip p i t)
    ∙ goes p (a ++ (0 ∷ [])) t room (suc i) least at rest (length-append a (0 ∷ []) ∙ omega arith) (omega arith) (omega arith)
    (λ k u. h (suc k) (omega arith)) o
    ∙ ap₂ (λ (f : Poly) (bytes : List ℕ). got f (at + length bytes) rest) (append_snoc a 0 (t ++ (1 ∷ []))) (sym (coefficient_bytes_skip p i t))
goes p a (suc v ∷ t) zero i least at rest e l r h o = absurd (omega arith)
goes p a (suc v ∷ t) (suc room) i least at rest e l r h o =
    coefficients (suc room) p least f at (coefficient_bytes p i (suc v ∷ t) ++ rest)
    ≡⟨ ap (coefficients (suc room) p least f at) bytes ⟩
    coefficients (suc room) p least f at (coefficient_code p ∷ i ∷ (value_bytes p (suc v) ++ (more ++ rest)))
    ≡⟨ coefficient_goes p f room least i (suc v) at (more ++ rest) low l (omega arith) (h 0 (omega arith)) ⟩
    coefficients room p (suc i) (set f i (suc v)) after (more ++ rest)
    ≡⟨ ap (λ (g : Poly). coefficients room p (suc i) g after (more ++ rest)) stored ⟩
    coefficients room p (suc i) ((a ++ (suc v ∷ [])) ++ monomial (length t)) after (more ++ rest)
    ≡⟨ goes p (a ++ (suc v ∷ [])) t room (suc i) (suc i) after rest (length-append a (suc v ∷ []) ∙ omega arith) (omega arith) (omega arith)
    (λ k u. h (suc k) (omega arith)) o ⟩
    got ((a ++ (suc v ∷ [])) ++ (t ++ (1 ∷ []))) (after + length more) rest
    ≡⟨ ap₂ (λ (g : Poly) (k : ℕ). got g k rest) (append_snoc a (suc v) (t ++ (1 ∷ []))) ends ⟩
    got (a ++ (suc v ∷ (t ++ (1 ∷ [])))) (at + length (coefficient_bytes p i (suc v ∷ t))) rest ∎
  where
    f : Poly
    f = a ++ (0 ∷ monomial (length t))

    more : List ℕ
    more = coefficient_bytes p (suc i) t

    after : ℕ
    after = suc at + 1 + length (value_bytes p (suc v))

    bytes : coefficient_bytes p i (suc v ∷ t) ++ rest ≡ coefficient_code p ∷ i ∷ (value_bytes p (suc v) ++ (more ++ rest))
    bytes = rw (coefficient_bytes_cons p i v t, append_assoc (value_bytes p (suc v)) more rest)

    low : i < degree f
    low = omega (arith, length-append a (0 ∷ monomial (length t)), length-append {A = ℕ} (replicate (length t) 0) (1 ∷ []))

    stored : set f i (suc v) ≡ (a ++ (suc v ∷ [])) ++ monomial (length t)
    stored = set_at a 0 (monomial (length t)) (suc v) i e ∙ sym (append_snoc a (suc v) (monomial (length t)))

    ends : after + length more ≡ at + length (coefficient_bytes p i (suc v ∷ t))
    ends = omega (arith, ap length (coefficient_bytes_cons p i v t), length-append (value_bytes p (suc v)) more)

-- the coefficients of a good sheet, and then another command
pub coefficients_complete : (s : Sheet) → GoodSheet s → (at : ℕ) (rest : List ℕ) → Other (coefficient_code s.prime) rest
    → let bytes : List ℕ = coefficient_bytes s.prime 0 (lower s.poly) in
    coefficients (suc (degree s.poly)) s.prime 0 (monomial (degree s.poly)) at (bytes ++ rest) ≡ got s.poly (at + length bytes) rest
coefficients_complete s g at rest o =
    let p : ℕ = s.prime in
    let f : Poly = s.poly in
    ap (λ (k : ℕ). coefficients (suc (degree f)) p 0 (monomial k) at (coefficient_bytes p 0 (lower f) ++ rest)) (sym (length_lower f))
    ∙ goes p [] (lower f) (suc (degree f)) 0 0 at rest refl (omega arith) (omega (arith, length_lower f))
    (lower_reduced f g.monic) o
    ∙ ap (λ (h : Poly). got h (at + length (coefficient_bytes p 0 (lower f))) rest) (lower_top f g.monic)

-- ---- the room

-- "any number of 0x03": indices rise below the degree, so more room than there are indices changes nothing
more_room : (room p least : ℕ) (f : Poly) → least ≤ degree f → degree f < room + least → (at : ℕ) (bytes : List ℕ)
    → coefficients room p least f at bytes ≡ coefficients (suc room) p least f at bytes
unfolding coefficients
more_room zero p least f l h at bytes = absurd (omega arith)
more_room (suc room) p least f l h at bytes =
    next_same (coefficient_code p) _ _ (done f) at bytes
    (then_same (command_byte (coefficient_code p)) _ _ at bytes (command_sound (coefficient_code p) at bytes) (λ c at₁ rest₁ e.
    then_same (index_operand (degree f) least) _ _ at₁ rest₁ ((index_exact (degree f) least).sound at₁ rest₁) (λ i at₂ rest₂ (t, e).
    let (low, risen) = index_within (degree f) least i t in
    then_same (value_operand p) _ _ at₂ rest₂ ((value_exact p).sound at₂ rest₂) (λ v at₃ rest₃ e.
    more_room room p (suc i) (set f i v) (omega (arith, length-set f i v)) (omega (arith, length-set f i v)) at₃ rest₃))))

pub room_decides_nothing : (k p n at : ℕ) (bytes : List ℕ)
    → coefficients (suc n) p 0 (monomial n) at bytes ≡ coefficients (k + suc n) p 0 (monomial n) at bytes
room_decides_nothing zero p n at bytes = ap (λ (room : ℕ). coefficients room p 0 (monomial n) at bytes) (let e : suc n ≡ 0 + suc n = omega arith in e)
room_decides_nothing (suc k) p n at bytes =
    room_decides_nothing k p n at bytes
    ∙ more_room (k + suc n) p 0 (monomial n) (omega arith) (omega (arith, degree_monomial n)) at bytes
    ∙ ap (λ (room : ℕ). coefficients room p 0 (monomial n) at bytes) (let e : suc (k + suc n) ≡ suc k + suc n = omega arith in e)
