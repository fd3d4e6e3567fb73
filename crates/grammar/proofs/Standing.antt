-- What the machine holds stands in the bytes read: `Reading s σ k`, by the state σ after the first k bytes.
-- Proves it of every state (`reads`), and that there is a line where a whole expression is held behind the last byte. Assumes nothing.
use Rattle.std.specs.Prelude.{◌≡◌, List, T, leb, eqb, length}
use Rattle.std.proofs.Math.Path.{refl}
use Rattle.std.proofs.Common.{sym, subst, ◌∙◌, le_refl, arith, leb→le, eqb→eq}
use Prim.Native.Nat.{ℕ, zero, suc, ◌+◌, ◌-◌, ◌*◌, ◌<◌, ◌≤◌}
use Rattle.std.proofs.Math.Decide.{ℕ_discrete, dec_lt}
use Rattle.specification.specs.Grammar as grammar
use Rattle.specification.specs.Grammar.{Tree, At, Blanks, Between, Number, first_digit, next_digit, Expression, one_product, Product, one_power}
use Rattle.specification.specs.Grammar.{Power, one_term, raised, Term, digits, x, brackets, Line, line}
use Rattle.lists.specs.Tests.{picked, left, right}
use Rattle.grammar.specs.Machine.{Context, bottom, bracket, sum, difference, product, NoProduct, Fresh, Held, multiplied, added, summed, closed}
use Rattle.grammar.specs.Machine.{State, start, prime, primed, wants, number, term, wants_exponent, exponent, powered, stuck}
use Rattle.grammar.specs.Machine.{is_digit, after_prime, after_power, after_term, step, after}
use Rattle.grammar.specs.Runs.{term_number, term_done, Ended, ended_term, ended_exponent, ended_powered, ExpressionRun}
use Rattle.grammar.proofs.Runs.{after_none, after_suc}

-- what the context holds stands before place k, and a term is due there
pub data Pending (s : List ℕ) : Context → ℕ → Type 0 where
  at_bottom : {i k p : ℕ} → Number s 0 i p → Between s i 58 k → Pending s (bottom p) k
  in_bracket : {i k : ℕ} {K : Context} → Pending s K i → At s i 40 → Blanks s (suc i) k → Pending s (bracket K) k
  in_sum : {i j k : ℕ} {K : Context} {a : Tree} → Pending s K i → Fresh K → Expression s i j a → Between s j 43 k → Pending s (sum K a) k
  in_difference : {i j k : ℕ} {K : Context} {a : Tree} → Pending s K i → Fresh K → Expression s i j a → Between s j 45 k → Pending s (difference K a) k
  in_product : {i j k : ℕ} {K : Context} {a : Tree} → Pending s K i → NoProduct K → Product s i j a → Between s j 42 k → Pending s (product K a) k

-- ---- blanks

pub no_blanks : {s : List ℕ} {i : ℕ} → Blanks s i i
no_blanks {i = i} = record { order = le_refl i; all = λ k l u. absurd (omega arith) }

pub one_blank : {s : List ℕ} {i j : ℕ} → Blanks s i j → At s j 32 → Blanks s i (suc j)
one_blank {s} {i} {j} w a = record { order = omega (arith, w.order); all = λ k l u. at k l u (ℕ_discrete k j) }
  where
    at : (k : ℕ) → i ≤ k → k < suc j → Dec (k ≡ j) → At s k 32
    at k l u (yes q) = rw q a
    at k l u (no q) = w.all k l (omega (arith, q))

-- a sign with nothing behind it yet, and with one blank more
pub sign_here : {s : List ℕ} {i k b : ℕ} → Blanks s i k → At s k b → Between s i b (suc k)
sign_here {k = k} w a = record { place = k; before = w; here = a; behind = no_blanks }

one_more : {s : List ℕ} {i k b : ℕ} → Between s i b k → At s k 32 → Between s i b (suc k)
one_more g a = record { place = g.place; before = g.before; here = g.here; behind = one_blank g.behind a }

later : {s : List ℕ} {K : Context} {k : ℕ} → Pending s K k → At s k 32 → Pending s K (suc k)
later (at_bottom n g) a = at_bottom n (one_more g a)
later (in_bracket w b d) a = in_bracket w b (one_blank d a)
later (in_sum w f v g) a = in_sum w f v (one_more g a)
later (in_difference w f v g) a = in_difference w f v (one_more g a)
later (in_product w f v g) a = in_product w f v (one_more g a)

-- ---- a power with the products and sums before it

pub record AsProduct (s : List ℕ) (h : Held) (j : ℕ) : Type 0 where
  from : ℕ
  pub pending : Pending s h.0 from
  pub none : NoProduct h.0
  pub stands : Product s from j h.1

record AsSum (s : List ℕ) (h : Held) (j : ℕ) : Type 0 where
  from : ℕ
  pending : Pending s h.0 from
  none : Fresh h.0
  stands : Expression s from j h.1

pub as_product : {s : List ℕ} {i j : ℕ} (K : Context) {t : Tree} → Pending s K i → Power s i j t → AsProduct s (multiplied K t) j
unfolding multiplied
as_product (bottom p) w v = record { from = _; pending = w; none = tt; stands = one_power v }
as_product (bracket K) w v = record { from = _; pending = w; none = tt; stands = one_power v }
as_product (sum K a) w v = record { from = _; pending = w; none = tt; stands = one_power v }
as_product (difference K a) w v = record { from = _; pending = w; none = tt; stands = one_power v }
as_product (product K a) (in_product w f u g) v = record { from = _; pending = w; none = f; stands = grammar.product u g v }

add_on : {s : List ℕ} {i j : ℕ} (K : Context) {t : Tree} → Pending s K i → NoProduct K → Product s i j t → AsSum s (added K t) j
unfolding added
add_on (bottom p) w f v = record { from = _; pending = w; none = tt; stands = one_product v }
add_on (bracket K) w f v = record { from = _; pending = w; none = tt; stands = one_product v }
add_on (sum K a) (in_sum w h u g) f v = record { from = _; pending = w; none = h; stands = grammar.sum u g v }
add_on (difference K a) (in_difference w h u g) f v = record { from = _; pending = w; none = h; stands = grammar.difference u g v }
add_on (product K a) w f v = absurd f

as_sum : {s : List ℕ} {i j : ℕ} (K : Context) {t : Tree} → Pending s K i → Power s i j t → AsSum s (summed K t) j
unfolding summed
as_sum K w v = let p = as_product K w v in add_on _ p.pending p.none p.stands

-- ---- what the machine holds stands in the bytes read

pub record TermRead (s : List ℕ) (K : Context) (t : Tree) (k : ℕ) : Type 0 where
  from : ℕ
  to : ℕ
  pending : Pending s K from
  stands : Term s from to t
  blanks : Blanks s to k

pub record PowerRead (s : List ℕ) (K : Context) (t : Tree) (k : ℕ) : Type 0 where
  from : ℕ
  to : ℕ
  pub pending : Pending s K from
  pub stands : Power s from to t
  pub blanks : Blanks s to k

pub record CaretRead (s : List ℕ) (K : Context) (t : Tree) (k : ℕ) : Type 0 where
  from : ℕ
  to : ℕ
  pending : Pending s K from
  stands : Term s from to t
  caret : Between s to 94 k

abbrev pub Reading : List ℕ → State → ℕ → Type 0
Reading s start k = k ≡ 0
Reading s (prime p) k = Number s 0 k p
Reading s (primed p) k = (i : ℕ) × Number s 0 i p × Blanks s i k
Reading s (wants K) k = Pending s K k
Reading s (number K n) k = (i : ℕ) × Pending s K i × Number s i k n
Reading s (term K t) k = TermRead s K t k
Reading s (wants_exponent K t) k = CaretRead s K t k
Reading s (exponent K t n) k = (i : ℕ) × CaretRead s K t i × Number s i k n
Reading s (powered K t) k = PowerRead s K t k
Reading s stuck k = Unit

-- one blank more
power_blank : {s : List ℕ} {K : Context} {t : Tree} {k : ℕ} → PowerRead s K t k → At s k 32 → PowerRead s K t (suc k)
power_blank r a = record { from = r.from; to = r.to; pending = r.pending; stands = r.stands; blanks = one_blank r.blanks a }

term_blank : {s : List ℕ} {K : Context} {t : Tree} {k : ℕ} → TermRead s K t k → At s k 32 → TermRead s K t (suc k)
term_blank r a = record { from = r.from; to = r.to; pending = r.pending; stands = r.stands; blanks = one_blank r.blanks a }

caret_blank : {s : List ℕ} {K : Context} {t : Tree} {k : ℕ} → CaretRead s K t k → At s k 32 → CaretRead s K t (suc k)
caret_blank r a = record { from = r.from; to = r.to; pending = r.pending; stands = r.stands; caret = one_more r.caret a }

caret_here : {s : List ℕ} {K : Context} {t : Tree} {k : ℕ} → TermRead s K t k → At s k 94 → CaretRead s K t (suc k)
caret_here r a = record { from = r.from; to = r.to; pending = r.pending; stands = r.stands; caret = sign_here r.blanks a }

-- a number that has been read is a term, and with its exponent a term is a power
pub number_read : {s : List ℕ} {K : Context} {i k n : ℕ} → Pending s K i → Number s i k n → TermRead s K (grammar.number n) k
number_read {i = i} {k} w v = record { from = i; to = k; pending = w; stands = digits v; blanks = no_blanks }

pub raised_read : {s : List ℕ} {K : Context} {t : Tree} {i k n : ℕ} → CaretRead s K t i → Number s i k n → PowerRead s K (grammar.power t n) k
raised_read {k = k} r w = record { from = r.from; to = k; pending = r.pending; stands = raised r.stands r.caret w; blanks = no_blanks }

pub as_power_lem : {s : List ℕ} {K : Context} {t : Tree} {k : ℕ} → TermRead s K t k → PowerRead s K t k
as_power_lem r = record { from = r.from; to = r.to; pending = r.pending; stands = one_term r.stands; blanks = r.blanks }

at_as : {s : List ℕ} {k b c : ℕ} → At s k b → b ≡ c → At s k c
at_as a e = record { inside = a.inside; is = a.is ∙ e }

-- the byte is a digit
digit_at : {s : List ℕ} {k b : ℕ} → At s k b → T (is_digit b) → (b - 48 < 10) × At s k (48 + (b - 48))
unfolding is_digit
digit_at {b = b} a e =
    let l : 48 ≤ b = leb→le 48 b (left (leb 48 b) (leb b 57) e) in
    let u : b ≤ 57 = leb→le b 57 (right (leb 48 b) (leb b 57) e) in
    (omega arith, at_as a (omega arith))

is_byte : {s : List ℕ} {k b : ℕ} (c : ℕ) → At s k b → T (eqb b c) → At s k c
is_byte {b = b} c a e = at_as a (eqb→eq b c e)

-- a bracket is closed
reads_closed : {s : List ℕ} {j k : ℕ} (h : Held) → AsSum s h j → Blanks s j k → At s k 41 → Reading s (closed h) (suc k)
unfolding closed
reads_closed (bottom p, t) r b a = tt
reads_closed {s} {k = k} (bracket K, t) r b a = at r.pending
  where
    at : Pending s (bracket K) r.from → TermRead s K t (suc k)
    at (in_bracket w c d) = record { from = _; to = suc k; pending = w; stands = brackets c d r.stands b a; blanks = no_blanks }
reads_closed (sum K a, t) r b c = tt
reads_closed (difference K a, t) r b c = tt
reads_closed (product K a, t) r b c = tt

module _ {s : List ℕ} {k b : ℕ} (a : At s k b) where
  abbrev P : State → Type 0
  P σ = Reading s σ (suc k)

  reads_prime : {p i : ℕ} → Number s 0 i p → Blanks s i k → P (after_prime p b)
  unfolding after_prime
  reads_prime {p} {i} n w =
      picked P (eqb b 32) (λ e. (i, n, one_blank w (is_byte 32 a e)))
      (λ _. picked P (eqb b 58) (λ e. at_bottom n (sign_here w (is_byte 58 a e))) (λ _. tt))

  reads_power : {K : Context} {t : Tree} → PowerRead s K t k → P (after_power K t b)
  unfolding after_power
  reads_power {K} {t} r =
      let p = as_product K r.pending r.stands in
      let q = as_sum K r.pending r.stands in
      picked P (eqb b 32) (λ e. power_blank r (is_byte 32 a e))
      (λ _. picked P (eqb b 42) (λ e. in_product p.pending p.none p.stands (sign_here r.blanks (is_byte 42 a e)))
      (λ _. picked P (eqb b 43) (λ e. in_sum q.pending q.none q.stands (sign_here r.blanks (is_byte 43 a e)))
      (λ _. picked P (eqb b 45) (λ e. in_difference q.pending q.none q.stands (sign_here r.blanks (is_byte 45 a e)))
      (λ _. picked P (eqb b 41) (λ e. reads_closed (summed K t) q r.blanks (is_byte 41 a e)) (λ _. tt)))))

  reads_term : {K : Context} {t : Tree} → TermRead s K t k → P (after_term K t b)
  unfolding after_term
  reads_term {K} {t} r =
      picked P (eqb b 94) (λ e. caret_here r (is_byte 94 a e))
      (λ _. picked P (eqb b 32) (λ e. term_blank r (is_byte 32 a e)) (λ _. reads_power (as_power_lem r)))

  first_digit_lem : {i : ℕ} → i ≡ k → T (is_digit b) → Number s i (suc k) (b - 48)
  first_digit_lem q e = let h = digit_at a e in rw q (first_digit h.0 h.1)

  more_digits : {i n : ℕ} → Number s i k n → T (is_digit b) → Number s i (suc k) (n * 10 + (b - 48))
  more_digits w e = let h = digit_at a e in next_digit w h.0 h.1

  reads_step : (σ : State) → Reading s σ k → P (step σ b)
  unfolding step
  reads_step start r = picked P (is_digit b) (λ e. first_digit_lem (sym r) e) (λ _. tt)
  reads_step (prime p) r = picked P (is_digit b) (λ e. more_digits r e) (λ _. reads_prime r no_blanks)
  reads_step (primed p) r = reads_prime r.1 r.2
  reads_step (wants K) r =
      picked P (is_digit b) (λ e. (k, r, first_digit_lem refl e))
      (λ _. picked P (eqb b 32) (λ e. later r (is_byte 32 a e))
      (λ _. picked P (eqb b 120) (λ e. record { from = k; to = suc k; pending = r; stands = x (is_byte 120 a e); blanks = no_blanks })
      (λ _. picked P (eqb b 40) (λ e. in_bracket r (is_byte 40 a e) no_blanks) (λ _. tt))))
  reads_step (number K n) r =
      picked P (is_digit b) (λ e. (r.0, r.1, more_digits r.2 e))
      (λ _. reads_term (number_read r.1 r.2))
  reads_step (term K t) r = reads_term r
  reads_step (wants_exponent K t) r =
      picked P (is_digit b) (λ e. (k, r, first_digit_lem refl e))
      (λ _. picked P (eqb b 32) (λ e. caret_blank r (is_byte 32 a e)) (λ _. tt))
  reads_step (exponent K t n) r =
      picked P (is_digit b) (λ e. (r.0, r.1, more_digits r.2 e)) (λ _. reads_power (raised_read r.1 r.2))
  reads_step (powered K t) r = reads_power r
  reads_step stuck r = tt

pub reads : (s : List ℕ) (k : ℕ) → k ≤ length s → Reading s (after s k) k
reads s zero l = rw (after_none s) refl
reads s (suc k) l = rw (after_suc s k) (reads_step (record { inside = l; is = refl }) (after s k) (reads s k (omega arith)))

-- ---- a line has been read

power_read : {s : List ℕ} {K : Context} {t : Tree} {σ : State} {k : ℕ} → Ended K t σ → Reading s σ k → PowerRead s K t k
power_read (ended_term term_number) r = as_power_lem (number_read r.1 r.2)
power_read (ended_term term_done) r = as_power_lem r
power_read ended_exponent r = raised_read r.1 r.2
power_read ended_powered r = r

pub to_end : {s : List ℕ} {i j m : ℕ} {t : Tree} → j ≡ m → Expression s i j t → Expression s i m t
to_end {s} {i} {t = t} e w = subst (λ (n : ℕ). Expression s i n t) e w

bottom_line : {s : List ℕ} {p : ℕ} {t : Tree} {j : ℕ} → AsSum s (bottom p, t) j → j ≡ length s → Line s p t
bottom_line {s} {p} {t} r e = at r.pending
  where
    at : Pending s (bottom p) r.from → Line s p t
    at (at_bottom n g) = line n g (to_end e r.stands)

-- where the machine holds a whole expression behind the last byte, and that byte is no blank, there is a line
pub line_held : {s : List ℕ} {p : ℕ} {t : Tree} → ExpressionRun (bottom p) t (after s (length s)) → ((j : ℕ) → suc j ≡ length s → At s j 32 → ⊥)
    → Line s p t
line_held {s} {p} {t} run h =
    let n = length s in
    let r = power_read run.ended (reads s n (le_refl n)) in
    let q : AsSum s (bottom p, t) r.to = subst (λ (y : Held). AsSum s y r.to) run.is (as_sum run.context r.pending r.stands) in
    bottom_line q (at r.blanks (dec_lt r.to n))
  where
    at : {j : ℕ} → Blanks s j (length s) → Dec (j < length s) → j ≡ length s
    at w (yes l) = absurd (h (length s - 1) (omega arith) (w.all (length s - 1) (omega arith) (omega arith)))
    at w (no l) = omega (arith, w.order, l)
