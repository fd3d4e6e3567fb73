-- Number 15's place from the machine, by `Stopped`.
-- Proves that this place is that of `NoLine` (`stopped_is`), and that there is one only (`stops_once`). Assumes nothing.
use Rattle.std.specs.Prelude.{◌≡◌, refl, ◌⊎◌, List, ℕ, suc, ◌<◌, ◌≤◌, length, get_or, take}
use Rattle.std.proofs.Common.{sym, ap, ◌∙◌, inl, inr, arith}
use Rattle.std.proofs.Math.Decide.{dec_lt}
use Rattle.specification.specs.Grammar as grammar
use Rattle.specification.specs.Grammar.{Tree, At, Number, first_digit, next_digit, Expression, one_product, Product, one_power}
use Rattle.specification.specs.Grammar.{Power, one_term, raised, Term, digits, x, brackets, Line, line}
use Rattle.specification.specs.TypedLines.{Begins, NoLine}
use Rattle.grammar.specs.Machine as machine
use Rattle.grammar.specs.Machine.{Context, bottom, State, wants, wants_exponent, stuck, Held, summed, after}
use Rattle.grammar.specs.Runs.{Ended, ended_term, ended_exponent, ended_powered, term_number, term_done, ExpressionRun, alive}
use Rattle.grammar.specs.Stopping.{Open, Stopped}
use Rattle.grammar.proofs.Runs.{holds_ended, ended_alive, line_runs}
use Rattle.grammar.proofs.Stuck.{stuck_stays, unviable}
use Rattle.grammar.proofs.Completes.{viable}

-- ---- no line ends in a blank

abbrev NoBlank : List ℕ → ℕ → Type 0
NoBlank s j = (k : ℕ) → suc k ≡ j → At s k 32 → ⊥

other_byte : {s : List ℕ} {k b : ℕ} → At s k b → (b ≡ 32 → ⊥) → NoBlank s (suc k)
other_byte {s} {k} {b} a h i e c =
    let q : i ≡ k = omega arith in
    h (sym a.is ∙ ap (λ m. get_or s m 0) (sym q) ∙ c.is)

number_ends : {s : List ℕ} {i j n : ℕ} → Number s i j n → NoBlank s j
number_ends (first_digit l a) = other_byte a (λ e. omega arith)
number_ends (next_digit w l a) = other_byte a (λ e. omega arith)

term_ends : {s : List ℕ} {i j : ℕ} {t : Tree} → Term s i j t → NoBlank s j
term_ends (digits w) = number_ends w
term_ends (x a) = other_byte a (λ e. omega arith)
term_ends (brackets a b w c d) = other_byte d (λ e. omega arith)

power_ends : {s : List ℕ} {i j : ℕ} {t : Tree} → Power s i j t → NoBlank s j
power_ends (one_term w) = term_ends w
power_ends (raised w g v) = number_ends v

product_ends : {s : List ℕ} {i j : ℕ} {t : Tree} → Product s i j t → NoBlank s j
product_ends (one_power w) = power_ends w
product_ends (grammar.product w g v) = power_ends v

expression_ends : {s : List ℕ} {i j : ℕ} {t : Tree} → Expression s i j t → NoBlank s j
expression_ends (one_product w) = product_ends w
expression_ends (grammar.sum w g v) = product_ends v
expression_ends (grammar.difference w g v) = product_ends v

line_ends : {s : List ℕ} {p : ℕ} {t : Tree} → Line s p t → NoBlank s (length s)
line_ends (line n g w) = expression_ends w

-- ---- a state in which no line ends

-- 1 where a power has been read
abbrev pub holding : State → ℕ
holding machine.start = 0
holding (machine.prime p) = 0
holding (machine.primed p) = 0
holding (wants K) = 0
holding (machine.number K n) = 1
holding (machine.term K t) = 1
holding (wants_exponent K t) = 0
holding (machine.exponent K t n) = 1
holding (machine.powered K t) = 1
holding stuck = 0

ended_holding : {K : Context} {t : Tree} {σ : State} → Ended K t σ → holding σ ≡ 1
ended_holding (ended_term term_number) = refl
ended_holding (ended_term term_done) = refl
ended_holding ended_exponent = refl
ended_holding ended_powered = refl

pub open_state : {σ : State} → holding σ ≡ 0 → Open σ
open_state e = record { none = λ p t r. let h = ended_holding r.ended in omega (arith, h, e) }

-- a power is held, and with its products and sums done it is no whole expression
pub open_held : {K : Context} {t : Tree} {σ : State} → Ended K t σ → ((p : ℕ) (u : Tree) → summed K t ≡ (bottom p, u) → ⊥) → Open σ
open_held {K} {t} {σ} w h = record { none = λ p u r. h p u (same p u r) }
  where
    same : (p : ℕ) (u : Tree) → ExpressionRun (bottom p) u σ → summed K t ≡ (bottom p, u)
    same p u r =
        let e : ◌≡◌ {A = Held} (K, t) (r.context, r.tree) = sym (holds_ended w) ∙ holds_ended r.ended in
        ap (λ (h : Held). summed h.0 h.1) e ∙ r.is

pub stopped_is : {s : List ℕ} {k : ℕ} → Stopped s k → NoLine s k
stopped_is {s} {k} w = record {
  within = w.within;
  goes_on = viable s k w.within w.living;
  stops = λ l. unviable s (suc k) l w.dead;
  not_such = λ p t v. at p t v (dec_lt k (length s));
}
  where
    last : (p : ℕ) (t : Tree) → Line s p t → k ≡ length s → Open (after s k) ⊎ ((j : ℕ) × (suc j ≡ k) × At s j 32) → ⊥
    last p t v e (inl o) = o.none p t (rw e (line_runs v))
    last p t v e (inr b) = line_ends v b.0 (b.1 ∙ e) b.2

    at : (p : ℕ) (t : Tree) → Line s p t → Dec (k < length s) → ⊥
    at p t v (yes l) =
        let g : alive (after s (length s)) ≡ 0 = ap alive (stuck_stays s (suc k) (length s) l w.dead) in
        let h : alive (after s (length s)) ≡ 1 = ended_alive (line_runs v).ended in
        omega arith
    at p t v (no l) = let e : k ≡ length s = omega (arith, l, w.within) in last p t v e (w.at_end e)

-- ---- there is one such place

pub alive_or : (σ : State) → (alive σ ≡ 1) ⊎ (alive σ ≡ 0)
alive_or machine.start = inl refl
alive_or (machine.prime p) = inl refl
alive_or (machine.primed p) = inl refl
alive_or (wants K) = inl refl
alive_or (machine.number K n) = inl refl
alive_or (machine.term K t) = inl refl
alive_or (wants_exponent K t) = inl refl
alive_or (machine.exponent K t n) = inl refl
alive_or (machine.powered K t) = inl refl
alive_or stuck = inr refl

pub dead_stuck : (σ : State) → alive σ ≡ 0 → σ ≡ stuck
dead_stuck machine.start e = absurd (let z : 1 ≡ 0 = e in omega arith)
dead_stuck (machine.prime p) e = absurd (let z : 1 ≡ 0 = e in omega arith)
dead_stuck (machine.primed p) e = absurd (let z : 1 ≡ 0 = e in omega arith)
dead_stuck (wants K) e = absurd (let z : 1 ≡ 0 = e in omega arith)
dead_stuck (machine.number K n) e = absurd (let z : 1 ≡ 0 = e in omega arith)
dead_stuck (machine.term K t) e = absurd (let z : 1 ≡ 0 = e in omega arith)
dead_stuck (wants_exponent K t) e = absurd (let z : 1 ≡ 0 = e in omega arith)
dead_stuck (machine.exponent K t n) e = absurd (let z : 1 ≡ 0 = e in omega arith)
dead_stuck (machine.powered K t) e = absurd (let z : 1 ≡ 0 = e in omega arith)
dead_stuck stuck e = refl

-- bytes with which some line begins leave the machine alive, and so does each part of them
viable_alive : (s : List ℕ) (j k : ℕ) → suc j ≤ k → k ≤ length s → Begins (take k s) → alive (after s (suc j)) ≡ 1
viable_alive s j k l m v = at (alive_or (after s (suc j)))
  where
    at : (alive (after s (suc j)) ≡ 1) ⊎ (alive (after s (suc j)) ≡ 0) → alive (after s (suc j)) ≡ 1
    at (inl e) = e
    at (inr e) = absurd (unviable s k m (stuck_stays s (suc j) k l (dead_stuck (after s (suc j)) e)) v)

stops_below : {s : List ℕ} {j k : ℕ} → NoLine s j → NoLine s k → j < k → ⊥
stops_below {s} {j} {k} v w l =
    v.stops (omega (arith, w.within)) (viable s (suc j) (omega (arith, w.within)) (viable_alive s j k l w.within w.goes_on))

pub stops_once : {s : List ℕ} {j k : ℕ} → NoLine s j → NoLine s k → j ≡ k
stops_once {s} {j} {k} v w = at (dec_lt j k) (dec_lt k j)
  where
    at : Dec (j < k) → Dec (k < j) → j ≡ k
    at (yes l) m = absurd (stops_below v w l)
    at (no l) (yes m) = absurd (stops_below w v m)
    at (no l) (no m) = omega (arith, l, m)
