-- The machine follows the grammar.
-- Proves that whatever the grammar reads, the machine builds the same tree, and so that a line has one reading. Assumes nothing.
use Rattle.std.specs.Prelude.{◌≡◌, refl, true, List, ℕ, zero, suc, ◌+◌, ◌-◌, ◌*◌, ◌<◌, ◌≤◌, length, get_or}
use Rattle.std.proofs.Common.{sym, ap, ◌∙◌, arith, le-leb}
use Rattle.specification.specs.Grammar as grammar
use Rattle.specification.specs.Grammar.{Tree, At, Blanks, Between, Number, first_digit, next_digit, Expression, one_product, Product, one_power}
use Rattle.specification.specs.Grammar.{Power, one_term, raised, Term, digits, x, brackets, Line, line}
use Rattle.grammar.specs.Machine.{Context, bottom, bracket, sum, difference, product, NoProduct, Fresh, Held, multiplied, added, summed, closed}
use Rattle.grammar.specs.Machine.{State, start, prime, primed, wants, number, term, wants_exponent, exponent, powered, stuck}
use Rattle.grammar.specs.Machine.{is_digit, after_prime, after_power, after_term, step, after}
use Rattle.grammar.specs.Runs.{EndedTerm, term_number, term_done, Ended, ended_term, ended_exponent, ended_powered, ProductRun, ExpressionRun, alive}

-- ---- one step

pub after_none : (s : List ℕ) → after s 0 ≡ start
unfolding after
after_none s = refl

pub after_suc : (s : List ℕ) (k : ℕ) → after s (suc k) ≡ step (after s k) (get_or s k 0)
unfolding after
after_suc s k = refl

pub moves : {s : List ℕ} {k b : ℕ} {σ τ : State} → At s k b → after s k ≡ σ → step σ b ≡ τ → after s (suc k) ≡ τ
moves {s} {k} {b} {σ} {τ} a e f = after_suc s k ∙ ap (step (after s k)) a.is ∙ ap (λ y. step y b) e ∙ f

digit_yes : (d : ℕ) → d < 10 → is_digit (48 + d) ≡ true
unfolding is_digit
digit_yes d h = rw (le-leb 48 (48 + d) (omega arith), le-leb (48 + d) 57 (omega arith))

digit_less : (d : ℕ) → (48 + d) - 48 ≡ d
digit_less d = omega arith

-- ---- blanks

over : {s : List ℕ} {i j : ℕ} (P : ℕ → Type 0) → Blanks s i j → P i → ((k : ℕ) → At s k 32 → P k → P (suc k)) → (n : ℕ) → i + n ≤ j → P (i + n)
over {i = i} P w h f zero l = rw (let z : i + 0 ≡ i = omega arith in z) h
over {i = i} P w h f (suc n) l =
    rw (let z : i + suc n ≡ suc (i + n) = omega arith in z) (f (i + n) (w.all (i + n) (omega arith) (omega arith)) (over P w h f n (omega arith)))

pub over_blanks : {s : List ℕ} {i j : ℕ} (P : ℕ → Type 0) → Blanks s i j → P i → ((k : ℕ) → At s k 32 → P k → P (suc k)) → P j
over_blanks {i = i} {j} P w h f =
    let o = w.order in
    rw (let z : j ≡ i + (j - i) = omega arith in z) (over P w h f (j - i) (omega arith))

-- ---- numbers

pub number_runs : {s : List ℕ} {i j n : ℕ} {σ : State} (N : ℕ → State) → ((d : ℕ) → d < 10 → step σ (48 + d) ≡ N d)
    → ((m d : ℕ) → d < 10 → step (N m) (48 + d) ≡ N (m * 10 + d)) → Number s i j n → after s i ≡ σ → after s j ≡ N n
number_runs N f g (first_digit h a) e = moves a e (f _ h)
number_runs N f g (next_digit w h a) e = moves a (number_runs N f g w e) (g _ _ h)

module _ (K : Context) where
  pub wants_digit : (d : ℕ) → d < 10 → step (wants K) (48 + d) ≡ number K d
  unfolding step
  wants_digit d h = rw (digit_yes d h, digit_less d)

  pub number_digit : (m d : ℕ) → d < 10 → step (number K m) (48 + d) ≡ number K (m * 10 + d)
  unfolding step
  number_digit m d h = rw (digit_yes d h, digit_less d)

  pub exponent_first : (t : Tree) (d : ℕ) → d < 10 → step (wants_exponent K t) (48 + d) ≡ exponent K t d
  unfolding step
  exponent_first t d h = rw (digit_yes d h, digit_less d)

  pub exponent_digit : (t : Tree) (m d : ℕ) → d < 10 → step (exponent K t m) (48 + d) ≡ exponent K t (m * 10 + d)
  unfolding step
  exponent_digit t m d h = rw (digit_yes d h, digit_less d)

pub start_digit : (d : ℕ) → d < 10 → step start (48 + d) ≡ prime d
unfolding step
start_digit d h = rw (digit_yes d h, digit_less d)

pub prime_digit : (m d : ℕ) → d < 10 → step (prime m) (48 + d) ≡ prime (m * 10 + d)
unfolding step
prime_digit m d h = rw (digit_yes d h, digit_less d)

-- ---- at the states in which a term or a power has been read

term_blank : {K : Context} {t : Tree} {σ : State} → EndedTerm K t σ → EndedTerm K t (step σ 32)
unfolding step is_digit after_term
term_blank term_number = term_done
term_blank term_done = term_done

term_caret : {K : Context} {t : Tree} {σ : State} → EndedTerm K t σ → step σ 94 ≡ wants_exponent K t
unfolding step is_digit after_term
term_caret term_number = refl
term_caret term_done = refl

ended_blank : {K : Context} {t : Tree} {σ : State} → Ended K t σ → Ended K t (step σ 32)
unfolding step is_digit after_power
ended_blank (ended_term w) = ended_term (term_blank w)
ended_blank ended_exponent = ended_powered
ended_blank ended_powered = ended_powered

ended_star : {K : Context} {t : Tree} {σ : State} → Ended K t σ → step σ 42 ≡ wants (product (multiplied K t).0 (multiplied K t).1)
unfolding step is_digit after_term after_power
ended_star (ended_term term_number) = refl
ended_star (ended_term term_done) = refl
ended_star ended_exponent = refl
ended_star ended_powered = refl

ended_plus : {K : Context} {t : Tree} {σ : State} → Ended K t σ → step σ 43 ≡ wants (sum (summed K t).0 (summed K t).1)
unfolding step is_digit after_term after_power
ended_plus (ended_term term_number) = refl
ended_plus (ended_term term_done) = refl
ended_plus ended_exponent = refl
ended_plus ended_powered = refl

ended_minus : {K : Context} {t : Tree} {σ : State} → Ended K t σ → step σ 45 ≡ wants (difference (summed K t).0 (summed K t).1)
unfolding step is_digit after_term after_power
ended_minus (ended_term term_number) = refl
ended_minus (ended_term term_done) = refl
ended_minus ended_exponent = refl
ended_minus ended_powered = refl

ended_close : {K : Context} {t : Tree} {σ : State} → Ended K t σ → step σ 41 ≡ closed (summed K t)
unfolding step is_digit after_term after_power
ended_close (ended_term term_number) = refl
ended_close (ended_term term_done) = refl
ended_close ended_exponent = refl
ended_close ended_powered = refl

pub wants_blank : (K : Context) → step (wants K) 32 ≡ wants K
unfolding step is_digit
wants_blank K = refl

pub exponent_blank : (K : Context) (t : Tree) → step (wants_exponent K t) 32 ≡ wants_exponent K t
unfolding step is_digit
exponent_blank K t = refl

pub wants_x : (K : Context) → step (wants K) 120 ≡ term K grammar.variable
unfolding step is_digit
wants_x K = refl

pub wants_open : (K : Context) → step (wants K) 40 ≡ wants (bracket K)
unfolding step is_digit
wants_open K = refl

-- ---- blanks in these states

module _ {s : List ℕ} {i j : ℕ} (w : Blanks s i j) where
  pub still : {σ : State} → step σ 32 ≡ σ → after s i ≡ σ → after s j ≡ σ
  still {σ} f e = over_blanks (λ k. after s k ≡ σ) w e (λ k a h. moves a h f)

  still_term : {K : Context} {t : Tree} → EndedTerm K t (after s i) → EndedTerm K t (after s j)
  still_term {K} {t} e = over_blanks (λ k. EndedTerm K t (after s k)) w e (λ k a h. rw (after_suc s k, a.is) (term_blank h))

  pub still_ended : {K : Context} {t : Tree} → Ended K t (after s i) → Ended K t (after s j)
  still_ended {K} {t} e = over_blanks (λ k. Ended K t (after s k)) w e (λ k a h. rw (after_suc s k, a.is) (ended_blank h))

-- ---- the grammar's readings

pub fresh_no_product : (K : Context) → Fresh K → NoProduct K
fresh_no_product (bottom p) f = tt
fresh_no_product (bracket K) f = tt
fresh_no_product (sum K a) f = tt
fresh_no_product (difference K a) f = tt
fresh_no_product (product K a) f = f

-- where none waits, none is done
pub not_multiplied : (K : Context) → NoProduct K → (u : Tree) → multiplied K u ≡ (K, u)
unfolding multiplied
not_multiplied (bottom p) f u = refl
not_multiplied (bracket K) f u = refl
not_multiplied (sum K a) f u = refl
not_multiplied (difference K a) f u = refl
not_multiplied (product K a) f u = absurd f

pub not_added : (K : Context) → Fresh K → (u : Tree) → added K u ≡ (K, u)
unfolding added
not_added (bottom p) f u = refl
not_added (bracket K) f u = refl
not_added (sum K a) f u = absurd f
not_added (difference K a) f u = absurd f
not_added (product K a) f u = absurd f

product_is : (K : Context) (a b : Tree) → multiplied (product K a) b ≡ (K, grammar.times a b)
unfolding multiplied
product_is K a b = refl

-- what waits once the sums are done
summed_as : (K : Context) (t : Tree) {L : Context} {u : Tree} → multiplied K t ≡ (L, u) → summed K t ≡ added L u
unfolding summed
summed_as K t e = rw e

summed_run : {K L : Context} {t u : Tree} {σ : State} → ProductRun L u σ → added L u ≡ (K, t) → ExpressionRun K t σ
summed_run r e = record { context = r.context; tree = r.tree; ended = r.ended; is = summed_as r.context r.tree r.is ∙ e }

plus_is : (K : Context) (a b : Tree) → added (sum K a) b ≡ (K, grammar.plus a b)
unfolding added
plus_is K a b = refl

minus_is : (K : Context) (a b : Tree) → added (difference K a) b ≡ (K, grammar.minus a b)
unfolding added
minus_is K a b = refl

closed_is : (K : Context) (t : Tree) → closed (bracket K, t) ≡ term K t
unfolding closed
closed_is K t = refl

-- the machine at a sign, and then over the blanks behind it
signed : {s : List ℕ} {i l b : ℕ} {σ τ : State} → (g : Between s i b l) → step τ 32 ≡ τ → after s g.place ≡ σ → step σ b ≡ τ → after s l ≡ τ
signed g blank e f = still g.behind blank (moves g.here e f)

-- a sign after what has been read
module _ {s : List ℕ} {i l : ℕ} {K : Context} {t : Tree} where
  pub star_runs : ProductRun K t (after s i) → Between s i 42 l → after s l ≡ wants (product K t)
  star_runs r g =
      signed g (wants_blank _) refl (ended_star (still_ended g.before r.ended) ∙ ap (λ (h : Held). wants (product h.0 h.1)) r.is)

  pub plus_runs : ExpressionRun K t (after s i) → Between s i 43 l → after s l ≡ wants (sum K t)
  plus_runs r g = signed g (wants_blank _) refl (ended_plus (still_ended g.before r.ended) ∙ ap (λ (h : Held). wants (sum h.0 h.1)) r.is)

  pub minus_runs : ExpressionRun K t (after s i) → Between s i 45 l → after s l ≡ wants (difference K t)
  minus_runs r g =
      signed g (wants_blank _) refl (ended_minus (still_ended g.before r.ended) ∙ ap (λ (h : Held). wants (difference h.0 h.1)) r.is)

  pub caret_runs : EndedTerm K t (after s i) → Between s i 94 l → after s l ≡ wants_exponent K t
  caret_runs r g = signed g (exponent_blank _ _) refl (term_caret (still_term g.before r))

pub close_runs : {s : List ℕ} {i k : ℕ} {K : Context} {t : Tree} → ExpressionRun (bracket K) t (after s i) → Blanks s i k → At s k 41
    → after s (suc k) ≡ term K t
close_runs {K = K} {t} r w a = moves a refl (ended_close (still_ended w r.ended) ∙ ap closed r.is ∙ closed_is K t)

mutual
  pub expression_runs : {s : List ℕ} {i j : ℕ} {t : Tree} → Expression s i j t → (K : Context) → Fresh K → after s i ≡ wants K
      → ExpressionRun K t (after s j)
  expression_runs (one_product w) K f e = summed_run (product_runs w K (fresh_no_product K f) e) (not_added K f _)
  expression_runs (grammar.sum {a = a} w g v) K f e =
      summed_run (product_runs v (sum K a) tt (plus_runs (expression_runs w K f e) g)) (plus_is K a _)
  expression_runs (grammar.difference {a = a} w g v) K f e =
      summed_run (product_runs v (difference K a) tt (minus_runs (expression_runs w K f e) g)) (minus_is K a _)

  pub product_runs : {s : List ℕ} {i j : ℕ} {t : Tree} → Product s i j t → (K : Context) → NoProduct K → after s i ≡ wants K → ProductRun K t (after s j)
  product_runs (one_power w) K f e = record { context = K; tree = _; ended = power_runs w K e; is = not_multiplied K f _ }
  product_runs (grammar.product {a = a} {b = u} w g v) K f e =
      record { context = product K a; tree = u; ended = power_runs v (product K a) (star_runs (product_runs w K f e) g); is = product_is K a u }

  power_runs : {s : List ℕ} {i j : ℕ} {t : Tree} → Power s i j t → (K : Context) → after s i ≡ wants K → Ended K t (after s j)
  power_runs (one_term w) K e = ended_term (term_runs w K e)
  power_runs (raised {t = t} w g v) K e =
      rw (number_runs (exponent K t) (exponent_first K t) (exponent_digit K t) v (caret_runs (term_runs w K e) g)) ended_exponent

  pub term_runs : {s : List ℕ} {i j : ℕ} {t : Tree} → Term s i j t → (K : Context) → after s i ≡ wants K → EndedTerm K t (after s j)
  term_runs (digits w) K e = rw (number_runs (number K) (wants_digit K) (number_digit K) w e) term_number
  term_runs (x a) K e = rw (moves a e (wants_x K)) term_done
  term_runs (brackets a b w c d) K e =
      rw (close_runs (expression_runs w (bracket K) tt (still b (wants_blank (bracket K)) (moves a e (wants_open K)))) c d) term_done

-- ---- a line

pub data PrimeRead : ℕ → State → Type 0 where
  prime_digits : {p : ℕ} → PrimeRead p (prime p)
  prime_done : {p : ℕ} → PrimeRead p (primed p)

pub prime_read : {p : ℕ} {σ : State} → σ ≡ prime p → PrimeRead p σ
prime_read e = rw e prime_digits

pub prime_blank : {p : ℕ} {σ : State} → PrimeRead p σ → PrimeRead p (step σ 32)
unfolding step is_digit after_prime
prime_blank prime_digits = prime_done
prime_blank prime_done = prime_done

pub prime_colon : {p : ℕ} {σ : State} → PrimeRead p σ → step σ 58 ≡ wants (bottom p)
unfolding step is_digit after_prime
prime_colon prime_digits = refl
prime_colon prime_done = refl

pub line_runs : {s : List ℕ} {p : ℕ} {t : Tree} → Line s p t → ExpressionRun (bottom p) t (after s (length s))
line_runs {s} {p} (line n g w) =
    let read = over_blanks (λ k. PrimeRead p (after s k)) g.before
    (prime_read (number_runs prime start_digit prime_digit n (after_none s))) (λ k a h. rw (after_suc s k, a.is) (prime_blank h)) in
    expression_runs w (bottom p) tt (still g.behind (wants_blank (bottom p)) (moves g.here refl (prime_colon read)))

-- what the machine holds
abbrev pub holds : State → Held
holds start = (bottom 0, grammar.variable)
holds (prime p) = (bottom 0, grammar.variable)
holds (primed p) = (bottom 0, grammar.variable)
holds (wants K) = (bottom 0, grammar.variable)
holds (number K n) = (K, grammar.number n)
holds (term K t) = (K, t)
holds (wants_exponent K t) = (bottom 0, grammar.variable)
holds (exponent K t n) = (K, grammar.power t n)
holds (powered K t) = (K, t)
holds stuck = (bottom 0, grammar.variable)

pub holds_ended : {K : Context} {t : Tree} {σ : State} → Ended K t σ → holds σ ≡ (K, t)
holds_ended (ended_term term_number) = refl
holds_ended (ended_term term_done) = refl
holds_ended ended_exponent = refl
holds_ended ended_powered = refl

-- "its reading is the only one"
pub line_once : {s : List ℕ} {p q : ℕ} {t u : Tree} → Line s p t → Line s q u → (p ≡ q) × (t ≡ u)
line_once {s} {p} {q} {t} {u} v w =
    let a = line_runs v in
    let b = line_runs w in
    let e : ◌≡◌ {A = Held} (a.context, a.tree) (b.context, b.tree) = sym (holds_ended a.ended) ∙ holds_ended b.ended in
    let f : ◌≡◌ {A = Held} (bottom p, t) (bottom q, u) = sym a.is ∙ ap (λ (h : Held). summed h.0 h.1) e ∙ b.is in
    let g : bottom p ≡ bottom q = ap (λ (h : Held). h.0) f in
    ((cc), ap (λ (h : Held). h.1) f)

pub ended_alive : {K : Context} {t : Tree} {σ : State} → Ended K t σ → alive σ ≡ 1
ended_alive (ended_term term_number) = refl
ended_alive (ended_term term_done) = refl
ended_alive ended_exponent = refl
ended_alive ended_powered = refl
