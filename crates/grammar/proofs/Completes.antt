-- Where the machine is not stuck, some line goes on.
-- Proves that each of its states can be finished to a line. Assumes nothing.
use Rattle.std.specs.Prelude.{◌≡◌, refl, List, [], ◌∷◌, ◌++◌, ℕ, suc, ◌+◌, ◌<◌, ◌≤◌, length, get_or, take}
use Rattle.std.proofs.Common.{sym, ap, subst, ◌∙◌, arith, length-append, get_or-append-add, length-take-le}
use Rattle.specification.specs.Grammar as grammar
use Rattle.specification.specs.Grammar.{Tree, At, Blanks, Number, first_digit, Expression, one_product, Product, one_power}
use Rattle.specification.specs.Grammar.{Power, one_term, x, brackets, Line, line}
use Rattle.specification.specs.TypedLines.{Begins}
use Rattle.grammar.specs.Machine.{Context, bottom, bracket, sum, difference, product, NoProduct, Fresh, multiplied}
use Rattle.grammar.specs.Machine.{State, start, prime, primed, wants, number, term, wants_exponent, exponent, powered, stuck, after}
use Rattle.grammar.specs.Runs.{alive}
use Rattle.grammar.proofs.Stuck.{begun}
use Rattle.grammar.proofs.Standing.{Pending, at_bottom, in_bracket, in_sum, in_difference, in_product, no_blanks, sign_here, as_product}
use Rattle.grammar.proofs.Standing.{TermRead, PowerRead, CaretRead, Reading, as_power_lem, number_read, raised_read, to_end, reads}

-- ---- what is left to finish a line

abbrev closers : Context → List ℕ
closers (bottom p) = []
closers (bracket K) = 41 ∷ closers K
closers (sum K a) = closers K
closers (difference K a) = closers K
closers (product K a) = closers K

abbrev rest : State → List ℕ
rest start = 48 ∷ 58 ∷ 120 ∷ []
rest (prime p) = 58 ∷ 120 ∷ []
rest (primed p) = 58 ∷ 120 ∷ []
rest (wants K) = 120 ∷ closers K
rest (number K n) = 42 ∷ 120 ∷ closers K
rest (term K t) = 42 ∷ 120 ∷ closers K
rest (wants_exponent K t) = 48 ∷ 42 ∷ 120 ∷ closers K
rest (exponent K t n) = 42 ∷ 120 ∷ closers K
rest (powered K t) = 42 ∷ 120 ∷ closers K
rest stuck = []

-- these bytes stand at the line's end, from place j on
data Tail (s : List ℕ) : ℕ → List ℕ → Type 0 where
  tail_end : {j : ℕ} → j ≡ length s → Tail s j []
  tail_more : {j b : ℕ} {w : List ℕ} → At s j b → Tail s (suc j) w → Tail s j (b ∷ w)

tail_from : (s : List ℕ) (w : List ℕ) (j : ℕ) → j + length w ≡ length s → ((k : ℕ) → k < length w → get_or s (j + k) 0 ≡ get_or w k 0) → Tail s j w
tail_from s [] j e h = tail_end {j = j} (let z : j + 0 ≡ length s = e in omega arith)
tail_from s (b ∷ w) j e h =
    let z : j + suc (length w) ≡ length s = e in
    tail_more {j = j} (record { inside = omega arith; is = ap (λ m. get_or s m 0) (let y : j ≡ j + 0 = omega arith in y) ∙ h 0 (omega arith) })
    (tail_from s w (suc j) (omega arith) (λ k l. ap (λ m. get_or s m 0) (let y : suc j + k ≡ j + suc k = omega arith in y) ∙ h (suc k) (omega arith)))

record HasLine (s : List ℕ) : Type 0 where
  prime : ℕ
  tree : Tree
  is : Line s prime tree

-- what the context asks of a reading that ends its pending part
abbrev Fit : Context → List ℕ → ℕ → ℕ → Tree → Type 0
Fit (bottom p) = Expression
Fit (bracket K) = Expression
Fit (sum K a) = Product
Fit (difference K a) = Product
Fit (product K a) = Power

module _ {s : List ℕ} {i j : ℕ} {t : Tree} where
  fit_power : (K : Context) → Power s i j t → Fit K s i j t
  fit_power (bottom p) w = one_product (one_power w)
  fit_power (bracket K) w = one_product (one_power w)
  fit_power (sum K a) w = one_power w
  fit_power (difference K a) w = one_power w
  fit_power (product K a) w = w

  fit_product : (K : Context) → NoProduct K → Product s i j t → Fit K s i j t
  fit_product (bottom p) f w = one_product w
  fit_product (bracket K) f w = one_product w
  fit_product (sum K a) f w = w
  fit_product (difference K a) f w = w
  fit_product (product K a) f w = absurd f

  fit_expression : (K : Context) → Fresh K → Expression s i j t → Fit K s i j t
  fit_expression (bottom p) f w = w
  fit_expression (bracket K) f w = w
  fit_expression (sum K a) f w = absurd f
  fit_expression (difference K a) f w = absurd f
  fit_expression (product K a) f w = absurd f

finish : {s : List ℕ} {i j : ℕ} (t : Tree) (K : Context) → Pending s K i → Fit K s i j t → Tail s j (closers K) → HasLine s
finish t (bottom p) (at_bottom n g) v (tail_end e) = record { prime = p; tree = t; is = line n g (to_end e v) }
finish t (bracket K) (in_bracket w a d) v (tail_more c l) = finish t K w (fit_power K (one_term (brackets a d v no_blanks c))) l
finish t (sum K a) (in_sum w f u g) v l = finish (grammar.plus a t) K w (fit_expression K f (grammar.sum u g v)) l
finish t (difference K a) (in_difference w f u g) v l = finish (grammar.minus a t) K w (fit_expression K f (grammar.difference u g v)) l
finish t (product K a) (in_product w f u g) v l = finish (grammar.times a t) K w (fit_product K f (grammar.product u g v)) l

finish_wants : {s : List ℕ} {k : ℕ} (K : Context) → Pending s K k → Tail s k (120 ∷ closers K) → HasLine s
finish_wants K w (tail_more a l) = finish grammar.variable K w (fit_power K (one_term (x a))) l

closers_multiplied : (K : Context) (t : Tree) → closers (multiplied K t).0 ≡ closers K
unfolding multiplied
closers_multiplied (bottom p) t = refl
closers_multiplied (bracket K) t = refl
closers_multiplied (sum K a) t = refl
closers_multiplied (difference K a) t = refl
closers_multiplied (product K a) t = refl

tail_as : {s : List ℕ} {j : ℕ} {v w : List ℕ} → v ≡ w → Tail s j (120 ∷ v) → Tail s j (120 ∷ w)
tail_as {s} {j} e l = subst (λ (u : List ℕ). Tail s j (120 ∷ u)) e l

finish_power : {s : List ℕ} {k : ℕ} (K : Context) {t : Tree} → PowerRead s K t k → Tail s k (42 ∷ 120 ∷ closers K) → HasLine s
finish_power {s} K {t} r (tail_more a l) =
    let p = as_product K r.pending r.stands in
    finish_wants (product (multiplied K t).0 (multiplied K t).1) (in_product p.pending p.none p.stands (sign_here r.blanks a))
    (tail_as (sym (closers_multiplied K t)) l)

-- ---- each state can be finished

finish_term : {s : List ℕ} {k : ℕ} (K : Context) {t : Tree} → TermRead s K t k → Tail s k (42 ∷ 120 ∷ closers K) → HasLine s
finish_term K r l = finish_power K (as_power_lem r) l

finish_exponent : {s : List ℕ} {i k : ℕ} (K : Context) (t : Tree) (n : ℕ) → CaretRead s K t i → Number s i k n → Tail s k (42 ∷ 120 ∷ closers K) → HasLine s
finish_exponent K t n r w l = finish_power K {t = grammar.power t n} (raised_read r w) l

finish_prime : {s : List ℕ} {i k p : ℕ} → Number s 0 i p → Blanks s i k → Tail s k (58 ∷ 120 ∷ []) → HasLine s
finish_prime {p = p} n b (tail_more a l) = finish_wants (bottom p) (at_bottom n (sign_here b a)) l

from_start : {s : List ℕ} {i j n : ℕ} → i ≡ 0 → Number s i j n → Number s 0 j n
from_start {s} {j = j} {n} e w = subst (λ (i : ℕ). Number s i j n) e w

finished : (s : List ℕ) (σ : State) (k : ℕ) → Reading s σ k → alive σ ≡ 1 → Tail s k (rest σ) → HasLine s
finished s start k r e (tail_more a l) = finish_prime {p = 0} (from_start r (first_digit {d = 0} (omega arith) a)) no_blanks l
finished s (prime p) k r e l = finish_prime r no_blanks l
finished s (primed p) k r e l = finish_prime r.1 r.2 l
finished s (wants K) k r e l = finish_wants K r l
finished s (number K n) k r e l = finish_term K {t = grammar.number n} (number_read r.1 r.2) l
finished s (term K t) k r e l = finish_term K r l
finished s (wants_exponent K t) k r e (tail_more a l) = finish_exponent K t 0 r (first_digit {d = 0} (omega arith) a) l
finished s (exponent K t n) k r e l = finish_exponent K t n r.1 r.2 l
finished s (powered K t) k r e l = finish_power K r l
finished s stuck k r e l = absurd (let z : 0 ≡ 1 = e in omega arith)

-- where the machine is not stuck, some line goes on
pub viable : (s : List ℕ) (k : ℕ) → k ≤ length s → alive (after s k) ≡ 1 → Begins (take k s)
viable s k l e =
    let σ = after s k in
    let w = rest σ in
    let u = take k s ++ w in
    let m : length (take k s) ≡ k = length-take-le k s l in
    let n : length u ≡ k + length w = length-append (take k s) w ∙ ap (λ y. y + length w) m in
    let r : Reading u σ k = subst (λ y. Reading u y k) (begun s w k l) (reads u k (omega arith)) in
    let f = finished u σ k r e (tail_from u w k (sym n) (λ j h. ap (λ y. get_or u (y + j) 0) (sym m) ∙ get_or-append-add (take k s) w j 0)) in
    record { rest = w; prime = f.prime; tree = f.tree; line = f.is }
