-- The flat table of inverses, p − 1 entries for each taken prime p in order: `Inverses t` says that t is one. `offset i` is where the entries of the
-- i-th prime begin, `passes` the table's rule as one test, which antt computes over the whole table in one pass.
-- Proves that a table that passes keeps the rule at each prime and unit, and that these are its 6,027 entries. Assumes nothing.
use Rattle.std.specs.Prelude.{◌≡◌, refl, Bool, true, ◌&&◌, List, [], ◌∷◌, ℕ, zero, suc, ◌+◌, ◌-◌, ◌<◌, ◌≤◌, T, length, get_or, take, drop}
use Rattle.std.proofs.Common.{sym, ◌∙◌, ap, subst, ⊎_elim, arith, length-drop, get_or-take, get_or-drop, length-take-le}
use Rattle.specification.specs.Limits.{primes}
use Rattle.algebra.specs.Numbers.{lt_or_le}
use Rattle.lists.specs.Tests.{left, right}
use Rattle.lists.specs.Sums.{total}
use Rattle.inverses.specs.Rule.{Rule, keeps, keeps_rule}

-- how many numbers from 1 to p − 1 there are, over all of the primes
abbrev pub units : List ℕ → ℕ
units = total (λ p. p - 1)

-- the entries of the primes before the i-th stand before its own
unfoldable pub offset : ℕ → ℕ
offset i = units (take i primes)

pub record Inverses (t : List ℕ) : Type 0 where
  pub rule : (i a : ℕ) → i < length primes → 0 < a → a < get_or primes i 0 → Rule (get_or primes i 0) a (get_or t (offset i + (a - 1)) 0)
  -- "The 6,027 inverses modulo these primes"
  pub count : (length t ≡ 6027) × (units primes ≡ 6027)
  -- every entry is that of a unit
  pub whole : (k : ℕ) → k < length t → (i : ℕ) × (a : ℕ) × (i < length primes) × (0 < a) × (a < get_or primes i 0) × (k ≡ offset i + (a - 1))

-- ---- the rule, by one test

-- the entries of one prime, from that of the unit a on
unfoldable pub row_passes : ℕ → ℕ → List ℕ → Bool
row_passes p a [] = true
row_passes p a (r ∷ row) = keeps p a r && row_passes p (suc a) row

-- for each of the primes the next p − 1 entries
unfoldable pub passes : List ℕ → List ℕ → Bool
passes [] t = true
passes (p ∷ ps) t = row_passes p 1 (take (p - 1) t) && passes ps (drop (p - 1) t)

row_rule : (p a : ℕ) (row : List ℕ) → T (row_passes p a row) → (k : ℕ) → k < length row → Rule p (a + k) (get_or row k 0)
unfolding row_passes
row_rule p a [] t k l = absurd (omega arith)
row_rule p a (r ∷ row) t zero l = subst (λ (b : ℕ). Rule p b r) (omega arith) (keeps_rule p a r (left (keeps p a r) _ t))
row_rule p a (r ∷ row) t (suc k) l =
    subst (λ (b : ℕ). Rule p b (get_or row k 0)) (omega arith) (row_rule p (suc a) row (right (keeps p a r) _ t) k (omega arith))

table_rule : (ps t : List ℕ) → T (passes ps t) → length t ≡ units ps → (i a : ℕ) → i < length ps → 0 < a → a < get_or ps i 0
    → Rule (get_or ps i 0) a (get_or t (units (take i ps) + (a - 1)) 0)
unfolding passes total
table_rule [] t h n i a u z v = absurd (omega arith)
table_rule (p ∷ ps) t h n zero a u z v =
    let unit : 1 + (a - 1) ≡ a = omega arith in
    let place : a - 1 ≡ units [] + (a - 1) = omega arith in
    subst (Rule p a) (get_or-take (p - 1) t (a - 1) 0 (omega arith) ∙ ap (λ (k : ℕ). get_or t k 0) place)
    (subst (λ (b : ℕ). Rule p b (get_or (take (p - 1) t) (a - 1) 0)) unit
    (row_rule p 1 (take (p - 1) t) (left (row_passes p 1 (take (p - 1) t)) _ h) (a - 1) (omega (arith, length-take-le (p - 1) t (omega arith)))))
table_rule (p ∷ ps) t h n (suc i) a u z v =
    let place : p - 1 + (units (take i ps) + (a - 1)) ≡ units (take (suc i) (p ∷ ps)) + (a - 1) = omega arith in
    subst (Rule (get_or ps i 0) a) (get_or-drop (p - 1) t (units (take i ps) + (a - 1)) 0 ∙ ap (λ (k : ℕ). get_or t k 0) place)
    (table_rule ps (drop (p - 1) t) (right (row_passes p 1 (take (p - 1) t)) _ h) (omega (arith, length-drop (p - 1) t)) i a (omega arith) z v)

unit_count : units primes ≡ 6027
unfolding total primes
unit_count = refl

table_whole : (ps : List ℕ) (k : ℕ) → k < units ps
    → (i : ℕ) × (a : ℕ) × (i < length ps) × (0 < a) × (a < get_or ps i 0) × (k ≡ units (take i ps) + (a - 1))
unfolding total
table_whole [] k l = absurd (omega arith)
table_whole (p ∷ ps) k l =
    ⊎_elim (λ u. (0, suc k, omega arith, omega arith, omega arith, omega arith))
    (λ u.
    let (i, a, v, z, w, e) = table_whole ps (k - (p - 1)) (omega arith) in
    (suc i, a, omega arith, z, w, omega arith))
    (lt_or_le k (p - 1))

pub inverses : {t : List ℕ} → T (passes primes t) → length t ≡ 6027 → Inverses t
unfolding offset
inverses {t} h n =
    let all = n ∙ sym unit_count in
    record { rule = table_rule primes t h all; count = (n, unit_count); whole = λ k l. table_whole primes k (omega (arith, all)) }

-- ---- where the entries of a prime stand

-- the offsets of all of the primes, where the entries of the first begin at b
unfoldable pub offsets_from : ℕ → List ℕ → List ℕ
offsets_from b [] = []
offsets_from b (p ∷ ps) = b ∷ offsets_from (b + (p - 1)) ps

offsets_at : (b : ℕ) (ps : List ℕ) (i : ℕ) → i < length ps → get_or (offsets_from b ps) i 0 ≡ b + units (take i ps)
unfolding offsets_from total
offsets_at b [] i u = absurd (omega arith)
offsets_at b (p ∷ ps) zero u = omega arith
offsets_at b (p ∷ ps) (suc i) u = omega (arith, offsets_at (b + (p - 1)) ps i (omega arith))

pub offset_is : (i : ℕ) → i < length primes → get_or (offsets_from 0 primes) i 0 ≡ offset i
unfolding offset
offset_is i u = omega (arith, offsets_at 0 primes i u)

-- the entries of the i-th prime end within the table
within : (ps : List ℕ) (i : ℕ) → i < length ps → units (take i ps) + (get_or ps i 0 - 1) ≤ units ps
unfolding total
within [] i u = absurd (omega arith)
within (p ∷ ps) zero u = omega arith
within (p ∷ ps) (suc i) u = omega (arith, within ps i (omega arith))

pub offset_room : (i a : ℕ) → i < length primes → 0 < a → a < get_or primes i 0 → offset i + (a - 1) < 6027
unfolding offset
offset_room i a u z v = omega (arith, within primes i u, unit_count)
