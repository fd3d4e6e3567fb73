-- Where the machine is stuck.
-- Proves that it stays so, that lines which begin alike run alike so far, and that bytes on which it is stuck begin no line. Assumes nothing.
use Rattle.std.specs.Prelude.{◌≡◌, List, ◌++◌, ℕ, zero, suc, ◌+◌, ◌-◌, ◌<◌, ◌≤◌, length, get_or, take}
use Rattle.std.proofs.Common.{sym, ap, ◌∙◌, arith, length-append, get_or-take, length-take-le}
use Rattle.std.proofs.Math.ListN.{get_or-append}
use Rattle.specification.specs.TypedLines.{Begins}
use Rattle.grammar.specs.Machine.{stuck, step, after}
use Rattle.grammar.specs.Runs.{alive}
use Rattle.grammar.proofs.Runs.{after_none, after_suc, line_runs, ended_alive}

stuck_after : (s : List ℕ) (k n : ℕ) → after s k ≡ stuck → after s (n + k) ≡ stuck
unfolding step
stuck_after s k zero e = rw (let z : 0 + k ≡ k = omega arith in z) e
stuck_after s k (suc n) e =
    rw (let z : suc n + k ≡ suc (n + k) = omega arith in z)
    (after_suc s (n + k) ∙ ap (λ y. step y (get_or s (n + k) 0)) (stuck_after s k n e))

pub stuck_stays : (s : List ℕ) (k m : ℕ) → k ≤ m → after s k ≡ stuck → after s m ≡ stuck
stuck_stays s k m l e = ap (after s) (let z : m ≡ (m - k) + k = omega arith in z) ∙ stuck_after s k (m - k) e

same_after : (s u : List ℕ) (n : ℕ) → ((k : ℕ) → k < n → get_or s k 0 ≡ get_or u k 0) → after s n ≡ after u n
same_after s u zero h = after_none s ∙ sym (after_none u)
same_after s u (suc n) h =
    after_suc s n ∙ ap (λ y. step y (get_or s n 0)) (same_after s u n (λ k l. h k (omega arith))) ∙ ap (step (after u n)) (h n (omega arith))
    ∙ sym (after_suc u n)

-- a line that begins with the first n bytes of s runs as s does so far
pub begun : (s rest : List ℕ) (n : ℕ) → n ≤ length s → after (take n s ++ rest) n ≡ after s n
begun s rest n l = same_after (take n s ++ rest) s n (λ k h. get_or-append (take n s) rest 0 k (rw (length-take-le n s l) h) ∙ get_or-take n s k 0 h)

-- no line goes on
pub unviable : (s : List ℕ) (n : ℕ) → n ≤ length s → after s n ≡ stuck → Begins (take n s) → ⊥
unviable s n l e v =
    let u : List ℕ = take n s ++ v.rest in
    let m : length u ≡ n + length v.rest = length-append (take n s) v.rest ∙ ap (λ y. y + length v.rest) (length-take-le n s l) in
    let f : after u (length u) ≡ stuck = stuck_stays u n (length u) (omega (arith, m)) (begun s v.rest n l ∙ e) in
    let g : alive (after u (length u)) ≡ 1 = ended_alive (line_runs v.line).ended in
    let h : alive (after u (length u)) ≡ 0 = ap alive f in
    omega arith
