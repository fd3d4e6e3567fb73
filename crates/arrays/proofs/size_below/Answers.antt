-- `arrays::size_below` meets its contract: what the search from the top has passed is 0.
-- Assumes nothing.
use Rattle.std.proofs.Common.{rules, sym, ◌∙◌, ◌-◌, ◌≡◌, ◌<◌, ◌≤◌, ◌+◌, ℕ, List, get_or, take, ⊎_elim, arith}
use Rattle.std.proofs.iter.runs.Made.{chains}
use Rattle.std.proofs.lemmas.List.{get_or-take}
use Rattle.algebra.specs.Numbers.{lt_or_le}
use Rattle.arrays.specs.Represents.{ZeroFrom}
use Rattle.arrays.specs.Sizes.{Size}
use Rattle.arrays.proofs.size_below.Goals as goal

module _ {a : List ℕ} {n : ℕ} (limit : n ≤ 33) (past : ZeroFrom n a) where
  found : {i : ℕ} → i < n → (get_or (take n a) i 0 ≡ 0 → ⊥) → ((k : ℕ) → i < k → k < n → get_or (take n a) k 0 ≡ 0) → Size a (i + 1)
  found {i} low top above = record {
    limit = omega arith;
    above = λ k l. ⊎_elim (λ u. sym (get_or-take n a k 0 u) ∙ above k (omega arith) u) (past k) (lt_or_le k n);
    top = λ l e. top (get_or-take n a i 0 low ∙ (rw (let q : i + 1 - 1 ≡ i = omega arith in q) at e));
  }

  none : ((k : ℕ) → k < n → get_or (take n a) k 0 ≡ 0) → Size a 0
  none above = record {
    limit = omega arith;
    above = λ k l. ⊎_elim (λ u. sym (get_or-take n a k 0 u) ∙ above k u) (past k) (lt_or_le k n);
    top = λ l. absurd (omega arith);
  }

pub returns-in-Some : goal.returns-in-Some
returns-in-Some c =
    let low : c.in-Some.degree < c.args.top = search (rules, chains) in
    let top : get_or (take c.args.top c.args.a.now) c.in-Some.degree 0 ≡ 0 → ⊥ = search (rules, chains) in
    let above : (k : ℕ) → c.in-Some.degree < k → k < c.args.top → get_or (take c.args.top c.args.a.now) k 0 ≡ 0 = search (rules, chains) in
    found c.requires.0 c.requires.2 low top above

pub returns-in-None : goal.returns-in-None
returns-in-None c =
    let above : (k : ℕ) → k < c.args.top → get_or (take c.args.top c.args.a.now) k 0 ≡ 0 = search (rules, chains) in
    none c.requires.0 c.requires.2 above
