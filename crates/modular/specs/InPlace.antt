-- c·b added to a in place: `Added n a c b r`, entry by entry; `Adding`, the loop of `add_by`.
-- Proves how the loop begins, goes on and ends, and that nothing is added where n divides c. Assumes nothing.
use Rattle.std.specs.Prelude.{◌≡◌, refl, List, ℕ, ◌≤◌, ◌<◌, ◌%◌, ◌+◌, ◌*◌, length, get_or, set}
use Rattle.std.proofs.Common.{sym, ◌∙◌, ap, ⊎_elim, zero-le, le_refl, mul-zero, zero-mul, add-zero, mod-eq_of_lt, arith}
use Rattle.std.proofs.Math.Nat.{zero-mod, add-mod-mod}
use Rattle.lists.specs.Entries.{Replaced, replaced_none, replaced_more}
use Rattle.algebra.specs.Numbers.{lt_or_le, mod_mul_mod}
use Rattle.arrays.specs.Represents.{Within, ZeroFrom}

-- r is a + c·b; past an end 0 is read
pub record Added (n : ℕ) (a : List ℕ) (c : ℕ) (b r : List ℕ) : Type 0 where
  pub len : length r ≡ length a
  pub each : (j : ℕ) → get_or r j 0 ≡ (get_or a j 0 + c * get_or b j 0) % n

-- the loop has passed i places
pub record Adding (n : ℕ) (a : List ℕ) (c : ℕ) (b : List ℕ) (i : ℕ) (r : List ℕ) : Type 0 where
  pub entries : Replaced 0 (λ j. (get_or a j 0 + c * get_or b j 0) % n) a 0 r i

-- y is 0 modulo n
kept : {n v : ℕ} → v < n → (y : ℕ) → y % n ≡ 0 → v ≡ (v + y) % n
kept {n} {v} l y e = sym (sym (add-mod-mod v y n) ∙ ap (λ (z : ℕ). (v + z) % n) e ∙ ap (λ (z : ℕ). z % n) (add-zero v) ∙ mod-eq_of_lt l)

module _ {n c : ℕ} {a b : List ℕ} where
  pub adding_none : Adding n a c b 0 a
  adding_none = record { entries = replaced_none }

  -- the entry that comes next is still that of a
  pub adding_next : {i : ℕ} {r : List ℕ} → Adding n a c b i r → get_or r i 0 ≡ get_or a i 0
  adding_next {i} w = w.entries.above i (le_refl i)

  pub adding_more : {i : ℕ} {r : List ℕ} {v : ℕ} → Adding n a c b i r → i < length a → v ≡ (get_or r i 0 + c * get_or b i 0) % n
      → Adding n a c b (i + 1) (set r i v)
  adding_more {i} w l e = record { entries = replaced_more w.entries l (e ∙ ap (λ (y : ℕ). (y + c * get_or b i 0) % n) (adding_next w)) }

  -- the loop has passed the terms of b
  pub adding_done : {i m : ℕ} {r : List ℕ} → Within n a → ZeroFrom m b → m ≤ i → Adding n a c b i r → Added n a c b r
  adding_done {i} {m} {r} low none l w = record {
    len = w.entries.len;
    each = λ j. ⊎_elim (λ u. w.entries.new j zero-le u) (λ u. w.entries.above j u ∙ kept (low j) (c * get_or b j 0) (past j u)) (lt_or_le j i);
  }
    where
      past : (j : ℕ) → i ≤ j → c * get_or b j 0 % n ≡ 0
      past j u = ap (λ (y : ℕ). c * y % n) (none j (omega arith)) ∙ ap (λ (y : ℕ). y % n) (mul-zero c) ∙ zero-mod n

  pub nothing_added : Within n a → c % n ≡ 0 → Added n a c b a
  nothing_added low e = record {
    len = refl;
    each = λ j. kept (low j) (c * get_or b j 0)
        (sym (mod_mul_mod c (get_or b j 0) n) ∙ ap (λ (y : ℕ). y * get_or b j 0 % n) e ∙ ap (λ (y : ℕ). y % n) (zero-mul (get_or b j 0)) ∙ zero-mod n);
  }
