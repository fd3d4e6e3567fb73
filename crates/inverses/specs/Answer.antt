-- What the table answers: `tabled p a`, after the specification's `inverse`. `Answer p a r` is the contract of the function `inverse`.
-- Proves that an entry that keeps the table's rule is that answer, and 0 in every other case. Assumes nothing.
use Rattle.std.specs.Prelude.{◌≡◌, Bool, ◌&&◌, ℕ, ◌<◌}
use Rattle.std.proofs.Math.Path.{refl}
use Rattle.std.proofs.Common.{sym}
use Rattle.std.proofs.Math.Bool.{true, false, cond, and-eq-true_iff}
use Rattle.std.proofs.Math.Dec.{ltb}
use borrow.Author.Tests.{lt-ltb, ltb-true}
use Rattle.specification.specs.Limits.{taken}
use Rattle.specification.specs.Inverses.{inverse}
use Rattle.inverses.specs.Rule.{Rule}
use Rattle.inverses.specs.Unique.{inverse_is}

-- for a taken prime p and 0 < a < p the inverse of a modulo p; in every other case 0
unfoldable pub tabled : ℕ → ℕ → ℕ
tabled p a = cond (taken p && (ltb 0 a && ltb a p)) (inverse p a) 0

pub record Answer (p a r : ℕ) : Type 0 where
  pub is : r ≡ tabled p a
  pub rule : taken p ≡ true → 0 < a → a < p → Rule p a r

module _ (p a : ℕ) where
  pub entry_answer : (r : ℕ) → taken p ≡ true → 0 < a → a < p → Rule p a r → Answer p a r
  unfolding tabled
  entry_answer r t z l w = record {
    is = rw (t, lt-ltb 0 a z, lt-ltb a p l) (sym (inverse_is p a r w.below w.leaves_one));
    rule = λ t z l. w;
  }

  pub no_answer : (taken p ≡ true → 0 < a → a < p → ⊥) → Answer p a 0
  unfolding tabled
  no_answer n = record { is = at (taken p && (ltb 0 a && ltb a p)) refl; rule = λ t z l. absurd (n t z l) }
    where
      at : (b : Bool) → taken p && (ltb 0 a && ltb a p) ≡ b → 0 ≡ cond (taken p && (ltb 0 a && ltb a p)) (inverse p a) 0
      at true e =
          let both = (and-eq-true_iff (taken p) _).0 e in
          let range = (and-eq-true_iff (ltb 0 a) _).0 both.1 in
          absurd (n both.0 (ltb-true 0 a range.0) (ltb-true a p range.1))
      at false e = rw e refl
