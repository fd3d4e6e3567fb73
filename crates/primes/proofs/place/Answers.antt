-- `primes::place` meets its contract: antt computes that the list is the specification's, and what the search finds in it is the place.
-- Assumes nothing.
use Rattle.std.specs.List.{position_or_len}
use Rattle.std.proofs.Common.{rules, tests, sym, ap, ⊎_elim, ◌≡◌, ◌∙◌, ℕ, Bool, true, false, cond, Option, Some, None, eqb, ltb, length, arith}
use Rattle.std.proofs.lemmas.Bool.{false≢true, cases_Bool}
use Rattle.std.proofs.lemmas.List.Sums.{fails_before_first, passes_at_first}
use Rattle.std.proofs.lemmas.Iterator.{YieldsList-from_slice}
use Rattle.std.proofs.lemmas.Iterator.Search.{position_from_yields_List}
use borrow.Author.Tests.{eq-eqb, eqb-true, ltb-true, ltb-false}
use Rattle.specification.specs.Limits.{primes}
use Rattle.primes.specs.PrimePlaces.{Place, place_found, place_none}
use Rattle.primes.proofs.place.Goals as goal

module _ (p : ℕ) where
  abbrev is : ℕ → Bool
  is q = eqb q p

  abbrev first : ℕ
  first = position_or_len is primes

  -- what the search gives, by whether it ends within the list
  abbrev given : Bool → Option ℕ
  given b = cond b (Some first) None

  searched : ltb first (length primes) ≡ true → {r : Option ℕ} → r ≡ Some first → Place p r
  searched e g = rw g (let l = ltb-true first _ e in place_found p first l (eqb-true _ p (passes_at_first is primes 0 l)))

  missed : ltb first (length primes) ≡ false → {r : Option ℕ} → r ≡ None → Place p r
  missed e g =
      rw g (place_none p (λ k l u. false≢true (sym (fails_before_first is primes k 0 (omega (arith, ltb-false first _ e))) ∙ eq-eqb _ _ u)))

pub returns : goal.returns
unfolding primes
returns c =
    let p = c.args.prime in
    let found = position_from_yields_List (is p) _ _ c.position.result c.position.ensures.ran (YieldsList-from_slice primes cc)
    (λ x b q k. search (rules, tests)) in
    ⊎_elim (λ e. let at : c.position.result ≡ Some (first p) = found ∙ ap (given p) e in searched p e (search (rules, at)))
    (λ e. let none : c.position.result ≡ None = found ∙ ap (given p) e in missed p e (search (rules, none)))
    (cases_Bool (ltb (first p) (length primes)))
