-- What is left after the first i parts is what the powers from the place i on multiply to.
use Rattle.std.proofs.Common.{◌≡◌, List, ◌∷◌, ℕ, ◌+◌, ◌<◌, length, get_or, subst}
use Rattle.modp_factors.specs.declared.Power.{Power}
use Rattle.modp_factors.specs.Factors.{Powers, held_powers, no_power}
use Rattle.parts.specs.declared.PartAndRest.{PartAndRest}
use Rattle.parts.specs.PowersFound.{PowersFound}
use Rattle.parts.specs.PowersLeft.{Left, FirstPart}
use Rattle.parts.proofs.PartsInTurn.{LeftAt, all_left, next_left, left_next}
use Rattle.test_parts.proofs.print_parts.Goals as goal

-- xs is the powers as a slice
module _ {p : ℕ} {f : List ℕ} {d : ℕ} {found : Powers} (F : PowersFound p f d found) {xs : List Power} (same : xs ≡ held_powers found)
    {i : ℕ} {rest : List ℕ} {e : ℕ} (l : i < length xs) (w : i < length (held_powers found) → LeftAt p f d found i rest e) where
  held : i < length (held_powers found)
  held = subst (λ ys. i < length ys) same l

  asks : (L : List Power) × Left p rest e (get_or xs i no_power ∷ L)
  asks = rw same (next_left F held (w held))

  goes : {r : PartAndRest} → FirstPart p rest e (get_or xs i no_power) r → i + 1 < length (held_powers found) → LeftAt p f d found (i + 1) r.rest r.degree
  goes {r} c = left_next F held (w held) (subst (λ ys. FirstPart p rest e (get_or ys i no_power) r) same c)

pub loop-x-init : goal.loop-x-init
loop-x-init g c l = all_left c.requires

pub next_part-next-requires : goal.next_part-next-requires
next_part-next-requires g c = asks c.requires c.as_slice-powers.ensures.value c.loop-x-test.true c.loop-x.invariant

pub loop-x-preserved : goal.loop-x-preserved
loop-x-preserved g c =
    goes c.requires c.as_slice-powers.ensures.value c.loop-x-test.true c.loop-x.invariant c.next_part-next.ensures
