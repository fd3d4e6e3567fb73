-- `division::divide_in_place` meets its contract.
-- Assumes nothing.
use mathlib.Core.Path.{◌≡◌, sym, ◌∙◌, ap}
use Prim.Native.Nat.{ℕ, ◌<◌, ◌-◌, ◌%◌, ◌*◌}
use native.Mathlib.Nat.{mul-one, mod-eq_of_lt}
use native.Mathlib.Omega.{arith}
use borrow.Author.Rules.{rules}
use Rattle.algebra.specs.Degree.{below_up}
use Rattle.modular.proofs.AddMultiple.{lent_part, lent_added}
use Rattle.division.specs.DivisionLoop.{monic_by_one, division_none, division_more, division_passed}
use Rattle.division.proofs.divide_in_place.Goals as goal

-- the unit of a monic divisor is 1
once : {c n : ℕ} → c < n → c ≡ c * 1 % n
once {c} {n} l = sym (ap (λ (e : ℕ). e % n) (mul-one c) ∙ mod-eq_of_lt l)

pub new-modulus-requires : goal.new-modulus-requires
new-modulus-requires c = omega (arith, c.requires.0.low 0)

pub loop-top-init : goal.loop-top-init
loop-top-init c = rw c.requires.1 (division_none _ _ _ c.requires.2 c.requires.0 c.requires.3)

pub add_by-requires : goal.add_by-requires
add_by-requires c =
    let left = c.loop-top.invariant in
    let room = c.loop-top-test.true in
    rw c.new-modulus.ensures
    (lent_part _ _ _ left.remainder c.args.b.now.monic.reduced (below_up (omega arith) c.args.b.now.monic.monic.below) (omega (arith, room, left.limit)) (search rules))

pub loop-top-preserved-then-c-ne0 : goal.loop-top-preserved-then-c-ne0
loop-top-preserved-then-c-ne0 c =
    let left = c.loop-top.invariant in
    let low = left.remainder.low (c.loop-top.top - 1) in
    let room = c.loop-top-test.true in
    let added = lent_added _ _ _ _ _ left.remainder c.args.b.now.monic.monic.below (omega (arith, room, left.limit)) (rw c.new-modulus.ensures at c.add_by.ensures) in
    division_more _ _ _ (monic_by_one c.args.b.now.monic.monic) _ _ _ _ _ _ (search rules) (search rules) (once low) low left added

pub loop-top-preserved : goal.loop-top-preserved
loop-top-preserved c =
    let left = c.loop-top.invariant in
    let low = left.remainder.low (c.loop-top.top - 1) in
    division_passed _ _ _ (monic_by_one c.args.b.now.monic.monic) _ _ _ _ _ _ (search rules) (search rules) (once low) low (search rules) left
