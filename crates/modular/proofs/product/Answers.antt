-- `modular::product` meets its contract. A term of a that is 0 adds nothing.
-- Assumes nothing.
use mathlib.Core.List.{List}
use Prim.Native.Nat.{ℕ, ◌-◌}
use native.Mathlib.Omega.{arith}
use borrow.Rule.Slice.PartMut.{mid_of}
use lib.ListN.{get_or}
use borrow.Author.Rules.{rules}
use Rattle.algebra.specs.Degree.{below_up}
use Rattle.arrays.specs.SameEntries.{zero_above}
use Rattle.modular.specs.InPlace.{Added}
use Rattle.modular.proofs.AddMultiple.{part_within, multiple_added}
use Rattle.modular.proofs.ProductLoop.{product_none, product_more, product_passed, product_done}
use Rattle.modular.proofs.product.Goals as goal

pub new-modulus-requires : goal.new-modulus-requires
new-modulus-requires c = omega (arith, c.requires.0.low 0)

pub loop-i-init : goal.loop-i-init
loop-i-init c = product_none _ _ _ (omega (arith, c.requires.0.low 0))

pub add_by-requires : goal.add_by-requires
add_by-requires c =
    let pre = c.requires in
    let loop = c.loop-i in (
      omega (arith, pre.0.low loop.i),
      search rules,
      search rules,
      rw c.new-modulus.ensures (part_within loop.i _ loop.invariant.reduced (search rules)),
      rw c.new-modulus.ensures pre.1.low,
      zero_above pre.1 pre.5,
    )

pub loop-i-preserved : goal.loop-i-preserved
loop-i-preserved c =
    let pre = c.requires in
    let inv = c.loop-i.invariant in
    let passed = product_passed _ _ _ inv (search rules) in
    let more = λ (v : List ℕ) (h : Added c.new-modulus.result.n (mid_of c.loop-i.i (33 - c.loop-i.i) c.loop-i.r) (get_or c.args.a c.loop-i.i 0) c.args.b v).
    product_more _ _ _ inv (search rules) (multiple_added _ _ _ _ _ inv.reduced pre.5 (search rules) (rw c.new-modulus.ensures at h)) in
    grind (arith, passed, more)

pub returns : goal.returns
returns c = product_done _ _ _ c.loop-i.invariant (below_up (search rules) c.requires.4)
