-- `splitter::copy_to` meets its contract: the pairs are those of the answer that stands in the array of its own.
-- Assumes nothing.
use mathlib.Core.Path.{◌≡◌, sym, ◌∙◌, ap, subst}
use mathlib.Core.List.{List}
use Prim.Native.Nat.{ℕ, ◌≤◌, ◌-◌}
use native.Mathlib.Omega.{arith}
use lib.ListN.{length, take}
use Rattle.specification.specs.Commands.{commands}
use Rattle.specification.specs.Copy.{sorted, copy_of}
use Rattle.specification.specs.CopyClaims.{pairs_in}
use Rattle.lists.specs.Members.{All}
use Rattle.layouts.specs.CommandsReadBack.{WellFormed}
use Rattle.area.specs.Wrote.{Wrote, wrote_as, room_as}
use Rattle.copy_writer.specs.SheetFigures.{commands_whole, pairs_fit, plain, plain_good, figures_are, copy_room}
use Rattle.splitter.proofs.ReadCall.{wrote_first}
use Rattle.splitter.proofs.copy_to.Goals as goal

-- what is lent on: the array up to the count
own : {old new bytes : List ℕ} {count : ℕ} → Wrote old new 0 bytes count → take (count - 0) new ≡ bytes
own {new = new} {count = count} w = ap (λ (k : ℕ). take k new) (let e : count - 0 ≡ count = omega arith in e) ∙ wrote_first w

pub sorted_pairs-pairs-requires : goal.sorted_pairs-pairs-requires
sorted_pairs-pairs-requires c =
    let s = c.args.s.sheet in (
      subst (λ (bytes : List ℕ). All WellFormed (commands bytes)) (sym (own c.answer_to-count.ensures)) (commands_whole (plain s)),
      subst (λ (bytes : List ℕ). length (pairs_in bytes) ≤ 32) (sym (own c.answer_to-count.ensures)) (pairs_fit (plain s) (plain_good s c.args.s.good)),
    )

pub write_copy-requires : goal.write_copy-requires
write_copy-requires c =
    room_as
    (ap copy_of (figures_are c.args.s.sheet c.args.s.monic c.sorted_pairs-pairs.result
    (c.sorted_pairs-pairs.ensures.1 ∙ ap (λ (bytes : List ℕ). sorted (pairs_in bytes)) (own c.answer_to-count.ensures))))
    (copy_room c.args.s.sheet c.args.s.good c.requires)

pub returns : goal.returns
returns c =
    wrote_as
    (ap copy_of (figures_are c.args.s.sheet c.args.s.monic c.sorted_pairs-pairs.result
    (c.sorted_pairs-pairs.ensures.1 ∙ ap (λ (bytes : List ℕ). sorted (pairs_in bytes)) (own c.answer_to-count.ensures))))
    c.write_copy.ensures
