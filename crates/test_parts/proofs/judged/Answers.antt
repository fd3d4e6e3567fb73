-- A record that is not turned back is proper, and its polynomial monic and not of degree 0.
use Rattle.std.proofs.Common.{rules, arith, ◌≡◌, true, sym, ◌∙◌}
use Rattle.arrays.specs.Trimming.{length_trim}
use Rattle.test_parts.proofs.judged.Goals as goal

pub returns : goal.returns
returns c =
    let is : c.proper.result ≡ true = search rules in
    record {
      proper_is = sym c.proper.ensures ∙ is;
      monic = sym c.leading.ensures ∙ omega arith;
      positive = λ s. omega (arith, length_trim c.size.ensures, s);
    }
