-- `arrays::all_below` meets its contract.
-- Assumes nothing.
use Rattle.std.specs.List.{list_all}
use Rattle.std.proofs.Common.{rules, tests, ◌≡◌, ◌∙◌, ap, refl, ltb, ℕ, Bool, List, [], ◌∷◌, ◌&&◌}
use Rattle.std.proofs.lemmas.Iterator.{YieldsList-from_slice}
use Rattle.std.proofs.lemmas.Iterator.Search.{all_from_yields_List}
use Rattle.specification.specs.Lists.{all_pass}
use Rattle.arrays.proofs.all_below.Goals as goal

-- the kit's word and that of the documents
same_pass : (t : ℕ → Bool) (l : List ℕ) → list_all t l ≡ all_pass t l
unfolding all_pass
same_pass t [] = refl
same_pass t (x ∷ l) = ap (λ b. t x && b) (same_pass t l)

pub returns : goal.returns
returns c =
    let below : ℕ → Bool = λ x. ltb x c.args.n in
    all_from_yields_List below _ _ c.all.result c.all.ensures.ran (YieldsList-from_slice c.args.a cc) (λ x b q k. search (rules, tests))
    ∙ same_pass below c.args.a
