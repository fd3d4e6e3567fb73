-- Trees with what they are worked to, as one table with one theorem: the sheets that they mean, and the numbers 16, 4 and 17 in their order.
-- `TypedTrials` has such lines from their bytes on, and is proved where lines are read; here the definitions give the table by themselves. A row has the
-- prime, the tree and its outcome.
use Rattle.std.specs.Prelude.{◌≡◌, refl, List, [], ◌∷◌, map, ℕ}
use Rattle.specification.specs.Calls.{Outcome, success, refused}
use Rattle.specification.specs.Grammar.{Tree, number, variable, power, times, plus, minus}
use Rattle.specification.specs.TypedLines as lines
use Rattle.specification.specs.Open.{everything}
use Rattle.specification.specs.Edges.{example}

-- a row of the table
pub record TreeTrial : Type 0 where
  pub prime : ℕ
  pub tree : Tree
  pub outcome : Outcome

-- a row, in the order of its fields
abbrev trial : ℕ → Tree → Outcome → TreeTrial
trial p t o = record { prime = p; tree = t; outcome = o }

-- what the definitions give for a row's tree
abbrev worked : TreeTrial → TreeTrial
worked r = trial r.prime r.tree (lines.worked r.prime r.tree)

-- x to the power e
abbrev x^ : ℕ → Tree
x^ e = power variable e

-- the tree with x added: monic of degree 1, if the tree means zero
abbrev with_x : Tree → Tree
with_x t = plus t variable

abbrev pub tree_trials : List TreeTrial
tree_trials =
    -- (x + 1)²(x + 4) modulo 9
    trial 3 (times (power (plus variable (number 1)) 2) (plus variable (number 4))) (success example)
    -- "as a term it is taken modulo p²": x² + 3x + 3 modulo 4
    ∷ trial 2 (plus (plus (x^ 2) (times (number 65535) variable)) (number 7))
    (success (0x01 ∷ 2 ∷ 0x02 ∷ 2 ∷ 0x03 ∷ 0 ∷ 3 ∷ 0x03 ∷ 1 ∷ 3 ∷ 0x0F ∷ []))
    -- 16: "a number over 65,535 or an exponent over 32"; the prime is a number too, and 16 comes before 4
    ∷ trial 65536 variable (refused 16 0)
    ∷ trial 4 (minus (plus variable (number 65536)) (number 65536)) (refused 16 0)
    ∷ trial 4 (x^ 33) (refused 16 0)
    -- 4 comes before 17
    ∷ trial 65535 (times (x^ 32) variable) (refused 4 0)
    -- 17: "a power .., or a product .., whose degrees call for more than 32", though the value vanishes: each means zero modulo 4, and x is added
    ∷ trial 2 (with_x (power (times (number 2) (x^ 17)) 2)) (refused 17 0)
    ∷ trial 2 (with_x (times (times (number 2) (x^ 20)) (times (number 2) (x^ 20)))) (refused 17 0)
    -- and no others: a product with zero
    ∷ trial 2 (with_x (times (times (number 0) (x^ 32)) (x^ 32))) (success (0x01 ∷ 2 ∷ 0x02 ∷ 1 ∷ 0x0F ∷ []))
    -- 17: "a value that is not monic of degree 1 to 32"
    ∷ trial 3 (times (number 2) variable) (refused 17 0)
    ∷ trial 3 (x^ 0) (refused 17 0)
    ∷ []

-- each row is what the definitions give
pub tree_trials_hold : map worked tree_trials ≡ tree_trials
unfolding everything
tree_trials_hold = refl
