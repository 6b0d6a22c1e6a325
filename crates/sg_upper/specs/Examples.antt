-- Upper bounds of trees of a game of two types, worked out by hand: two rows, priors 1, payoffs of the defender from 1 to 4.
use Rattle.std.specs.Prelude.{◌≡◌, ◌^◌, [], ◌∷◌, Option, Some, None, Ok, Err, pos}
use Rattle.sg_num.specs.declared.step.Wide.{Wide}
use Rattle.sg_num.specs.Operations.{plus, times}
use Rattle.sg_frac.specs.Fractions.{Fraction}
use Rattle.sg_model.specs.Examples.{two_players}
use Rattle.sg_tree.specs.declared.fact.Fact.{Fact}
use Rattle.sg_bounds.specs.Examples.{over, over_plays, plain_cap}
use Rattle.sg_bounds.specs.Trees.{Node, closed, end, part, split, unproved}
use Rattle.sg_upper.specs.TreeSteps.{IsUpper, node_steps}

-- the root's parts for the two actions of the first type
abbrev pub for_both : Node → Node → Node
for_both first second = split 1 None (part first (part second end))

-- a node of the first action, split by the second type under this base
abbrev pub under : Option Fact → Node → Node → Node
under base first second = split 2 base (part first (part second end))

-- of a value, with a plain cap of 4 for the second type
abbrev pub Comes : Fraction → Node → Fraction → Type 0
Comes value t top = IsUpper two_players value (plain_cap 2 4) t (Ok top)

-- the first operation that doesn't fit
abbrev pub Stops : Node → Wide → Type 0
Stops t w = IsUpper two_players (over 1 1) (plain_cap 2 4) t (Err w)

pub record UppersAreWorked : Type 0 where
  -- (3 + 4) / 2 on the left, and the greatest payoffs (4 + 4) / 2 on the right, which is open
  pub open_part : Comes (over 1 1) (for_both (closed (over_plays 1 3 [])) unproved) (over 4 1)
  -- the open part has the bound of its base, (2 + 4) / 2, and not that of the root; the fact of its neighbour bounds nothing; the right one is (3 + 4) / 2
  pub base : Comes (over 1 1) (for_both (under (Some (over_plays 1 2 [])) unproved (closed (over_plays 1 0 []))) (closed (over_plays 1 3 []))) (over 7 2)
  -- a base whose region is empty leaves its open part out; the value is greater than (1 + 4) / 2
  pub empty_base : Comes (over 3 1) (for_both (under (Some (over_plays 1 0 [])) unproved unproved) (closed (over_plays 1 1 []))) (over 3 1)
  -- where both types are fixed no cap is added: 5 / (2 * 2)
  pub both_fixed : Comes (over 1 1) (for_both (under None (closed (over_plays 2 5 [])) (closed (over_plays 1 1 []))) (closed (over_plays 1 0 []))) (over 5 4)
  -- each operation in the order of the lines: a base before its parts, and of a fact its product with the rest, the sum, and its product with the priors
  pub steps : node_steps two_players (plain_cap 2 4) 0 (for_both (under (Some (over_plays 1 2 [])) (closed (over_plays 3 5 [])) unproved) (closed (over_plays 7 3 [])))
      ≡ times (pos 1) (pos 4) ∷ plus (pos 2) (pos 4) ∷ times (pos 1) (pos 2) ∷ times (pos 3) (pos 0) ∷ plus (pos 5) (pos 0) ∷ times (pos 3) (pos 2) ∷ times (pos 7) (pos 4) ∷ plus (pos 3) (pos 28) ∷ times (pos 7) (pos 2) ∷ []
  -- the product with the rest, the sum, and the product with the priors, each as the first that doesn't fit, before a later one that doesn't either
  pub rest : Stops (for_both (closed (over_plays (2 ^ 125) 1 [])) (closed (over_plays (2 ^ 126) 1 []))) (times (pos (2 ^ 125)) (pos 4))
  pub sum : Stops (for_both (closed (over_plays (2 ^ 124) (2 ^ 126) [])) (closed (over_plays (2 ^ 126) 1 []))) (plus (pos (2 ^ 126)) (pos (2 ^ 126)))
  pub priors : Stops (for_both (under None unproved (closed (over_plays (2 ^ 126) 1 []))) (closed (over_plays (2 ^ 125) 1 []))) (times (pos (2 ^ 126)) (pos 2))
  -- a fact whose region is empty forms nothing
  pub nothing : node_steps two_players (plain_cap 2 4) 0 (for_both (closed (over_plays (2 ^ 126) 0 [])) unproved) ≡ []
