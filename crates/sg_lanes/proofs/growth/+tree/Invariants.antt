use Rattle.std.proofs.Common.{◌≡◌, ◌+◌, ◌-◌, ◌*◌, ◌++◌, ◌∷◌, [], map, List, ℕ}
use Rattle.sg_model.specs.Sums.{numbers, numbers_from}
use Rattle.sg_bounds.specs.Trees.{Node, node_of}
use Rattle.sg_search.specs.Searches.{Search}
use Rattle.sg_search.specs.Bounding.{tree_at}
use Rattle.sg_lanes.specs.Ends.{HasFacts, HasSplits}
use Rattle.sg_lanes.proofs.growth.+tree.Given as goal

abbrev pub decreases-node : goal.decreases-node
decreases-node l = 2 * l.left

abbrev pub decreases-parts : goal.decreases-parts
decreases-parts l = 2 * l.left + 1

-- the parts so far, and those to come, are all
abbrev pub invariant-parts-loop-a : goal.invariant-parts-loop-a
invariant-parts-loop-a l = (s : Search) → HasFacts s.worked l.facts → HasSplits s.splits l.splits
    → map node_of l.parts ++ map (λ a. tree_at l.game s l.left (l.acts ++ (a ∷ []))) (numbers_from (l.a + 1) (l.count - l.a)) ≡ map (λ a. tree_at l.game s l.left (l.acts ++ (a ∷ []))) (numbers l.count)
