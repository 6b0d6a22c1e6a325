-- What holds of every state of a search that events lead to.
use Rattle.std.specs.Prelude.{◌≡◌, ◌≢◌, ℕ, ◌≤◌, List, length, All, AllPairs, IfSome}
use Rattle.sg_model.specs.Payoffs.{IsPeopled}
use Rattle.sg_model.specs.Commitments.{IsCommitment}
use Rattle.sg_tree.specs.declared.worked.Worked.{Worked}
use Rattle.sg_bounds.specs.Regions.{prefix}
use Rattle.sg_bounds.specs.Caps.{AreCaps}
use Rattle.sg_bounds.specs.Accepted.{IsNotAbove, IsSplitTree}
use Rattle.sg_search.specs.Searches.{Task, Search, first_search, ArePlaced}
use Rattle.sg_search.specs.Bounding.{caps_of, fact_of, lower, tree_of, value_fraction}
use Rattle.sg_search.specs.Changes.{Change, Runs}
use Rattle.sg_search.specs.PlaceLaws.{IsInBudget}
use Rattle.sg_search.specs.CountLaws.{enough_nodes}
use Rattle.sg_search.specs.TreeLaws.{proved}
use Rattle.sg_search.specs.Results.{IsResult}

pub record IsSound (p : Task) (s : Search) : Type 0 where
  -- each known node is in exactly one place
  pub places : ArePlaced p.game s
  -- the worked nodes are all different
  pub differ : AllPairs (λ (w v : Worked). w.fix ≢ v.fix) s.worked
  -- worked and held nodes keep within the budget, and no more are worked than are enough
  pub budget : IsInBudget p s
  pub enough : length s.worked ≤ enough_nodes p.game
  -- the proved prefixes of the tree are the worked ones, with their facts
  pub proved : (acts : List ℕ) → proved (tree_of p.game s) acts ≡ fact_of s.worked (prefix acts)
  -- each worked node has a fact that holds for it and a point that reaches it
  pub results : All (IsResult p.game) s.worked
  -- so the tree is a split tree whose facts hold, and the caps are allowed
  pub tree : IsSplitTree p.game (tree_of p.game s)
  pub caps : AreCaps p.game (caps_of p.game s)
  -- the incumbent is no worse than the first commitment and each point
  pub first : IsNotAbove (value_fraction p.game p.first) (lower p s)
  pub points : All (λ (w : Worked). IfSome w.point (λ k. IsNotAbove (value_fraction p.game k.tickets) (lower p s))) s.worked

-- all lists of events that give results lead to such states
abbrev pub RunsAreSound : Type 0
RunsAreSound = (p : Task) → IsPeopled p.game → IsCommitment p.game p.first → (cs : List Change) (t : Search) → Runs p (first_search p) cs t → All (IsResult p.game) t.worked → IsSound p t
