-- The tree of a search: its proved prefixes are the worked ones, and where the facts hold it is a split tree whose facts hold.
use Rattle.std.specs.Prelude.{◌≡◌, ℕ, zero, suc, List, [], ◌∷◌, All, Option, Some, None}
use Rattle.sg_model.specs.Games.{Game}
use Rattle.sg_model.specs.Payoffs.{IsPeopled}
use Rattle.sg_tree.specs.declared.fact.Fact.{Fact}
use Rattle.sg_tree.specs.declared.worked.Worked.{Worked}
use Rattle.sg_bounds.specs.Regions.{prefix}
use Rattle.sg_bounds.specs.Facts.{HoldsFor}
use Rattle.sg_bounds.specs.Trees.{Node, unproved, closed, split, Parts, end, part}
use Rattle.sg_bounds.specs.Accepted.{IsSplitTree}
use Rattle.sg_search.specs.Searches.{Task, Search, first_search}
use Rattle.sg_search.specs.Bounding.{fact_of, tree_of}
use Rattle.sg_search.specs.Changes.{Change, Runs}

-- the fact that a tree has where these actions lead, as a closed part or as the base of a split
abbrev mutual
  pub proved : Node → List ℕ → Option Fact
  proved unproved acts = None
  proved (closed f) [] = Some f
  proved (closed f) (a ∷ acts) = None
  proved (split l base parts) [] = base
  proved (split l base parts) (a ∷ acts) = proved_in parts a acts

  pub proved_in : Parts → ℕ → List ℕ → Option Fact
  proved_in end a acts = None
  proved_in (part t rest) zero acts = None
  proved_in (part t rest) (suc zero) acts = proved t acts
  proved_in (part t rest) (suc (suc a)) acts = proved_in rest (suc a) acts

-- the proved prefixes of the tree are the worked ones, with their facts
abbrev pub ProvedAreWorked : Type 0
ProvedAreWorked = (p : Task) → IsPeopled p.game → (cs : List Change) (t : Search) → Runs p (first_search p) cs t
    → (acts : List ℕ) → proved (tree_of p.game t) acts ≡ fact_of t.worked (prefix acts)

-- each worked node's fact holds for it
abbrev pub AreFacts : Game → Search → Type 0
AreFacts g s = All (λ (w : Worked). HoldsFor g w.fix w.fact) s.worked

-- then the tree is a split tree whose facts hold
abbrev pub TreeHolds : Type 0
TreeHolds = (p : Task) → IsPeopled p.game → (cs : List Change) (t : Search) → Runs p (first_search p) cs t → AreFacts p.game t → IsSplitTree p.game (tree_of p.game t)
