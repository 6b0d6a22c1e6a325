-- Trees of splits by the actions of the types, in their order, with facts at the nodes.
use Rattle.std.specs.Prelude.{◌≡◌, ℕ, ◌+◌, ◌≤◌, List, [], ◌∷◌, ◌++◌, length, Option, Some, None}
use Rattle.sg_model.specs.Games.{Game, action_count}
use Rattle.sg_tree.specs.declared.fact.Fact.{Fact}
use Rattle.sg_tree.specs.declared.fix.Fix.{Fix}
use Rattle.sg_tree.specs.declared.tree.Tree.{Tree}
use Rattle.sg_tree.specs.declared.tree.Tree.TheOpen.{Tree-F}
use Rattle.sg_tree.specs.declared.tree.Tree.TheFolds.{fold-Tree}
use Rattle.sg_bounds.specs.Regions.{prefix}

-- a node: without a fact, closed by one, or split by a type, with its base and its parts
mutual
  pub data Node : Type 0 where
    unproved : Node
    closed : Fact → Node
    split : ℕ → Option Fact → Parts → Node

  pub data Parts : Type 0 where
    end : Parts
    part : Node → Parts → Parts

-- a list of nodes as parts
abbrev pub parts_of : List Node → Parts
parts_of [] = end
parts_of (t ∷ ts) = part t (parts_of ts)

-- how many parts there are
abbrev pub part_count : Parts → ℕ
part_count end = 0
part_count (part t rest) = part_count rest + 1

-- one node of a report's tree, with its parts read already
abbrev pub node_step : Tree-F Node → Node
node_step Tree-F.Unproved = unproved
node_step (Tree-F.Closed f) = closed f
node_step (Tree-F.Split l base parts) = split l base (parts_of parts)

-- the tree of a report, as nodes
abbrev pub node_of : Tree → Node
node_of = fold-Tree Node node_step

-- an open base, or a fact that is good at the fix
abbrev pub IsBase : (Fix → Fact → Type 0) → Fix → Option Fact → Type 0
IsBase Good fix None = Unit {0}
IsBase Good fix (Some f) = Good fix f

-- after these actions of the first types, each split is by the next type with one part for each of its actions, in order,
-- and each fact is good where the types are fixed to the actions that lead to it
abbrev mutual
  pub IsTreeOf : Game → (Fix → Fact → Type 0) → List ℕ → Node → Type 0
  IsTreeOf g Good acts unproved = Unit {0}
  IsTreeOf g Good acts (closed f) = Good (prefix acts) f
  IsTreeOf g Good acts (split l base parts) =
      (l ≡ length acts + 1) × (l ≤ length g.types) × IsBase Good (prefix acts) base × (part_count parts ≡ action_count g l) × ArePartsOf g Good acts 1 parts

  pub ArePartsOf : Game → (Fix → Fact → Type 0) → List ℕ → ℕ → Parts → Type 0
  ArePartsOf g Good acts a end = Unit {0}
  ArePartsOf g Good acts a (part t rest) = IsTreeOf g Good (acts ++ (a ∷ [])) t × ArePartsOf g Good acts (a + 1) rest

-- the root is a split with an open base
abbrev pub IsRoot : Node → Type 0
IsRoot unproved = ⊥
IsRoot (closed f) = ⊥
IsRoot (split l None parts) = Unit {0}
IsRoot (split l (Some f) parts) = ⊥
