-- The nodes of a report's tree.
use Rattle.std.proofs.Common.{◌≡◌, ℕ, List, [], ◌∷◌, map, length, Option, sym, ap, ◌∙◌, refl, arith}
use Rattle.sg_tree.specs.declared.fact.Fact.{Fact}
use Rattle.sg_tree.specs.declared.tree.Tree.{Tree}
use Rattle.sg_tree.specs.declared.tree.Tree.TheVariants.{Unproved, Closed, Split, rolls-Split, rolls-Unproved, rolls-Closed}
use Rattle.sg_tree.specs.declared.tree.Tree.TheOpen.{Tree-F}
use Rattle.sg_tree.specs.declared.tree.Tree.TheFolds.{fold-roll-Tree}
use Rattle.sg_bounds.specs.Trees.{Node, unproved, closed, split, node_of, node_step, parts_of, part_count}

pub node_of-Split : (l : ℕ) (base : Option Fact) (parts : List Tree) → node_of (Split l base parts) ≡ split l base (parts_of (map node_of parts))
node_of-Split l base parts = ap node_of (sym (rolls-Split l base parts)) ∙ fold-roll-Tree Node node_step (Tree-F.Split l base parts)

pub node_of-Unproved : node_of Unproved ≡ unproved
node_of-Unproved = ap node_of (sym rolls-Unproved) ∙ fold-roll-Tree Node node_step Tree-F.Unproved

pub node_of-Closed : (f : Fact) → node_of (Closed f) ≡ closed f
node_of-Closed f = ap node_of (sym (rolls-Closed f)) ∙ fold-roll-Tree Node node_step (Tree-F.Closed f)

pub part_count-length : (parts : List Tree) → part_count (parts_of (map node_of parts)) ≡ length parts
part_count-length [] = refl
part_count-length (x ∷ xs) = omega (arith, part_count-length xs)
