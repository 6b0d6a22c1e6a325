-- The lines of a tree.
use Rattle.std.proofs.Common.{◌≡◌, ℕ, List, [], ◌∷◌, ◌++◌, length, map, Option, None, sym, ap, subst, ◌∙◌, refl, rules}
use Rattle.std.specs.List.{flat_map}
use Rattle.std.proofs.lemmas.List.{length-map}
use Rattle.sg_tree.specs.declared.fact.Fact.{Fact}
use Rattle.sg_tree.specs.declared.tree.Tree.{Tree}
use Rattle.sg_tree.specs.declared.tree.Tree.TheVariants.{Unproved, Closed, Split, rolls-Split, rolls-Unproved, rolls-Closed}
use Rattle.sg_tree.specs.declared.tree.Tree.TheOpen.{Tree-F}
use Rattle.sg_tree.specs.declared.tree.Tree.TheViews.{out-Tree, roll-Tree, the_lemmas}
use Rattle.sg_tree.specs.declared.tree.Tree.TheFolds.{fold-roll-Tree, ind-Tree}
use Rattle.sg_cert.specs.Text.{FieldRow, fact_rows, base_rows, rows_of_node, node_rows, split_row}

flat_rows : (ts : List Tree) → flat_map (λ (rows : List FieldRow). rows) (map node_rows ts) ≡ flat_map node_rows ts
flat_rows [] = refl
flat_rows (t ∷ ts) = ap (λ (rows : List FieldRow). node_rows t ++ rows) (flat_rows ts)

-- the equations of node_rows
pub rows_split : (l : ℕ) (base : Option Fact) (parts : List Tree) → node_rows (Split l base parts) ≡ (split_row l (length parts) ∷ base_rows base) ++ flat_map node_rows parts
rows_split l base parts = ap node_rows (sym (rolls-Split l base parts)) ∙ fold-roll-Tree (List FieldRow) rows_of_node (Tree-F.Split l base parts) ∙ rw length-map (ap (λ (rows : List FieldRow). (split_row l (length parts) ∷ base_rows base) ++ rows) (flat_rows parts))

pub rows_open : node_rows Unproved ≡ base_rows None
rows_open = ap node_rows (sym rolls-Unproved) ∙ fold-roll-Tree (List FieldRow) rows_of_node Tree-F.Unproved

pub rows_closed : (f : Fact) → node_rows (Closed f) ≡ fact_rows f
rows_closed f = ap node_rows (sym (rolls-Closed f)) ∙ fold-roll-Tree (List FieldRow) rows_of_node (Tree-F.Closed f)

-- a tree is one of the three
pub tree_cases : (P : Tree → Type 0) → P Unproved → ((f : Fact) → P (Closed f)) → ((l : ℕ) (base : Option Fact) (parts : List Tree) → P (Split l base parts)) → (t : Tree) → P t
tree_cases P a b c = ind-Tree P (λ x y is. layer x)
  where
    layer : (x : Tree-F Tree) → P (roll-Tree x)
    layer Tree-F.Unproved = subst P (sym rolls-Unproved) a
    layer (Tree-F.Closed f) = subst P (sym (rolls-Closed f)) (b f)
    layer (Tree-F.Split l base parts) = subst P (sym (rolls-Split l base parts)) (c l base parts)

pub out_is : (l : ℕ) (base : Option Fact) (parts : List Tree) → out-Tree (Split l base parts) ≡ Tree-F.Split l base parts
out_is l base parts = search (rules, the_lemmas)

pub out_open : out-Tree Unproved ≡ Tree-F.Unproved
out_open = search (rules, the_lemmas)

pub out_closed : (f : Fact) → out-Tree (Closed f) ≡ Tree-F.Closed f
out_closed f = search (rules, the_lemmas)
