-- The rows of a tree, by its nodes.
use Rattle.std.proofs.Common.{◌≡◌, ℕ, List, [], ◌∷◌, ◌++◌, length, map, refl, sym, ap, subst, ◌∙◌, arith, length-append, Option, Some, None}
use Rattle.std.specs.List.{flat_map}
use Rattle.std.proofs.lemmas.List.{length-map}
use Rattle.sg_tree.specs.declared.fact.Fact.{Fact}
use Rattle.sg_tree.specs.declared.fact.Fact.TheVariants.{Plays, Cover, Water}
use Rattle.sg_tree.specs.declared.report.Cap.{Cap}
use Rattle.sg_tree.specs.declared.tree.Tree.{Tree}
use Rattle.sg_tree.specs.declared.tree.Tree.TheVariants.{Split, rolls-Split, rolls-Unproved, rolls-Closed}
use Rattle.sg_tree.specs.declared.tree.Tree.TheOpen.{Tree-F}
use Rattle.sg_tree.specs.declared.tree.Tree.TheViews.{roll-Tree}
use Rattle.sg_tree.specs.declared.tree.Tree.TheFolds.{ind-Tree, map-Tree}
use Rattle.sg_cert.specs.Text.{FieldRow, base_rows, cap_rows, fact_rows, line_row, mark_row, node_rows, split_row}
use Rattle.sg_cert.proofs.Trees.{rows_closed, rows_open, rows_split}
use Rattle.sg_bounds.specs.Trees.{Node, unproved, closed, split, Parts, end, part, node_of, part_count, parts_of}
use Rattle.sg_bounds.specs.Checking.{base_lines, cap_lines, fact_lines, part_lines, proof_lines, tree_lines}
use Rattle.sg_bounds.proofs.Nodes.{node_of-Closed, node_of-Split, node_of-Unproved, part_count-parts_of}

abbrev mutual
  pub rows_of : Node → List FieldRow
  rows_of unproved = base_rows None
  rows_of (closed f) = fact_rows f
  rows_of (split l base parts) = split_row l (part_count parts) ∷ (base_rows base ++ part_rows parts)

  pub part_rows : Parts → List FieldRow
  part_rows end = []
  part_rows (part t rest) = rows_of t ++ part_rows rest

abbrev AreRows : Tree → Type 0
AreRows t = node_rows t ≡ rows_of (node_of t)

parts_are : (ts : List ((t : Tree) × AreRows t)) → flat_map node_rows (map (λ e. e.0) ts) ≡ part_rows (parts_of (map node_of (map (λ e. e.0) ts)))
parts_are [] = refl
parts_are (e ∷ ts) = ap (λ (rows : List FieldRow). rows ++ flat_map node_rows (map (λ e. e.0) ts)) e.1 ∙ ap (λ (rows : List FieldRow). rows_of (node_of e.0) ++ rows) (parts_are ts)

split_are : (l : ℕ) (base : Option Fact) (ts : List Tree) → flat_map node_rows ts ≡ part_rows (parts_of (map node_of ts)) → AreRows (Split l base ts)
split_are l base ts e =
    let count : length ts ≡ part_count (parts_of (map node_of ts)) = sym (part_count-parts_of (map node_of ts) ∙ length-map ts node_of) in
    rows_split l base ts
    ∙ ap (λ (rows : List FieldRow). split_row l (length ts) ∷ (base_rows base ++ rows)) e
    ∙ ap (λ (n : ℕ). split_row l n ∷ (base_rows base ++ part_rows (parts_of (map node_of ts)))) count
    ∙ ap rows_of (sym (node_of-Split l base ts))

layer : (y : Tree-F ((t : Tree) × AreRows t)) → AreRows (roll-Tree (map-Tree ((t : Tree) × AreRows t) Tree (λ e. e.0) y))
layer Tree-F.Unproved = subst AreRows (sym rolls-Unproved) (rows_open ∙ ap rows_of (sym node_of-Unproved))
layer (Tree-F.Closed f) = subst AreRows (sym (rolls-Closed f)) (rows_closed f ∙ ap rows_of (sym (node_of-Closed f)))
layer (Tree-F.Split l base parts) = subst AreRows (sym (rolls-Split l base (map (λ e. e.0) parts))) (split_are l base (map (λ e. e.0) parts) (parts_are parts))

pub rows_are : (t : Tree) → node_rows t ≡ rows_of (node_of t)
rows_are = ind-Tree AreRows (λ x y is. subst (λ z. AreRows (roll-Tree z)) is (layer y))

-- ---- how many rows there are

pub fact_count : (f : Fact) → length (fact_rows f) ≡ fact_lines f
fact_count (Plays rho mu marks) = let e : length (map mark_row marks) ≡ length marks = length-map marks mark_row in omega (arith, e)
fact_count (Cover rho mu lines) = let e : length (map line_row lines) ≡ length lines = length-map lines line_row in omega (arith, e)
fact_count (Water level why) = refl

pub proof_count : (fs : List Fact) → length (flat_map fact_rows fs) ≡ proof_lines fs
proof_count [] = refl
proof_count (f ∷ fs) = omega (arith, length-append (fact_rows f) (flat_map fact_rows fs), fact_count f, proof_count fs)

pub caps_count : (cs : List Cap) → length (flat_map cap_rows cs) ≡ cap_lines cs
caps_count [] = refl
caps_count (c ∷ cs) = omega (arith, length-append (cap_rows c) (flat_map cap_rows cs), proof_count c.proof, caps_count cs)

pub base_count : (b : Option Fact) → length (base_rows b) ≡ base_lines b
base_count None = refl
base_count (Some f) = fact_count f

mutual
  pub tree_count : (t : Node) → length (rows_of t) ≡ tree_lines t
  tree_count unproved = refl
  tree_count (closed f) = fact_count f
  tree_count (split l base parts) = omega (arith, length-append (base_rows base) (part_rows parts), base_count base, parts_count parts)

  pub parts_count : (parts : Parts) → length (part_rows parts) ≡ part_lines parts
  parts_count end = refl
  parts_count (part t rest) = omega (arith, length-append (rows_of t) (part_rows rest), tree_count t, parts_count rest)
