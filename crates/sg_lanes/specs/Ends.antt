-- What a search gives at its end, and how its tree is found.
use Rattle.std.specs.Prelude.{◌≡◌, ℕ, List, [], ◌∷◌, Option, Some, None, option_map}
use Rattle.std.specs.Ordering.{nat_cmp}
use Rattle.std.specs.Cmp.Lexicographic.{slice_cmp}
use Rattle.std.specs.BTreeMap.{BTreeMap, get_by}
use Rattle.std.specs.BTreeSet.{BTreeSet, contains_by}
use denote.Ref.{Bor}
use Rattle.sg_commit.specs.Committed.{IsCommitted}
use Rattle.sg_tree.specs.declared.fact.Fact.{Fact}
use Rattle.sg_tree.specs.declared.report.Cause.{Cause}
use Rattle.sg_tree.specs.declared.worked.Worked.{Worked}
use Rattle.sg_bounds.specs.Regions.{prefix}
use Rattle.sg_bounds.specs.Trees.{node_of}
use Rattle.sg_search.specs.declared.held.Stuck.{Stuck}
use Rattle.sg_search.specs.Searches.{Task, Search}
use Rattle.sg_search.specs.Bounding.{caps_of, fact_of, incumbent, is_split, lower, tree_of}
use Rattle.sg_lanes.specs.Bounds.{Stands}
use Rattle.sg_lanes.specs.declared.end.End.{End}

-- at the list of a prefix a map has the fact of that prefix, where it is worked
abbrev pub HasFacts : List Worked → BTreeMap (Bor (List ℕ)) (Bor Fact) → Type 0
HasFacts worked facts = (acts : List ℕ) → option_map (λ (f : Bor Fact). f.now) (get_by (λ (k : Bor (List ℕ)). slice_cmp nat_cmp acts k.now) facts) ≡ fact_of worked (prefix acts)

-- a set has the lists of the split prefixes
abbrev pub HasSplits : List (List ℕ) → BTreeSet (Bor (List ℕ)) → Type 0
HasSplits splits lists = (acts : List ℕ) → contains_by (λ (k : Bor (List ℕ)). slice_cmp nat_cmp acts k.now) lists ≡ is_split splits acts

-- why the first stuck node is stuck
abbrev pub first_cause : List Stuck → Option Cause
first_cause [] = None
first_cause (x ∷ xs) = Some x.cause

-- the incumbent with its value, the caps of the moment, the tree, the worked nodes in the order in which they were finished, and the cause of the
-- first stuck node
pub record IsEndOf (p : Task) (s : Search) (e : End) : Type 0 where
  pub committed : IsCommitted e.tickets
  pub tickets : e.tickets.tickets ≡ incumbent p s
  pub value : Stands e.value (lower p s)
  pub caps : e.caps ≡ caps_of p.game s
  pub tree : node_of e.tree ≡ tree_of p.game s
  pub worked : e.worked ≡ s.worked
  pub stuck : e.stuck ≡ first_cause s.stuck
