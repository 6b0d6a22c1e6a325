-- What the machine keeps beside a search, so that no event goes over all nodes.
use Rattle.std.specs.Prelude.{◌≡◌, ℕ, ◌+◌, ◌≤◌, List, [], ◌∷◌, ◌++◌, map, ℤ, All, Option, Some}
use Rattle.sg_frac.specs.Fractions.{Fraction}
use Rattle.sg_commit.specs.Committed.{Committed, IsCommitted}
use Rattle.sg_tree.specs.declared.fix.Fix.{Fix}
use Rattle.sg_tree.specs.declared.report.Cap.{Cap}
use Rattle.sg_bounds.specs.Regions.{prefix}
use Rattle.sg_search.specs.Searches.{Task, Search, first_search, IsPartOf, IsCapNode, stuck_count, taken_count, worked_count}
use Rattle.sg_search.specs.Bounding.{caps_of, incumbent, inherited, lower, own_bound}
use Rattle.sg_search.specs.Changes.{Change, MaySplit, Runs}
use Rattle.sg_search.specs.Events.{AreChoices}
use Rattle.sg_search.specs.Results.{IsFirst, IsResult}
use Rattle.sg_model.specs.Payoffs.{IsPeopled, shift_of}
use Rattle.sg_bounds.specs.Leaves.{root_bound}
use Rattle.sg_lanes.specs.declared.ripe.Ripe.{Ripe}
use Rattle.sg_lanes.specs.Bounds.{Stands, StandsFor}

pub record Frontier : Type 0 where
  -- the bound of the root, and the shift of the game
  pub root : Fraction
  pub shift : ℤ
  -- the incumbent, its value, and the caps of the moment
  pub best : Committed
  pub value : Fraction
  pub caps : List Cap
  -- the parts of the last split that wait, and the bound that they inherit
  pub parts : List Fix
  pub group : Option Fraction
  -- the cap nodes that wait
  pub lone : List Fix
  -- the parts of the root that are not worked, and the cap nodes that are neither worked nor stuck
  pub tops : List Fix
  pub undone : List Fix
  -- the prefixes that may be split, with their bounds
  pub ripe : List Ripe

-- a prefix that may be split
abbrev pub IsRipe : Task → Search → Fix → Type 0
IsRipe p s x = (acts : List ℕ) × (x ≡ prefix acts) × MaySplit p s acts

pub record IsFrontier (p : Task) (s : Search) (f : Frontier) : Type 0 where
  -- the search is one that events lead to, and its worked nodes have results
  pub changes : List Change
  pub runs : Runs p (first_search p) changes s
  pub peopled : IsPeopled p.game
  pub few : p.nodes ≤ 1000000
  pub first : IsFirst p.game p.first
  pub root : Stands f.root (root_bound p.game)
  pub shift : f.shift ≡ shift_of p.game
  pub results : All (IsResult p.game) s.worked
  pub committed : IsCommitted f.best
  pub best : f.best.tickets ≡ incumbent p s
  pub value : Stands f.value (lower p s)
  pub caps : f.caps ≡ caps_of p.game s
  pub front : List (List ℕ)
  pub last : List ℕ
  pub splits : s.splits ≡ front ++ (last ∷ [])
  pub group : StandsFor f.group (inherited p.game s last)
  pub parts : AreChoices (λ x. IsPartOf p.game last x × (taken_count s x ≡ 0)) f.parts
  pub lone : AreChoices (λ x. IsCapNode p.game x × (taken_count s x ≡ 0)) f.lone
  pub tops : AreChoices (λ x. IsPartOf p.game [] x × (worked_count s x ≡ 0)) f.tops
  pub undone : AreChoices (λ x. IsCapNode p.game x × (worked_count s x + stuck_count s x ≡ 0)) f.undone
  pub ripe : AreChoices (IsRipe p s) (map (λ (r : Ripe). r.node) f.ripe)
  pub bounds : All (λ (r : Ripe). StandsFor (Some r.bound) (own_bound p.game s r.node.acts)) f.ripe
