-- The nodes that may be chosen, as they are read off what the machine keeps.
use Rattle.std.specs.Prelude.{◌≡◌, ℕ, ◌≤◌, ◌<◌, ◌⊎◌, ◌&&◌, ◌||◌, not, Bool, true, false, if◌then◌else◌, List, [], ◌∷◌, ◌++◌, length, map, Option, Some, None}
use Rattle.sg_frac.specs.Fractions.{Fraction}
use Rattle.sg_tree.specs.declared.fix.Fix.{Fix}
use Rattle.sg_bounds.specs.Regions.{prefix, IsNode}
use Rattle.sg_search.specs.Searches.{Task, Search}
use Rattle.sg_search.specs.Bounding.{exceeds, own_bound}
use Rattle.sg_search.specs.Changes.{MaySplit, MayTake}
use Rattle.sg_search.specs.Events.{IsChoice, MayBranch}
use Rattle.sg_lanes.specs.declared.ripe.Ripe.{Ripe}
use Rattle.sg_lanes.specs.declared.choose.Choice.{Choice}
use Rattle.sg_lanes.specs.declared.choose.Choice.TheVariants.{Take, Branch}
use Rattle.sg_lanes.specs.Bounds.{StandsFor}

-- whether a kept bound is there and above a value
abbrev pub is_over_by : Option Fraction → Fraction → Bool
is_over_by None v = false
is_over_by (Some b) v = exceeds b v

-- the waiting parts that may be taken: all or none, since they inherit one bound
abbrev pub open_parts : Option Fraction → Fraction → List Fix → List Fix
open_parts group value parts = if is_over_by group value then parts else []

-- the first list, or where it is empty the second
abbrev pub or_else : List Fix → List Fix → List Fix
or_else [] ys = ys
or_else (x ∷ xs) ys = x ∷ xs

abbrev pub ripe_nodes : List Ripe → List Fix
ripe_nodes ripe = map (λ (r : Ripe). r.node) ripe

-- the prefixes that may be split, once no cap node waits or is held
abbrev pub split_choices : List Fix → List Ripe → List Fix
split_choices [] ripe = ripe_nodes ripe
split_choices (x ∷ xs) ripe = []

abbrev pub choice_list : Option Fraction → Fraction → List Fix → List Fix → List Fix → List Ripe → List Fix
choice_list group value parts lone undone ripe = or_else (open_parts group value parts ++ lone) (split_choices undone ripe)

-- whether a list holds something
abbrev pub is_some_list : {X : Type 0} → List X → Bool
is_some_list [] = false
is_some_list (x ∷ xs) = true

-- whether the upper bound is above the incumbent, where something may be chosen: a part, a prefix to be split, or a part of the root that is not worked
abbrev pub is_open_by : Fraction → Option Fraction → Fraction → List Fix → List Fix → List Ripe → Bool
is_open_by root group value parts tops ripe = is_some_list (open_parts group value parts) || (is_some_list ripe || (is_some_list tops && exceeds root value))

-- ---- what was chosen

-- choice n: a node to take, or a prefix to split with its bound
abbrev pub IsChosen : Task → Search → ℕ → Choice → Type 0
IsChosen p s n (Take node) = IsChoice p s n node × MayTake p s node
IsChosen p s n (Branch acts bound) = IsChoice p s n (prefix acts) × MayBranch p s (prefix acts) × StandsFor (Some bound) (own_bound p.game s acts)

-- each node that may be taken is one of the game's
abbrev pub AreNodes : Task → Search → Type 0
AreNodes p s = (node : Fix) → MayTake p s node → IsNode p.game node
