-- What holds where no event may happen.
use Rattle.std.specs.Prelude.{◌≡◌, ℕ, ◌≤◌, ◌⊎◌, true, List, length, All, Contains}
use Rattle.sg_model.specs.Payoffs.{IsPeopled}
use Rattle.sg_tree.specs.declared.fix.Fix.{Fix}
use Rattle.sg_bounds.specs.Leaves.{tree_bounds_of}
use Rattle.sg_bounds.specs.Accepted.{IsNotAbove}
use Rattle.sg_search.specs.Searches.{Task, Search, first_search, busy_count, worked_count, stuck_count, IsPartOf}
use Rattle.sg_search.specs.Bounding.{caps_of, inherited, is_over, lower, tree_of}
use Rattle.sg_search.specs.Changes.{Change, Runs, IsStill, CapsAreDone, MaySplit}

-- no leaf's bound is above the incumbent
abbrev pub IsClosed : Task → Search → Type 0
IsClosed p s = All (λ b. IsNotAbove b (lower p s)) (tree_bounds_of p.game (caps_of p.game s) (tree_of p.game s))

-- what is open is stuck: each part of a split that isn't worked and whose bound is above the incumbent, and each cap node that
-- isn't worked; and no worked prefix above the incumbent is left to be split
pub record IsBarred (p : Task) (s : Search) : Type 0 where
  pub parts : (acts : List ℕ) (node : Fix) → Contains s.splits acts → IsPartOf p.game acts node → is_over p s (inherited p.game s acts) ≡ true → worked_count s node ≡ 0 → 1 ≤ stuck_count s node
  pub splits : (acts : List ℕ) → ¬ (MaySplit p s acts)
  pub caps : CapsAreDone p.game s

-- a search ends with all lanes free, because its bounds meet, its nodes are spent, or what is open is stuck
abbrev pub IsEnded : Task → Search → Type 0
IsEnded p s = (busy_count s ≡ 0) × (IsClosed p s ⊎ (length s.worked ≡ p.nodes) ⊎ IsBarred p s)

abbrev pub EndMeans : Type 0
EndMeans = (p : Task) → IsPeopled p.game → 1 ≤ p.lanes → (cs : List Change) (t : Search) → Runs p (first_search p) cs t → IsStill p t → IsEnded p t
