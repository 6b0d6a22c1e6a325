-- After every list of events each known node is in exactly one place, and the worked nodes are all different.
use Rattle.std.specs.Prelude.{◌≡◌, ◌≢◌, ◌+◌, ◌≤◌, ◌⊎◌, List, [], ◌∷◌, length, AllPairs}
use Rattle.sg_tree.specs.declared.worked.Worked.{Worked}
use Rattle.sg_search.specs.Searches.{Task, Search, first_search, ArePlaced, busy_count}
use Rattle.sg_model.specs.Payoffs.{IsPeopled}
use Rattle.sg_search.specs.Changes.{CapsAreDone, Change, Runs}

-- each known node is in exactly one place
abbrev pub KnownInOnePlace : Type 0
KnownInOnePlace = (p : Task) → IsPeopled p.game → (cs : List Change) (t : Search) → Runs p (first_search p) cs t → ArePlaced p.game t

-- the worked nodes are all different
abbrev pub WorkedDiffer : Type 0
WorkedDiffer = (p : Task) → IsPeopled p.game → (cs : List Change) (t : Search) → Runs p (first_search p) cs t → AllPairs (λ (w v : Worked). w.fix ≢ v.fix) t.worked

-- worked and held nodes keep within the budget, and there are as many lanes as at first
pub record IsInBudget (p : Task) (s : Search) : Type 0 where
  pub nodes : length s.worked + busy_count s ≤ p.nodes
  pub lanes : length s.lanes ≡ p.lanes

abbrev pub BudgetKept : Type 0
BudgetKept = (p : Task) → IsPeopled p.game → (cs : List Change) (t : Search) → Runs p (first_search p) cs t → IsInBudget p t

-- while a cap node waits or is held, the root alone is split: so the caps change only while the tree has one level
abbrev pub SplitWhenCapsAreDone : Type 0
SplitWhenCapsAreDone = (p : Task) → IsPeopled p.game → (cs : List Change) (t : Search) → Runs p (first_search p) cs t → (t.splits ≡ [] ∷ []) ⊎ CapsAreDone p.game t
