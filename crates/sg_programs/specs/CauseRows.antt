-- What each cause of a gap says, and where a search may end with a gap.
use Rattle.std.specs.Prelude.{◌≡◌, ◌≢◌, ◌⊎◌, ℕ, zero, suc, ◌+◌, ◌-◌, ◌<◌, ◌≤◌, List, [], ◌∷◌, ◌++◌, length, flat_map, sum_by, All, AllPairs, Contains, Option, Some, None, true}
use Rattle.sg_num.specs.declared.step.Wide.{Wide}
use Rattle.sg_model.specs.Games.{Game, action_count}
use Rattle.sg_frac.specs.Fractions.{Fraction}
use Rattle.sg_tree.specs.declared.fact.Fact.{Fact}
use Rattle.sg_tree.specs.declared.fix.Fix.{Fix}
use Rattle.sg_tree.specs.declared.report.Cap.{Cap}
use Rattle.sg_tree.specs.declared.report.Cause.{Cause}
use Rattle.sg_tree.specs.declared.report.Cause.TheVariants as cause
use Rattle.sg_tree.specs.declared.report.Report.{Report}
use Rattle.sg_tree.specs.declared.worked.Worked.{Worked}
use Rattle.sg_bounds.specs.Caps.{cap_of}
use Rattle.sg_bounds.specs.Facts.{HoldsFor}
use Rattle.sg_bounds.specs.Leaves.{base_bound, fact_bound, root_bound}
use Rattle.sg_bounds.specs.Regions.{IsNode, alone, prefix}
use Rattle.sg_bounds.specs.Trees.{Node, Parts, closed, end, node_of, part, split, unproved}
use Rattle.sg_search.specs.Bounding.{exceeds}
use Rattle.sg_search.specs.CountLaws.{enough_nodes}
use Rattle.sg_search.specs.Results.{IsPointOf}
use Rattle.sg_lp.specs.Moves.{AreAbove, IsEntering, IsFinal, IsLeaving, NamedStep, Runs, first_shown, move_steps}
use Rattle.sg_lp.specs.States.{Tableau}
use Rattle.sg_lp.specs.declared.column.Enter.{Enter}
use Rattle.sg_lp.specs.declared.column.Enter.TheVariants.{Slack, Col}
use Rattle.sg_programs.specs.Enough.{enough_looks, node_budget}
use Rattle.sg_programs.specs.NodeTests.{Method}
use Rattle.sg_programs.specs.Plays.{plays_program}
use Rattle.sg_programs.specs.Shown.{EndShows, ShowsOr, fact_at}

-- ---- the values of a state

-- what is formed before a member's move: nothing where it is a slack, and else what pricing forms
abbrev pub prices_before : Method → Fix → Tableau → Enter → List NamedStep
prices_before m fix t (Slack i) = []
prices_before m fix t (Col c) = m.prices fix t

-- the values of a move and of the pricing before it
pub record MoveShows (g : Game) (m : Method) (fix : Fix) (t : Tableau) (shown : Option NamedStep) : Type 0 where
  pub member : Enter
  pub row : ℕ
  pub enters : IsEntering (plays_program g fix) t member
  pub leaves : IsLeaving (plays_program g fix) t member row
  pub shows : first_shown (prices_before m fix t member ++ move_steps (plays_program g fix) t member row) ≡ shown

-- what a state of a node's run shows, the first operation that doesn't fit: of pricing, where no slack enters; of the move, where a member enters; of
-- the end, where the state is final
abbrev pub StateShows : Game → Method → Fix → Tableau → Option NamedStep → Type 0
StateShows g m fix t shown =
    MoveShows g m fix t shown ⊎ (IsFinal (plays_program g fix) t × ShowsOr (first_shown (m.prices fix t)) (EndShows g fix t shown) shown)

-- ---- the rows

-- the run comes to a state after so many moves, and it isn't final
abbrev pub IsUnfinished : Game → Fix → ℕ → Type 0
IsUnfinished g fix budget = (t : Tableau) × (Runs (plays_program g fix) budget t × ¬ (IsFinal (plays_program g fix) t))

-- no slack enters after so many moves, and pricing takes more looks than the budget there; so the budget is fewer than are enough
abbrev pub NeedsLooks : Game → Method → Fix → ℕ → ℕ → Type 0
NeedsLooks g m fix budget step = (t : Tableau) × (Runs (plays_program g fix) step t × AreAbove t.y × (budget < m.needed fix t.y t.rho) × (budget < enough_looks g))

-- the state after so many moves shows this operation
abbrev pub ShowsWide : Game → Method → Fix → ℕ → Wide → ℕ → Type 0
ShowsWide g m fix name w step = (t : Tableau) × (Runs (plays_program g fix) step t × StateShows g m fix t (Some (record { name = name; step = w })))

-- what a cause of one node says, with the budgets in force; the node budget is no cause of a node
abbrev pub NodeCause : Game → Method → Fix → Cause → Type 0
NodeCause g m fix (cause.Nodes n) = ⊥
NodeCause g m fix (cause.Pivots budget node) = (node ≡ fix) × (budget ≡ m.pivots) × IsUnfinished g fix budget
NodeCause g m fix (cause.Looks budget step node) = (node ≡ fix) × (budget ≡ m.looks) × NeedsLooks g m fix budget step
NodeCause g m fix (cause.Wide name w step node) = (node ≡ fix) × ShowsWide g m fix name w step

-- a node is stuck under the budgets where a cause says so of it
abbrev pub IsStuckUnder : Game → Method → Fix → Type 0
IsStuckUnder g m fix = (why : Cause) × NodeCause g m fix why

-- ---- the facts of a report

-- the facts of a node's tree with their nodes, after these actions: of bases and of closed parts
abbrev mutual
  pub tree_facts : List ℕ → Node → List (Fix × Fact)
  tree_facts acts unproved = []
  tree_facts acts (closed f) = (prefix acts, f) ∷ []
  tree_facts acts (split l None parts) = part_facts acts 1 parts
  tree_facts acts (split l (Some f) parts) = (prefix acts, f) ∷ part_facts acts 1 parts

  pub part_facts : List ℕ → ℕ → Parts → List (Fix × Fact)
  part_facts acts a end = []
  part_facts acts a (part t rest) = tree_facts (acts ++ (a ∷ [])) t ++ part_facts acts (a + 1) rest

-- the facts that prove a cap, of the actions of its type from a on
abbrev pub proof_facts : ℕ → ℕ → List Fact → List (Fix × Fact)
proof_facts l a [] = []
proof_facts l a (f ∷ fs) = (alone l a, f) ∷ proof_facts l (a + 1) fs

-- all of them
abbrev pub stated_facts : Report → List (Fix × Fact)
stated_facts r = flat_map (λ (c : Cap). proof_facts c.l 1 c.proof) r.caps ++ tree_facts [] (node_of r.tree)

-- a type's actions, less one, where its cap is plain
abbrev pub plain_spare : Game → ℕ → List Fact → ℕ
plain_spare g l [] = action_count g l - 1
plain_spare g l (f ∷ fs) = 0

abbrev pub spare_of : Game → Cap → ℕ
spare_of g c = plain_spare g c.l c.proof

-- ---- the node budget is spent

-- as many nodes were worked as may be: different ones, each with a fact that holds for it; and of these facts the report holds all but some of the
-- types whose cap is plain
pub record SpendsNodes (g : Game) (nodes : ℕ) (r : Report) (worked : List Worked) : Type 0 where
  pub few : length (stated_facts r) ≤ node_budget g nodes
  pub near : node_budget g nodes ≤ length (stated_facts r) + sum_by (spare_of g) r.caps
  pub all : length worked ≡ node_budget g nodes
  pub differ : AllPairs (λ (w v : Worked). w.fix ≢ v.fix) worked
  pub hold : All (λ (w : Worked). HoldsFor g w.fix w.fact) worked

-- the parent of a worked prefix of two types or more is worked
abbrev pub HasParent : List Worked → Worked → Type 0
HasParent worked w = (acts : List ℕ) (a : ℕ) → acts ≢ [] → w.fix ≡ prefix (acts ++ (a ∷ [])) → (v : Worked) × (Contains worked v × (v.fix ≡ prefix acts))

-- a fact is the multipliers of a final state of its node's run
abbrev pub IsFinalFact : Game → Fix × Fact → Type 0
IsFinalFact g s = (k : ℕ) × ((t : Tableau) × (Runs (plays_program g s.0) k t × IsFinal (plays_program g s.0) t × (s.1 ≡ fact_at g s.0 t)))

-- what the cause that nodes are spent says
pub record AreNodesSpent (g : Game) (nodes : ℕ) (r : Report) (worked : List Worked) : Type 0 where
  pub spent : SpendsNodes g nodes r worked
  pub parents : All (HasParent worked) worked
  pub final : All (IsFinalFact g) (stated_facts r)
  pub points : All (λ (w : Worked). IsPointOf g w.fix w.fact w.point) worked
  pub short : node_budget g nodes < enough_nodes g

-- ---- what is open is stuck

-- a bound that is there and above a value
abbrev pub IsOverValue : Fraction → Option Fraction → Type 0
IsOverValue value None = ⊥
IsOverValue value (Some b) = exceeds b value ≡ true

-- each open part of a tree with a bound above the value is stuck, and no closed part that leaves a type open has such a bound; the bound above is
-- that of the base
abbrev mutual
  pub AreLeavesBarred : Game → Method → List Cap → Fraction → Option Fraction → List ℕ → Node → Type 0
  AreLeavesBarred g m caps value above acts unproved = IsOverValue value above → IsStuckUnder g m (prefix acts)
  AreLeavesBarred g m caps value above acts (closed f) = length acts < length g.types → ¬ (IsOverValue value (fact_bound g caps (length acts) f))
  AreLeavesBarred g m caps value above acts (split l base parts) = ArePartsBarred g m caps value (base_bound g caps (length acts) above base) acts 1 parts

  pub ArePartsBarred : Game → Method → List Cap → Fraction → Option Fraction → List ℕ → ℕ → Parts → Type 0
  ArePartsBarred g m caps value above acts a end = Unit {0}
  ArePartsBarred g m caps value above acts a (part t rest) = AreLeavesBarred g m caps value above (acts ++ (a ∷ [])) t × ArePartsBarred g m caps value above acts (a + 1) rest

-- a plain cap has a stuck node
abbrev pub IsCapBarred : Game → Method → Cap → Type 0
IsCapBarred g m c = c.proof ≡ [] → (a : ℕ) × ((1 ≤ a) × (a ≤ action_count g c.l) × IsStuckUnder g m (alone c.l a))

-- the three points under which a gap may end before the node budget is spent
pub record IsReportBarred (g : Game) (m : Method) (r : Report) : Type 0 where
  pub leaves : AreLeavesBarred g m r.caps r.value (Some (root_bound g)) [] (node_of r.tree)
  pub caps : All (IsCapBarred g m) r.caps

-- ---- the cause of a gap

-- the part of a tree to which these actions lead is open
abbrev mutual
  pub IsOpenAt : Node → List ℕ → Type 0
  IsOpenAt unproved [] = Unit {0}
  IsOpenAt unproved (a ∷ acts) = ⊥
  IsOpenAt (closed f) acts = ⊥
  IsOpenAt (split l base parts) [] = ⊥
  IsOpenAt (split l base parts) (a ∷ acts) = IsOpenIn parts a acts

  pub IsOpenIn : Parts → ℕ → List ℕ → Type 0
  IsOpenIn end a acts = ⊥
  IsOpenIn (part t rest) zero acts = ⊥
  IsOpenIn (part t rest) (suc zero) acts = IsOpenAt t acts
  IsOpenIn (part t rest) (suc (suc a)) acts = IsOpenIn rest (suc a) acts

-- a node of the game stays unproved: its part is open, or its type's cap plain
abbrev pub StaysUnproved : Game → Report → Fix → Type 0
StaysUnproved g r fix = IsNode g fix
    × (((acts : List ℕ) × ((fix ≡ prefix acts) × IsOpenAt (node_of r.tree) acts))
    ⊎ ((l : ℕ) × ((a : ℕ) × ((2 ≤ l) × (fix ≡ alone l a) × ((cap_of r.caps l).proof ≡ [])))))

-- the cause of a gap of a search that gave this report and worked these nodes, with a node budget and a method: nodes are spent; or a node says why it
-- is stuck, it stays unproved, and either nodes are spent besides or all that is open is stuck
abbrev pub IsGapCause : Game → Method → ℕ → Report → List Worked → Cause → Type 0
IsGapCause g m nodes r worked (cause.Nodes n) = (n ≡ node_budget g nodes) × AreNodesSpent g nodes r worked
IsGapCause g m nodes r worked why = (fix : Fix) × (NodeCause g m fix why × StaysUnproved g r fix × (SpendsNodes g nodes r worked ⊎ IsReportBarred g m r))
