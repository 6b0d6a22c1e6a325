-- The tests of a report in order, each with the line that it names and its reason, and the first that fails.
use Rattle.std.specs.Prelude.{◌≡◌, ◌↔◌, ℕ, ◌+◌, ◌-◌, ◌^◌, ◌≤◌, ◌⊎◌, if◌then◌else◌, List, [], ◌∷◌, ◌++◌, length, ℤ, All, MatchBool, true, Option, Some, None, min}
use Rattle.sg_frac.specs.Fractions.{IsReduced}
use Rattle.sg_model.specs.declared.ticket.Ticket.{Ticket}
use Rattle.sg_model.specs.Games.{Game, action_count}
use Rattle.sg_model.specs.Plays.{IsLegal}
use Rattle.sg_model.specs.Payoffs.{greatest_of}
use Rattle.sg_model.specs.Limits.{is_scaled}
use Rattle.sg_model.specs.Commitments.{IsValue, weight_total, AreLowest}
use Rattle.sg_tree.specs.declared.fact.Fact.{Fact}
use Rattle.sg_tree.specs.declared.fact.Fact.TheVariants.{Plays, Cover, Water}
use Rattle.sg_tree.specs.declared.fix.Fix.{Fix}
use Rattle.sg_tree.specs.declared.report.Cap.{Cap}
use Rattle.sg_tree.specs.declared.report.Report.{Report}
use Rattle.sg_tree.specs.Claims.{is_claim}
use Rattle.sg_bounds.specs.Regions.{alone, prefix}
use Rattle.sg_bounds.specs.Facts.{HoldsFor}
use Rattle.sg_bounds.specs.Caps.{IsUnderCap}
use Rattle.sg_bounds.specs.Trees.{Node, unproved, closed, split, Parts, end, part, part_count, node_of, IsRoot}
use Rattle.sg_bounds.specs.Leaves.{tree_bounds_of}
use Rattle.sg_bounds.specs.Sizes.{weight_sums, value_sums, size_sums, bound_sums}
use Rattle.sg_num.specs.Exact.{Fits}
use Rattle.sg_bounds.specs.Accepted.{IsGreatest, IsSame, IsWaterTree, is_optimal}

-- what a test is about
pub data Test : Type 0 where
  -- a ticket's play
  legal : List ℕ → Test
  -- the running total of the weights, the stated total, the common divisor
  weights_fit : Test
  totalled : Test
  lowest : Test
  -- the sums under the value, and the value
  value_fits : Test
  valued : Test
  -- the cap of type l: its type with its plain payoff or its number of facts; its bound, against all of its facts
  capped : ℕ → Cap → Test
  cap_within : ℕ → ℤ → List Fact → Test
  -- whether a cap is missing
  caps_end : Test
  -- the kind of the root, and a root that is a water level
  rooted : Test
  leveled : Test
  -- a split by type l with so many parts, after these actions
  forks : List ℕ → ℕ → ℕ → Test
  -- a fact: its size sum, its inequalities, and the bound of a fact that fixes n types
  sized : Fix → Fact → Test
  holds : Fix → Fact → Test
  bounded : ℕ → Fact → Test
  -- the upper bound, and the verdict
  topped : Test
  judged : Test

-- a test with the line that it names, from 1 in the report's text, and its reason
pub record Stop : Type 0 where
  pub line : ℕ
  pub reason : ℕ
  pub test : Test

-- plain at the greatest payoff, or with one fact for each action
abbrev pub IsCapShape : Game → ℕ → ℤ → List Fact → Type 0
IsCapShape g l v [] = v ≡ greatest_of g l
IsCapShape g l v (f ∷ fs) = length (f ∷ fs) ≡ action_count g l

-- a water level alone
abbrev pub IsWaterRoot : Node → Type 0
IsWaterRoot (closed (Water level why)) = Unit {0}
IsWaterRoot t = ⊥

-- what each test asks
abbrev pub Passes : Game → Report → Test → Type 0
Passes g r (legal play) = IsLegal g play
Passes g r weights_fit = All Fits (weight_sums r.tickets.tickets)
Passes g r totalled = r.tickets.total ≡ weight_total r.tickets.tickets
Passes g r lowest = AreLowest r.tickets.tickets
Passes g r value_fits = All Fits (value_sums g r.tickets.tickets)
Passes g r valued = IsValue g r.tickets.tickets r.value.num r.value.den
Passes g r (capped l c) = (l ≤ length g.types) × (c.l ≡ l) × IsCapShape g l c.v c.proof
Passes g r (cap_within l v fs) = All (IsUnderCap g l v) fs
Passes g r caps_end = length r.caps + 1 ≡ length g.types
Passes g r rooted = MatchBool (is_scaled g) (IsWaterRoot (node_of r.tree)) (IsRoot (node_of r.tree))
Passes g r leveled = IsWaterTree g (node_of r.tree)
Passes g r (forks acts l count) = (l ≡ length acts + 1) × (l ≤ length g.types) × (count ≡ action_count g l)
Passes g r (sized fix f) = All Fits (size_sums g fix f)
Passes g r (holds fix f) = HoldsFor g fix f
Passes g r (bounded n f) = All Fits (bound_sums g r.caps n f)
Passes g r topped = IsGreatest r.upper (r.value ∷ tree_bounds_of g r.caps (node_of r.tree))
Passes g r judged = (is_optimal r.ending ≡ true) ↔ IsSame r.value r.upper

-- ---- lines

-- how many lines a fact has
abbrev pub fact_lines : Fact → ℕ
fact_lines (Plays rho mu marks) = length marks + 1
fact_lines (Cover rho mu lines) = length lines + 1
fact_lines (Water level why) = 1

-- how many lines facts have
abbrev pub proof_lines : List Fact → ℕ
proof_lines [] = 0
proof_lines (f ∷ fs) = fact_lines f + proof_lines fs

-- how many lines caps have
abbrev pub cap_lines : List Cap → ℕ
cap_lines [] = 0
cap_lines (c ∷ cs) = 1 + proof_lines c.proof + cap_lines cs

-- how many lines a base has
abbrev pub base_lines : Option Fact → ℕ
base_lines None = 1
base_lines (Some f) = fact_lines f

-- how many lines a tree has
abbrev mutual
  pub tree_lines : Node → ℕ
  tree_lines unproved = 1
  tree_lines (closed f) = fact_lines f
  tree_lines (split l base parts) = 1 + base_lines base + part_lines parts

  pub part_lines : Parts → ℕ
  part_lines end = 0
  part_lines (part t rest) = tree_lines t + part_lines rest

-- ---- tests

-- of the tickets, from a line on
abbrev pub ticket_stops : ℕ → List Ticket → List Stop
ticket_stops line [] = []
ticket_stops line (x ∷ xs) = record { line = line; reason = 1; test = legal x.play.code } ∷ ticket_stops (line + 1) xs

-- of the facts of a cap of type l, for the actions from a on: of each its size sum, then its inequalities
abbrev pub proof_stops : ℕ → ℕ → ℕ → List Fact → List Stop
proof_stops l a line [] = []
proof_stops l a line (f ∷ fs) =
    record { line = line; reason = 9; test = sized (alone l a) f } ∷ record { line = line; reason = 6; test = holds (alone l a) f } ∷ proof_stops l (a + 1) (line + fact_lines f) fs

-- of one cap: its line, its facts, and then its bound, which is named at the cap's line
abbrev pub cap_stops : ℕ → ℕ → Cap → List Stop
cap_stops l line c =
    record { line = line; reason = 4; test = capped l c }
    ∷ (proof_stops l 1 (line + 1) c.proof ++ (record { line = line; reason = 4; test = cap_within l c.v c.proof } ∷ []))

-- of the caps from type l on
abbrev pub caps_stops : ℕ → ℕ → List Cap → List Stop
caps_stops l line [] = []
caps_stops l line (c ∷ cs) = cap_stops l line c ++ caps_stops (l + 1) (line + 1 + proof_lines c.proof) cs

-- of a fact of the tree: its size sum, its inequalities, its bound
abbrev pub fact_stops : ℕ → List ℕ → Fact → List Stop
fact_stops line acts f =
    record { line = line; reason = 9; test = sized (prefix acts) f } ∷ record { line = line; reason = 6; test = holds (prefix acts) f }
    ∷ record { line = line; reason = 9; test = bounded (length acts) f } ∷ []

-- of a base
abbrev pub base_stops : ℕ → List ℕ → Option Fact → List Stop
base_stops line acts None = []
base_stops line acts (Some f) = fact_stops line acts f

-- of a node after these actions: a split before its base and its parts
abbrev mutual
  pub tree_stops : ℕ → List ℕ → Node → List Stop
  tree_stops line acts unproved = []
  tree_stops line acts (closed f) = fact_stops line acts f
  tree_stops line acts (split l base parts) =
      record { line = line; reason = 5; test = forks acts l (part_count parts) }
      ∷ (base_stops (line + 1) acts base ++ part_stops (line + 1 + base_lines base) acts 1 parts)

  pub part_stops : ℕ → List ℕ → ℕ → Parts → List Stop
  part_stops line acts a end = []
  part_stops line acts a (part t rest) = tree_stops line (acts ++ (a ∷ [])) t ++ part_stops (line + tree_lines t) acts (a + 1) rest

-- of the root: its kind, and then its level, or the tree
abbrev pub root_stops : Game → ℕ → Node → List Stop
root_stops g line t =
    record { line = line; reason = 5; test = rooted } ∷ (if is_scaled g then record { line = line; reason = 6; test = leveled } ∷ [] else tree_stops line [] t)

-- the line of the value, behind the head and the tickets
abbrev pub value_line : Report → ℕ
value_line r = 3 + length r.tickets.tickets

-- the first line of the tree, behind the caps
abbrev pub root_line : Report → ℕ
root_line r = value_line r + 1 + cap_lines r.caps

-- the line of the upper bound, behind the tree
abbrev pub upper_line : Report → ℕ
upper_line r = root_line r + tree_lines (node_of r.tree)

-- of the total and the value, behind the tickets
abbrev pub value_stops : Report → List Stop
value_stops r =
    record { line = 2; reason = 9; test = weights_fit } ∷ record { line = 2; reason = 2; test = totalled } ∷ record { line = 2; reason = 2; test = lowest }
    ∷ record { line = value_line r; reason = 9; test = value_fits } ∷ record { line = value_line r; reason = 3; test = valued } ∷ []

-- of the caps, and whether one is missing
abbrev pub bound_stops : Report → List Stop
bound_stops r = caps_stops 2 (value_line r + 1) r.caps ++ (record { line = root_line r; reason = 4; test = caps_end } ∷ [])

-- of the upper bound and the verdict
abbrev pub end_stops : Report → List Stop
end_stops r = record { line = upper_line r; reason = 7; test = topped } ∷ record { line = upper_line r + 1; reason = 8; test = judged } ∷ []

-- all tests of a report, in order
abbrev pub stops_of : Game → Report → List Stop
stops_of g r =
    ticket_stops 3 r.tickets.tickets ++ (value_stops r ++ (bound_stops r ++ (root_stops g (root_line r) (node_of r.tree) ++ end_stops r)))

-- ---- answers

-- all of these tests pass
abbrev pub AllPass : Game → Report → List Stop → Type 0
AllPass g r [] = Unit {0}
AllPass g r (s ∷ ss) = Passes g r s.test × AllPass g r ss

-- the first of these tests that fails names this line and has this reason
abbrev pub FirstFails : Game → Report → List Stop → ℕ → ℕ → Type 0
FirstFails g r [] line reason = ⊥
FirstFails g r (s ∷ ss) line reason =
    ((Passes g r s.test → ⊥) × (s.line ≡ line) × (s.reason ≡ reason)) ⊎ (Passes g r s.test × FirstFails g r ss line reason)

-- what every value of the type keeps: the rules of its tickets, and fractions in lowest terms
pub record IsReportValue (r : Report) : Type 0 where
  pub tickets : is_claim r.tickets.tickets ≡ true
  pub value : IsReduced r.value
  pub upper : IsReduced r.upper

-- the report is refused with this reason at this line; line numbers stand still at 2^64 - 1
abbrev pub IsRefused : Game → Report → ℕ → ℕ → Type 0
IsRefused g r line reason = (n : ℕ) × FirstFails g r (stops_of g r) n reason × (line ≡ min n (2 ^ 64 - 1))
