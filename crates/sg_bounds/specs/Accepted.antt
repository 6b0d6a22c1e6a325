-- When a report is accepted for a game: whatever order it is tested in.
use Rattle.std.specs.Prelude.{◌≡◌, ◌↔◌, ℕ, ◌+◌, Bool, true, false, List, [], ◌∷◌, ◌++◌, length, ℤ, ◌*ℤ◌, ◌≤ℤ◌, All, Contains, MatchBool, Option, Some, None, unsigned_abs}
use Rattle.std.specs.Int.{◌∣◌}
use Rattle.sg_num.specs.Exact.{fits, Fits}
use Rattle.sg_frac.specs.Fractions.{Fraction, IsReduced}
use Rattle.sg_model.specs.declared.ticket.Ticket.{Ticket}
use Rattle.sg_model.specs.Games.{Game, resource_count}
use Rattle.sg_model.specs.Limits.{is_scaled}
use Rattle.sg_model.specs.Commitments.{IsCommitment, IsValue, weight_total, AreLowest}
use Rattle.sg_model.specs.Origami.{IsWater}
use Rattle.sg_tree.specs.declared.fact.Fact.{Fact}
use Rattle.sg_tree.specs.declared.fact.Fact.TheVariants.{Water}
use Rattle.sg_tree.specs.declared.report.Cap.{Cap}
use Rattle.sg_tree.specs.declared.report.Ending.{Ending}
use Rattle.sg_tree.specs.declared.report.Ending.TheVariants.{Optimal, Gap}
use Rattle.sg_tree.specs.declared.report.Report.{Report}
use Rattle.sg_bounds.specs.Regions.{alone, prefix}
use Rattle.sg_bounds.specs.Facts.{HoldsFor}
use Rattle.sg_bounds.specs.Caps.{AreCaps}
use Rattle.sg_bounds.specs.Trees.{Node, unproved, closed, split, Parts, end, part, node_of, IsRoot, IsTreeOf}
use Rattle.sg_bounds.specs.Leaves.{tree_bounds_of}
use Rattle.sg_bounds.specs.Sizes.{weight_sums, value_sums, size_sums, bound_sums}

-- a is at most b, where both denominators are at least 1
abbrev pub IsNotAbove : Fraction → Fraction → Type 0
IsNotAbove a b = (a.num *ℤ b.den) ≤ℤ (b.num *ℤ a.den)

-- both have the same value
abbrev pub IsSame : Fraction → Fraction → Type 0
IsSame a b = a.num *ℤ b.den ≡ b.num *ℤ a.den

-- none of the list is above b, and one of it is b
pub record IsGreatest (b : Fraction) (bs : List Fraction) : Type 0 where
  pub bounds : All (λ x. IsNotAbove x b) bs
  pub reached : (x : Fraction) × Contains bs x × IsSame x b

-- one water level that holds, and nothing else
abbrev pub IsWaterTree : Game → Node → Type 0
IsWaterTree g (closed (Water level why)) = IsWater g level.num level.den why
IsWaterTree g t = ⊥

-- a split with an open base, whose facts hold where their actions are taken
pub record IsSplitTree (g : Game) (t : Node) : Type 0 where
  pub root : IsRoot t
  pub tree_of : IsTreeOf g (HoldsFor g) [] t

-- the size sums of the facts of a cap, one for each action from a on
abbrev pub proof_sums : Game → ℕ → ℕ → List Fact → List ℤ
proof_sums g l a [] = []
proof_sums g l a (f ∷ fs) = size_sums g (alone l a) f ++ proof_sums g l (a + 1) fs

-- those of all caps, of the types from l on
abbrev pub cap_sums : Game → ℕ → List Cap → List ℤ
cap_sums g l [] = []
cap_sums g l (c ∷ cs) = proof_sums g l 1 c.proof ++ cap_sums g (l + 1) cs

-- the size sum and the bound of a fact where the first types take these actions
abbrev pub fact_sums : Game → List Cap → List ℕ → Fact → List ℤ
fact_sums g caps acts f = size_sums g (prefix acts) f ++ bound_sums g caps (length acts) f

-- those of a base
abbrev pub base_sums : Game → List Cap → List ℕ → Option Fact → List ℤ
base_sums g caps acts None = []
base_sums g caps acts (Some f) = fact_sums g caps acts f

-- those of all facts of a tree, bases included
abbrev mutual
  pub tree_sums : Game → List Cap → List ℕ → Node → List ℤ
  tree_sums g caps acts unproved = []
  tree_sums g caps acts (closed f) = fact_sums g caps acts f
  tree_sums g caps acts (split l base parts) = base_sums g caps acts base ++ part_sums g caps acts 1 parts

  pub part_sums : Game → List Cap → List ℕ → ℕ → Parts → List ℤ
  part_sums g caps acts a end = []
  part_sums g caps acts a (part t rest) = tree_sums g caps (acts ++ (a ∷ [])) t ++ part_sums g caps acts (a + 1) rest

-- all sums that a report states
abbrev pub stated_sums : Game → Report → List ℤ
stated_sums g r =
    weight_sums r.tickets.tickets ++ (value_sums g r.tickets.tickets ++ (cap_sums g 2 r.caps ++ tree_sums g r.caps [] (node_of r.tree)))

-- whether a report says that its bounds meet; else it has the cause why they don't
abbrev pub is_optimal : Ending → Bool
is_optimal Optimal = true
is_optimal (Gap cause) = false

-- an accepted report
pub record IsAccepted (g : Game) (r : Report) : Type 0 where
  -- the plays are legal and different, and each weight is at least 1
  pub tickets : IsCommitment g r.tickets.tickets
  -- the total is that of the weights, which are in lowest terms
  pub total : r.tickets.total ≡ weight_total r.tickets.tickets
  pub lowest : AreLowest r.tickets.tickets
  -- the value is that of the tickets, in lowest terms
  pub value : IsValue g r.tickets.tickets r.value.num r.value.den
  pub value_reduced : IsReduced r.value
  -- the caps are allowed
  pub caps : AreCaps g r.caps
  -- with a declared scale one water level holds; without one the tree is a split whose facts hold
  pub tree : MatchBool (is_scaled g) (IsWaterTree g (node_of r.tree)) (IsSplitTree g (node_of r.tree))
  -- the upper bound is the greatest of the value and the bounds of the leaves, in lowest terms
  pub upper : IsGreatest r.upper (r.value ∷ tree_bounds_of g r.caps (node_of r.tree))
  pub upper_reduced : IsReduced r.upper
  -- the report says that its bounds meet just where they do
  pub ending : (is_optimal r.ending ≡ true) ↔ IsSame r.value r.upper
  -- every stated sum fits
  pub sums : All Fits (stated_sums g r)
