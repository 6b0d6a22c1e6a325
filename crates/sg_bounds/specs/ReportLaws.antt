-- What trees prove of all commitments, and what acceptance of a report means.
use Rattle.std.specs.Prelude.{◌≡◌, ◌^◌, true, false, List, [], pos, ◌*ℤ◌, ◌≤ℤ◌, ◌<ℤ◌, All, Contains}
use Rattle.sg_model.specs.declared.level.Level.{Level}
use Rattle.sg_frac.specs.Fractions.{Fraction, IsReduced}
use Rattle.sg_model.specs.Games.{Game, prior_total, resource_count}
use Rattle.sg_model.specs.declared.ticket.Ticket.{Ticket}
use Rattle.sg_model.specs.Limits.{IsGame, is_scaled}
use Rattle.sg_model.specs.Payoffs.{IsPeopled}
use Rattle.sg_model.specs.Commitments.{IsCommitment, IsValue, weight_total, worth, AreLowest}
use Rattle.sg_model.specs.Origami.{AreLevelTickets, IsWater}
use Rattle.sg_model.specs.Optimality.{IsOptimal, IsUpperBound}
use Rattle.sg_tree.specs.declared.report.Cap.{Cap}
use Rattle.sg_tree.specs.declared.report.Ending.TheVariants.{Optimal}
use Rattle.sg_tree.specs.declared.report.Report.{Report}
use Rattle.sg_tree.specs.declared.tree.Tree.TheVariants.{Closed}
use Rattle.sg_tree.specs.declared.fact.Fact.TheVariants.{Water}
use Rattle.sg_bounds.specs.Caps.{AreCaps}
use Rattle.sg_bounds.specs.Trees.{Node}
use Rattle.sg_bounds.specs.Leaves.{tree_bounds_of}
use Rattle.sg_bounds.specs.Sizes.{value_sums, weight_sums}
use Rattle.sg_num.specs.Exact.{Fits}
use Rattle.sg_bounds.specs.Accepted.{IsAccepted, IsNotAbove, IsSplitTree, is_optimal}

-- where the caps are allowed and the facts of a split hold, each commitment has a leaf whose bound its value is at most
abbrev pub LeafIsMet : Type 0
LeafIsMet = (g : Game) → IsPeopled g → (caps : List Cap) → AreCaps g caps → (t : Node) → IsSplitTree g t → (k : List Ticket) → IsCommitment g k
    → (leaf : Fraction) × Contains (tree_bounds_of g caps t) leaf × (pos 1 ≤ℤ leaf.den) × ((worth g k *ℤ leaf.den) ≤ℤ ((leaf.num *ℤ weight_total k) *ℤ prior_total g))

-- so what no leaf's bound is above is an upper bound
abbrev pub TreeBounds : Type 0
TreeBounds = (g : Game) → IsPeopled g → (caps : List Cap) → AreCaps g caps → (t : Node) → IsSplitTree g t
    → (b : Fraction) → pos 1 ≤ℤ b.den → All (λ leaf. IsNotAbove leaf b) (tree_bounds_of g caps t) → IsUpperBound g b.num b.den

-- what an accepted report shows
pub record Means (g : Game) (r : Report) : Type 0 where
  -- the tickets are legal and different, each with a weight of at least 1
  pub tickets : IsCommitment g r.tickets.tickets
  -- the value is exactly theirs, ties to the defender, in lowest terms
  pub value : IsValue g r.tickets.tickets r.value.num r.value.den
  pub reduced : IsReduced r.value
  -- no commitment has more than the upper bound
  pub upper : IsUpperBound g r.upper.num r.upper.den
  -- where the report says that its bounds meet, no commitment has more than the tickets
  pub optimal : is_optimal r.ending ≡ true → IsOptimal g r.tickets.tickets
  -- else the upper bound is above the value
  pub gap : is_optimal r.ending ≡ false → (r.value.num *ℤ r.upper.den) <ℤ (r.upper.num *ℤ r.value.den)

-- acceptance alone means this, whoever wrote the report
abbrev pub AcceptedMeans : Type 0
AcceptedMeans = (g : Game) → IsGame g → (r : Report) → IsAccepted g r → Means g r

-- a report with one water level, whose upper bound is the value
abbrev pub level_report : List Ticket → Fraction → Fraction → Level → Report
level_report k value level why = record {
  tickets = record { tickets = k; total = weight_total k };
  value = value;
  caps = [];
  tree = Closed (Water level why);
  upper = value;
  ending = Optimal;
}

-- such a report is accepted where the level holds and the tickets cover each target in its share, in lowest terms, and the sums under the value fit
abbrev pub LevelReportIsAccepted : Type 0
LevelReportIsAccepted = (g : Game) → IsGame g → is_scaled g ≡ true → (k : List Ticket) → IsCommitment g k → AreLowest k
    → (value : Fraction) → IsValue g k value.num value.den → IsReduced value
    → (level : Fraction) (why : Level) → IsWater g level.num level.den why → AreLevelTickets g level.num level.den k
    → All Fits (weight_sums k) → All Fits (value_sums g k) → IsAccepted g (level_report k value level why)

-- the sums under a value fit where the total, times the priors and the range of payoffs, does
abbrev pub SmallTotalsFit : Type 0
SmallTotalsFit = (g : Game) → IsGame g → (k : List Ticket) → IsCommitment g k → ((weight_total k *ℤ prior_total g) *ℤ pos (2 ^ 30)) <ℤ pos (2 ^ 127)
    → All Fits (weight_sums k) × All Fits (value_sums g k)
