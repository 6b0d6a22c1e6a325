-- What holds of the point of a final state.
use Rattle.std.specs.Prelude.{◌≡◌, ℕ, ◌<◌, List, pos, ◌*ℤ◌, ◌≤ℤ◌, ◌<ℤ◌, All, None, unsigned_abs}
use Rattle.std.specs.Int.{◌∣◌, IsGcd}
use Rattle.sg_num.specs.Operations.{first_wide}
use Rattle.sg_frac.specs.Fractions.{Fraction, IsReducedForm}
use Rattle.sg_model.specs.declared.ticket.Ticket.{Ticket}
use Rattle.sg_model.specs.Commitments.{IsCommitment, weight_total}
use Rattle.sg_model.specs.Games.{Game}
use Rattle.sg_model.specs.Limits.{IsGame}
use Rattle.sg_model.specs.Sums.{total}
use Rattle.sg_commit.specs.Committed.{Committed, IsCommitted}
use Rattle.sg_commit.specs.Parts.{AreMultiple, part_fault}
use Rattle.sg_linear.specs.Sums.{unit}
use Rattle.sg_rows.specs.Rows.{place}
use Rattle.sg_lp.specs.Programs.{IsWithinLimits, Program}
use Rattle.sg_lp.specs.Moves.{IsFinal}
use Rattle.sg_lp.specs.States.{IsTableau, Tableau, member_at, row_at}
use Rattle.sg_search.specs.Results.{Reaches}
use Rattle.sg_tree.specs.declared.fact.Fact.{Fact}
use Rattle.sg_tree.specs.declared.fix.Fix.{Fix}
use Rattle.sg_bounds.specs.Regions.{IsFix, IsInRegion}
use Rattle.sg_programs.specs.Plays.{plays_program}
use Rattle.sg_programs.specs.Points.{column_in, common_multiple, gcd_of, own_product, point_rows, point_steps, point_tickets, point_weight, point_whole, weight_at}
use Rattle.sg_programs.specs.Shown.{fact_at}

-- ---- whole numbers

-- the common divisor is the greatest
abbrev pub CommonDivisorIsGreatest : Type 0
CommonDivisorIsGreatest = (a b : ℕ) → IsGcd a b (gcd_of a b)

-- m is a multiple of the denominators, and divides each common multiple of them
pub record IsLeastMultiple (fs : List Fraction) (m : ℕ) : Type 0 where
  pub above : 0 < m
  pub multiple : All (λ (f : Fraction). unsigned_abs f.den ∣ m) fs
  pub least : (c : ℕ) → All (λ (f : Fraction). unsigned_abs f.den ∣ c) fs → m ∣ c

abbrev pub CommonMultipleIsLeast : Type 0
CommonMultipleIsLeast = (fs : List Fraction) → All (λ (f : Fraction). pos 1 ≤ℤ f.den) fs → IsLeastMultiple fs (common_multiple 1 fs)

-- ---- any program

-- the weights of a point over 1, in lowest terms; and over the whole, where each is above 0
pub record AreWeights (p : Program) (t : Tableau) : Type 0 where
  pub over_one : All (λ (i : ℕ). IsReducedForm (place (row_at t i) 0) (own_product p t i) (weight_at p t i)) (point_rows p t)
  pub over_whole : All (λ (i : ℕ). point_weight p t i *ℤ own_product p t i ≡ pos (point_whole p t) *ℤ place (row_at t i) 0) (point_rows p t)
  pub above : All (λ (i : ℕ). pos 0 <ℤ point_weight p t i) (point_rows p t)

abbrev pub WeightsAreShares : Type 0
WeightsAreShares = (p : Program) (t : Tableau) → IsWithinLimits p → IsTableau p t → AreWeights p t

-- the weighted columns of a state's point: they leave each row at most 0, but row 0 at most the whole, and there exactly the whole where its
-- multiplier isn't 0; and their cost over the whole is that multiplier, over the denominator
pub record HasPointValue (p : Program) (t : Tableau) : Type 0 where
  pub rows : (j : ℕ) → j < p.height → total (λ (i : ℕ). point_weight p t i *ℤ p.entry (column_in (member_at t i)) j) (point_rows p t) ≤ℤ (pos (point_whole p t) *ℤ unit 0 j)
  pub filled : pos 0 <ℤ place t.y 0 → total (λ (i : ℕ). point_weight p t i *ℤ p.entry (column_in (member_at t i)) 0) (point_rows p t) ≡ pos (point_whole p t)
  pub value : t.rho *ℤ total (λ (i : ℕ). point_weight p t i *ℤ p.cost (column_in (member_at t i))) (point_rows p t) ≡ pos (point_whole p t) *ℤ place t.y 0

abbrev pub PointReachesValue : Type 0
PointReachesValue = (p : Program) (t : Tableau) → IsWithinLimits p → IsTableau p t → HasPointValue p t

-- ---- plays

-- the tickets of the point of a final state, where its first multiplier isn't 0: a commitment of the node's region, whose total is the whole, and at
-- which rho times what the defender gets of the fixed types, with the shift, is mu times the total
pub record IsBestOfRegion (g : Game) (fix : Fix) (t : Tableau) : Type 0 where
  pub reaches : Reaches g fix (fact_at g fix t) (point_tickets (plays_program g fix) t)
  pub whole : weight_total (point_tickets (plays_program g fix) t) ≡ pos (point_whole (plays_program g fix) t)

abbrev pub PointReachesFact : Type 0
PointReachesFact = (g : Game) → IsGame g → g.scale ≡ pos 0 → (fix : Fix) → IsFix g fix → (t : Tableau) → IsTableau (plays_program g fix) t → IsFinal (plays_program g fix) t
    → pos 0 <ℤ place t.y 0 → IsBestOfRegion g fix t

-- where it is 0 the region is empty
abbrev pub NoPointMeansEmpty : Type 0
NoPointMeansEmpty = (g : Game) → IsGame g → g.scale ≡ pos 0 → (fix : Fix) → IsFix g fix → (t : Tableau) → IsTableau (plays_program g fix) t → IsFinal (plays_program g fix) t
    → place t.y 0 ≡ pos 0 → (k : List Ticket) → IsCommitment g k → IsInRegion g fix k → ⊥

-- where all values of the point fit, its tickets are parts without a fault: a commitment is made of them
abbrev pub FormedPointHasNoFault : Type 0
FormedPointHasNoFault = (g : Game) → IsGame g → g.scale ≡ pos 0 → (fix : Fix) → IsFix g fix → (t : Tableau) → IsTableau (plays_program g fix) t → IsFinal (plays_program g fix) t
    → pos 0 <ℤ place t.y 0 → first_wide (point_steps (plays_program g fix) t) ≡ None → part_fault (point_tickets (plays_program g fix) t) ≡ None

-- what a commitment's tickets are multiples of reaches a fact's bound exactly where the commitment does
abbrev pub KeptReaches : Type 0
KeptReaches = (g : Game) (fix : Fix) → IsFix g fix → (f : Fact) (parts : List Ticket) (k : Committed) → IsCommitted k → AreMultiple parts k.tickets → Reaches g fix f parts → Reaches g fix f k.tickets
