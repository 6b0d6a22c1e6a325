-- Facts: multipliers that bound what the defender can get in the region of a node, shown over plays or over coverage.
use Rattle.std.specs.Prelude.{◌≡◌, ◌≢◌, ℕ, ◌+◌, ◌<◌, ◌≤◌, List, [], length, ℤ, pos, ◌+ℤ◌, ◌-ℤ◌, ◌*ℤ◌, ◌≤ℤ◌, All}
use Rattle.sg_model.specs.declared.kind.Kind.TheVariants.{Security}
use Rattle.sg_model.specs.Sums.{total}
use Rattle.sg_model.specs.Games.{Game, attacker, action_count}
use Rattle.sg_model.specs.declared.ticket.Ticket.{Ticket}
use Rattle.sg_model.specs.Plays.{IsLegal, pay_d}
use Rattle.sg_model.specs.Payoffs.{shift_of}
use Rattle.sg_model.specs.Commitments.{sum_d, weight_total}
use Rattle.sg_tree.specs.declared.fact.Fact.{Fact}
use Rattle.sg_tree.specs.declared.fact.Fact.TheVariants.{Plays, Cover, Water}
use Rattle.sg_tree.specs.declared.fact.Mark.{Mark}
use Rattle.sg_tree.specs.declared.fact.Line.{Line}
use Rattle.sg_tree.specs.declared.fix.Fix.{Fix}
use Rattle.sg_bounds.specs.Regions.{fixed, act_of}
use Rattle.sg_bounds.specs.PlayRows.{gain}
use Rattle.sg_bounds.specs.Coverage.{Column, IsColumn, whole, table_rows, entry, column_cost, row_of}

-- what a play is worth to the defender: prior times payoff, with the shift, summed over the fixed types
abbrev pub cost : Game → Fix → List ℕ → ℤ
cost g fix play = total (λ (p : ℕ × ℕ). (attacker g p.0).prior *ℤ (pay_d g p.0 play p.1 +ℤ shift_of g)) (fixed fix)

-- what the defender gets of the fixed types where they take the fixed actions: prior times payoff, with the shift
abbrev pub shifted_sum : Game → Fix → List Ticket → ℤ
shifted_sum g fix k = total (λ (p : ℕ × ℕ). (attacker g p.0).prior *ℤ (sum_d g k p.0 p.1 +ℤ (shift_of g *ℤ weight_total k))) (fixed fix)

-- the entries of a play in the rows of the marks, times the multipliers
abbrev pub regret : Game → Fix → List Mark → List ℕ → ℤ
regret g fix marks play = total (λ (m : Mark). m.v *ℤ gain g fix play (m.l, m.a)) marks

-- a mark: a fixed type, an action of it other than the fixed one, and a multiplier of at least 1
pub record IsMarkOf (g : Game) (fix : Fix) (m : Mark) : Type 0 where
  pub from_first : fix.first ≤ m.l
  pub in_range : m.l < fix.first + length fix.acts
  pub from_one : 1 ≤ m.a
  pub action : m.a ≤ action_count g m.l
  pub other : m.a ≢ act_of fix m.l
  pub positive : pos 1 ≤ℤ m.v

-- rho times the worth of each legal play, less its regret, is at most mu
pub record IsPlaysFact (g : Game) (fix : Fix) (rho mu : ℤ) (marks : List Mark) : Type 0 where
  pub rho_positive : pos 1 ≤ℤ rho
  pub mu_nonneg : pos 0 ≤ℤ mu
  pub marks_of : All (IsMarkOf g fix) marks
  pub each : (play : List ℕ) → IsLegal g play → ((rho *ℤ cost g fix play) -ℤ regret g fix marks play) ≤ℤ mu

-- a line: a row from 1, and a multiplier of at least 1
pub record IsLineOf (g : Game) (fix : Fix) (line : Line) : Type 0 where
  pub from_one : 1 ≤ line.row
  pub in_range : line.row ≤ length (table_rows g fix)
  pub positive : pos 1 ≤ℤ line.v

-- rho times the worth of each column is at most mu times its entry in row 0 with the entries of the lines, times their multipliers
pub record IsCoverFact (g : Game) (fix : Fix) (rho mu : ℤ) (lines : List Line) : Type 0 where
  pub security : g.kind ≡ Security
  pub rho_positive : pos 1 ≤ℤ rho
  pub mu_nonneg : pos 0 ≤ℤ mu
  pub lines_of : All (IsLineOf g fix) lines
  pub each : (c : Column) → IsColumn g c
      → (rho *ℤ column_cost g fix c) ≤ℤ ((mu *ℤ entry g fix whole c) +ℤ total (λ (line : Line). line.v *ℤ entry g fix (row_of g fix line) c) lines)

-- a fact that holds for a node; a water level is no fact of a node
abbrev pub HoldsFor : Game → Fix → Fact → Type 0
HoldsFor g fix (Plays rho mu marks) = IsPlaysFact g fix rho mu marks
HoldsFor g fix (Cover rho mu lines) = IsCoverFact g fix rho mu lines
HoldsFor g fix (Water level why) = ⊥

-- the multiplier of what the defender gets
abbrev pub rho_of : Fact → ℤ
rho_of (Plays rho mu marks) = rho
rho_of (Cover rho mu lines) = rho
rho_of (Water level why) = pos 1

-- the multiplier of the whole; where it is 0 the fact says that its region is empty
abbrev pub mu_of : Fact → ℤ
mu_of (Plays rho mu marks) = mu
mu_of (Cover rho mu lines) = mu
mu_of (Water level why) = pos 0

-- what stands where there is no fact of that number
abbrev pub no_fact : Fact
no_fact = Plays (pos 0) (pos 0) []
