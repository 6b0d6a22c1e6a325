-- A commitment as a combination of the coverage table's columns.
use Rattle.std.specs.Prelude.{◌≡◌, ℕ, ◌<◌, if◌then◌else◌, List, nat_eq, ℤ, pos, ◌*ℤ◌, ◌≤ℤ◌}
use Rattle.sg_model.specs.declared.kind.Kind.TheVariants.{Security}
use Rattle.sg_model.specs.declared.ticket.Ticket.{Ticket}
use Rattle.sg_model.specs.Commitments.{IsCommitment, cover_count, weight_total}
use Rattle.sg_model.specs.Games.{Game}
use Rattle.sg_model.specs.Sums.{nth, total}
use Rattle.sg_tree.specs.declared.fix.Fix.{Fix}
use Rattle.sg_bounds.specs.Coverage as table
use Rattle.sg_bounds.specs.Facts.{shifted_sum}
use Rattle.sg_bounds.specs.Regions.{IsFix, IsInRegion}
use Rattle.sg_linear.specs.Sums.{unit}
use Rattle.sg_programs.specs.CoverPrograms.{cover_program, table_row}

-- how many tickets have a column: all of them; those on which resource r takes choice j; those that cover target t
abbrev pub tickets_with : Game → List Ticket → table.Column → ℤ
tickets_with g k table.always = weight_total k
tickets_with g k (table.chooses r j) = total (λ (x : Ticket). if nat_eq (nth x.play.code r 0) j then x.weight else pos 0) k
tickets_with g k (table.covering t) = cover_count g k t

-- weights of the columns over a whole that a node's program allows: none below 0, at most the whole in row 0, and at most 0 in each other row
pub record IsAllowed (g : Game) (fix : Fix) (weights : table.Column → ℤ) (whole : ℤ) : Type 0 where
  pub nonnegative : (c : table.Column) → table.IsColumn g c → pos 0 ≤ℤ weights c
  pub rows : (j : ℕ) → j < (cover_program g fix).height → total (λ c. weights c *ℤ table.entry g fix (table_row g fix j) c) (table.columns g) ≤ℤ (whole *ℤ unit 0 j)

-- every commitment of a node's region is such a combination, and it costs what the defender gets of the fixed types, with the shift
abbrev pub RegionIsAllowed : Type 0
RegionIsAllowed = (g : Game) → g.kind ≡ Security → (fix : Fix) → IsFix g fix → (k : List Ticket) → IsCommitment g k → IsInRegion g fix k
    → IsAllowed g fix (tickets_with g k) (weight_total k) × (total (λ c. tickets_with g k c *ℤ table.column_cost g fix c) (table.columns g) ≡ shifted_sum g fix k)
