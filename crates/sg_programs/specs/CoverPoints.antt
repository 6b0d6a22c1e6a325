-- The point of a state of a program over the coverage table, and counts by resource and choice that keep within it.
use Rattle.std.specs.Prelude.{◌≡◌, ℕ, ◌≤◌, Bool, true, false, ◌&&◌, if◌then◌else◌, List, [], length, nat_eq, ℤ, pos, ◌+ℤ◌, ◌-ℤ◌, ◌*ℤ◌, ◌≤ℤ◌, All}
use Rattle.sg_model.specs.Sums.{nth, total}
use Rattle.sg_model.specs.Games.{Game, resource_count, resource_schedules}
use Rattle.sg_commit.specs.Committed.{Committed, IsCommitted}
use Rattle.sg_tree.specs.declared.fix.Fix.{Fix}
use Rattle.sg_bounds.specs.Coverage as table
use Rattle.sg_split.specs.Matched.{IsMatched, asked}
use Rattle.sg_lp.specs.States.{Tableau, member_at}
use Rattle.sg_programs.specs.CoverPrograms.{cover_program, table_column}
use Rattle.sg_programs.specs.Points.{column_in, point_rows, point_weight, point_whole}

-- whether two columns of the table are the same
abbrev pub is_same_column : table.Column → table.Column → Bool
is_same_column table.always table.always = true
is_same_column table.always (table.chooses s k) = false
is_same_column table.always (table.covering u) = false
is_same_column (table.chooses r j) table.always = false
is_same_column (table.chooses r j) (table.chooses s k) = nat_eq r s && nat_eq j k
is_same_column (table.chooses r j) (table.covering u) = false
is_same_column (table.covering t) table.always = false
is_same_column (table.covering t) (table.chooses s k) = false
is_same_column (table.covering t) (table.covering u) = nat_eq t u

-- the whole weight that the point of a state gives a column of the table: 0 where the column isn't of the point
abbrev pub amount_of : Game → Fix → Tableau → table.Column → ℤ
amount_of g fix t c = total (λ (i : ℕ). if is_same_column (table_column g (column_in (member_at t i))) c then point_weight (cover_program g fix) t i else pos 0) (point_rows (cover_program g fix) t)

-- the whole that the weights of a state's point are brought over
abbrev pub cover_whole : Game → Fix → Tableau → ℤ
cover_whole g fix t = pos (point_whole (cover_program g fix) t)

-- what a payoff comes to over so many tickets of which a part covers the target: the one where it is covered, the other where it isn't
abbrev pub coverage_sum : (inside outside all part : ℤ) → ℤ
coverage_sum inside outside all part = (outside *ℤ all) +ℤ ((inside -ℤ outside) *ℤ part)

-- counts by resource and choice within some amounts of the table's columns: none is below 0 or above the amount of its choice, and each target is asked for in
-- just its amount
pub record AreCountsUnder (g : Game) (amounts : table.Column → ℤ) (counts : List (List ℤ)) : Type 0 where
  pub one_each : length counts ≡ resource_count g
  pub each_choice : (r : ℕ) → 1 ≤ r → r ≤ resource_count g → length (nth counts r []) ≡ length (resource_schedules g r)
  pub none_below : All (λ row. All (λ z. pos 0 ≤ℤ z) row) counts
  pub none_above : (r j : ℕ) → 1 ≤ r → r ≤ resource_count g → 1 ≤ j → j ≤ length (resource_schedules g r) → nth (nth counts r []) j (pos 0) ≤ℤ amounts (table.chooses r j)
  pub asked_is : (u : ℕ) → 1 ≤ u → u ≤ length g.goals → asked g counts u ≡ amounts (table.covering u)

-- a commitment of a state's point: it covers each target in just what some counts within the point ask for it, out of as many tickets as the point's whole has
abbrev pub IsCoverCommitment : Game → Fix → Tableau → Committed → Type 0
IsCoverCommitment g fix t k = IsCommitted k × ((counts : List (List ℤ)) × (AreCountsUnder g (amount_of g fix t) counts × IsMatched g counts (cover_whole g fix t) k))
