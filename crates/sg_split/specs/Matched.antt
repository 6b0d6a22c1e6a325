-- Counts by resource and choice, and the commitment that covers each target in just what they ask for.
use Rattle.std.specs.Prelude.{◌≡◌, ℕ, ◌+◌, ◌≤◌, if◌then◌else◌, List, [], length, sum_by, ℤ, pos, ◌*ℤ◌, ◌≤ℤ◌, All, filter, int_lt, unsigned_abs}
use Rattle.std.specs.Int.{◌∣◌}
use Rattle.sg_model.specs.Sums.{total, numbers, nth}
use Rattle.sg_model.specs.Games.{Game, resource_count, resource_schedules}
use Rattle.sg_model.specs.Commitments.{IsCommitment, cover_count}
use Rattle.sg_game.specs.Counting.{IsSingle}
use Rattle.sg_game.specs.Seen.{number_lists}
use Rattle.sg_bounds.specs.Coverage.{choice_holds}
use Rattle.sg_commit.specs.Committed.{Committed}
use Rattle.sg_split.specs.declared.table.Table.{Table}

-- the counts of a table, a list for each resource
abbrev pub counts_of : Table → List (List ℤ)
counts_of table = number_lists table.counts.items

-- the counts of those choices of resource r that hold target t, summed
abbrev pub target_share : Game → ℕ → List ℤ → ℕ → ℤ
target_share g r counts t = total (λ j. if choice_holds g r j t then nth counts j (pos 0) else pos 0) (numbers (length (resource_schedules g r)))

-- what is asked for target t: the sum of all counts of choices that hold it
abbrev pub asked : Game → List (List ℤ) → ℕ → ℤ
asked g counts t = total (λ r. target_share g r (nth counts r []) t) (numbers (resource_count g))

-- how many counts are above 0
abbrev pub positive_entries : List (List ℤ) → ℕ
positive_entries counts = sum_by (λ row. length (filter (int_lt (pos 0)) row)) counts

-- counts, from 0, by resource and choice, that can be had out of so many tickets
pub record AreChoiceCounts (g : Game) (counts : List (List ℤ)) (tickets : ℤ) : Type 0 where
  -- each schedule has one target
  pub single : IsSingle g
  -- there is a ticket
  pub positive : pos 1 ≤ℤ tickets
  -- a list for each resource, with a count for each of its choices
  pub one_each : length counts ≡ resource_count g
  pub each_choice : (r : ℕ) → 1 ≤ r → r ≤ resource_count g → length (nth counts r []) ≡ length (resource_schedules g r)
  -- none is below 0
  pub none_below : All (λ row. All (λ z. pos 0 ≤ℤ z) row) counts
  -- no resource and no target has more than the tickets
  pub resources_within : All (λ row. total (λ z. z) row ≤ℤ tickets) counts
  pub targets_within : (t : ℕ) → 1 ≤ t → t ≤ length g.goals → asked g counts t ≤ℤ tickets

-- a commitment that covers each target in just what is asked for it, out of so many tickets
pub record IsMatched (g : Game) (counts : List (List ℤ)) (tickets : ℤ) (k : Committed) : Type 0 where
  -- its plays are legal, and no two are the same
  pub commitment : IsCommitment g k.tickets
  -- each target is covered in its share, which is what is asked for it out of the tickets
  pub covered : (t : ℕ) → 1 ≤ t → t ≤ length g.goals → cover_count g k.tickets t *ℤ tickets ≡ asked g counts t *ℤ k.total
  -- its total divides the tickets
  pub divides : unsigned_abs k.total ∣ unsigned_abs tickets
  -- it has no more plays than there are counts above 0, resources and targets
  pub few : length k.tickets ≤ positive_entries counts + resource_count g + length g.goals
