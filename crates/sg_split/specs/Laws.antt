-- What holds of counts that lie end to end on identical patrols.
use Rattle.std.specs.Prelude.{◌≡◌, ◌≢◌, ℕ, ◌+◌, ◌≤◌, ◌<◌, ◌⊎◌, List, [], ◌∷◌, length, ℤ, pos, ◌≤ℤ◌, ◌<ℤ◌, All, AllPairs, slice_index_or, int_rem}
use Rattle.sg_model.specs.declared.ticket.Ticket.{Ticket}
use Rattle.sg_model.specs.Sums.{nth}
use Rattle.sg_model.specs.Games.{Game, resource_count}
use Rattle.sg_model.specs.Limits.{IsGame, IsWithin}
use Rattle.sg_model.specs.Plays.{IsLegal}
use Rattle.sg_model.specs.Commitments.{cover_count, weight_total}
use Rattle.sg_commit.specs.Parts.{AreMultiple}
use Rattle.sg_split.specs.Laying.{AreCounts, ends_from, moment_tickets, play_at}

-- a ticket for every moment: as many as tickets in all, with legal plays, which cover each target just as often as its count says
abbrev pub MomentsCoverCounts : Type 0
MomentsCoverCounts = (g : Game) → IsGame g → (counts : List ℤ) (tickets : ℤ) → AreCounts g counts tickets
    → (weight_total (moment_tickets counts (resource_count g) tickets) ≡ tickets)
    × ((moment : ℤ) → IsLegal g (play_at (ends_from (pos 0) counts) (resource_count g) tickets moment))
    × ((t : ℕ) → 1 ≤ t → t ≤ length g.goals → cover_count g (moment_tickets counts (resource_count g) tickets) t ≡ nth counts t (pos 0))

-- a cut place: moment 0, or the moment of its patrol at which a count ends
abbrev pub IsCutPlace : List ℤ → ℤ → ℤ → Type 0
IsCutPlace counts tickets moment = (moment ≡ pos 0) ⊎ ((k : ℕ) × (k < length counts) × (moment ≡ int_rem (slice_index_or (ends_from (pos 0) counts) k (pos 0)) tickets))

-- The first target on one ticket of two, with one patrol: the patrol starts there, and leaves at moment 1. Two targets on two tickets of three each, with
-- two patrols: the first ends at moment 2, and the second, at which the line is at place 4, at moment 1. Of a target on one ticket of three, moment 2 is none.
pub record CutPlacesAreWorked : Type 0 where
  pub start : IsCutPlace (pos 1 ∷ []) (pos 2) (pos 0)
  pub leaving : IsCutPlace (pos 1 ∷ []) (pos 2) (pos 1)
  pub first_of_two : IsCutPlace (pos 2 ∷ pos 2 ∷ []) (pos 3) (pos 2)
  pub second_of_two : IsCutPlace (pos 2 ∷ pos 2 ∷ []) (pos 3) (pos 1)
  pub no_other : IsCutPlace (pos 1 ∷ []) (pos 3) (pos 2) → ⊥

-- from a moment to before the next cut place the play stays the same
abbrev pub PlaysStayBetweenCuts : Type 0
PlaysStayBetweenCuts = (counts : List ℤ) (patrols : ℕ) (tickets : ℤ) → pos 1 ≤ℤ tickets → All (IsWithin (pos 0) tickets) counts
    → (from to : ℤ) → pos 0 ≤ℤ from → from ≤ℤ to → to <ℤ tickets → ((moment : ℤ) → from <ℤ moment → moment ≤ℤ to → IsCutPlace counts tickets moment → ⊥)
    → play_at (ends_from (pos 0) counts) patrols tickets from ≡ play_at (ends_from (pos 0) counts) patrols tickets to

-- tickets of different plays, which in some multiple are the plays of all moments, are at most one more than the counts
abbrev pub LaidTicketsAreFew : Type 0
LaidTicketsAreFew = (counts : List ℤ) (patrols : ℕ) (tickets : ℤ) → pos 1 ≤ℤ tickets → All (IsWithin (pos 0) tickets) counts
    → (k : List Ticket) → All (λ (x : Ticket). pos 1 ≤ℤ x.weight) k → AllPairs (λ (x y : Ticket). x.play.code ≢ y.play.code) k
    → AreMultiple (moment_tickets counts patrols tickets) k → length k ≤ length counts + 1
