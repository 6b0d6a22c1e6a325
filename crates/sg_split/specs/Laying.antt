-- Counts laid end to end along the patrols, and who stands where at a moment.
use Rattle.std.specs.Prelude.{◌≡◌, ℕ, ◌+◌, if◌then◌else◌, List, [], ◌∷◌, map, length, ℤ, pos, ◌+ℤ◌, ◌*ℤ◌, ◌≤ℤ◌, All, Some, int_lt, unsigned_abs}
use Rattle.sg_model.specs.declared.ticket.Ticket.{Ticket}
use Rattle.sg_model.specs.Sums.{total, numbers_from}
use Rattle.sg_model.specs.Games.{Game, resource_count}
use Rattle.sg_model.specs.Limits.{IsWithin}

-- where each count ends, if they lie end to end from a place on
abbrev pub ends_from : ℤ → List ℤ → List ℤ
ends_from place [] = []
ends_from place (count ∷ counts) = (place +ℤ count) ∷ ends_from (place +ℤ count) counts

-- the number of the first end past a place, if the first of the list has number t, and 0 where none is past it
abbrev pub first_past : ℕ → List ℤ → ℤ → ℕ
first_past t [] place = 0
first_past t (end ∷ ends) place = if int_lt place end then t else first_past (t + 1) ends place

-- the target that stands at a place of the line: the first whose count ends past it, or 0 where there is none
abbrev pub target_at : List ℤ → ℤ → ℕ
target_at ends place = first_past 1 ends place

-- who stands where at a moment: the patrols make up the line, one after another, each with one place for every moment
abbrev pub play_at : List ℤ → ℕ → ℤ → ℤ → List ℕ
play_at ends patrols moments moment = map (λ before. target_at ends (pos before *ℤ moments +ℤ moment)) (numbers_from 0 patrols)

-- the play of each of these moments, with weight 1
abbrev pub tickets_at : List ℤ → ℕ → ℤ → List ℕ → List Ticket
tickets_at ends patrols moments chosen = map (λ moment. record { play = record { code = play_at ends patrols moments (pos moment) }; weight = pos 1 }) chosen

-- a ticket for every moment, of which there are as many as tickets in all
unfoldable pub moment_tickets : List ℤ → ℕ → ℤ → List Ticket
moment_tickets counts patrols tickets = tickets_at (ends_from (pos 0) counts) patrols tickets (numbers_from 0 (unsigned_abs tickets))

-- counts that identical patrols can cover, out of so many tickets
pub record AreCounts (g : Game) (counts : List ℤ) (tickets : ℤ) : Type 0 where
  -- the game has identical patrols
  pub patrolled : g.patrols ≡ Some (resource_count g)
  -- there is a ticket
  pub positive : pos 1 ≤ℤ tickets
  -- one count for each target
  pub one_each : length counts ≡ length g.goals
  -- none is below 0 or above the tickets
  pub within : All (IsWithin (pos 0) tickets) counts
  -- together they are no more than the patrols can cover in all the tickets
  pub few : total (λ count. count) counts ≤ℤ (pos (resource_count g) *ℤ tickets)
