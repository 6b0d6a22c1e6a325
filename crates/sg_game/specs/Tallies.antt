-- How the tickets that cover each target are counted in one walk over the tickets.
use Rattle.std.specs.Prelude.{◌≡◌, ◌^◌, ℕ, ◌+◌, ◌<◌, ◌≤◌, false, if◌then◌else◌, List, [], ◌∷◌, length, ℤ, pos, ◌≤ℤ◌, All, nat_eq, slice_index_or, slice_set}
use Rattle.std.specs.Int.{w128, int_wrapping_add}
use Rattle.sg_game.specs.declared.cell.Cell.{Cell}
use Rattle.sg_model.specs.declared.ticket.Ticket.{Ticket}
use Rattle.sg_model.specs.Sums.{nth}
use Rattle.sg_model.specs.Games.{Game, is_matrix, resource_schedules, schedule_targets}
use Rattle.sg_model.specs.Commitments.{cover_count, weight_total}

-- what is counted of a target before any ticket
abbrev pub no_cell : Cell
no_cell = record { mark = 0; count = pos 0 }

-- ticket number n covers the target: it counts once
abbrev pub marked : ℕ → ℤ → Cell → Cell
marked n w x = if nat_eq x.mark n then x else record { mark = n; count = int_wrapping_add w128 x.count w }

-- it covers target t
abbrev pub touched : List Cell → ℕ → ℕ → ℤ → List Cell
touched cells t n w = slice_set cells t (marked n w (slice_index_or cells t no_cell))

-- it covers these targets
abbrev pub touched_all : List Cell → List ℕ → ℕ → ℤ → List Cell
touched_all cells [] n w = cells
touched_all cells (t ∷ ts) n w = touched_all (touched cells t n w) ts n w

-- it covers what these choices hold, those of the resources from r on
abbrev pub touched_from : Game → ℕ → List Cell → List ℕ → ℕ → ℤ → List Cell
touched_from g r cells [] n w = cells
touched_from g r cells (c ∷ cs) n w =
    touched_from g (r + 1) (touched_all cells (schedule_targets g (nth (resource_schedules g r) c 0)) n w) cs n w

-- the tickets, numbered from n on, are counted
abbrev pub tallied : Game → List Cell → ℕ → List Ticket → List Cell
tallied g cells n [] = cells
tallied g cells n (x ∷ xs) = tallied g (touched_from g 1 cells x.play.code n x.weight) (n + 1) xs

-- a cell for each target holds its count, and the weights are at least 1 and their total at most 2^95
pub record IsCounted (g : Game) (k : List Ticket) (cells : List Cell) : Type 0 where
  pub security : is_matrix g ≡ false
  pub positive : All (λ (x : Ticket). pos 1 ≤ℤ x.weight) k
  pub few : weight_total k ≤ℤ pos (2 ^ 95)
  pub size : length g.goals < length cells
  pub counts : (t : ℕ) → 1 ≤ t → t ≤ length g.goals → (slice_index_or cells t no_cell).count ≡ cover_count g k t

-- a count of tickets out of a total of at most 2^95
pub record IsTicketCount (total count : ℤ) : Type 0 where
  pub low : pos 0 ≤ℤ count
  pub high : count ≤ℤ total
  pub few : total ≤ℤ pos (2 ^ 95)

-- the cells are counted, where there are any
abbrev pub IsTally : Game → List Ticket → List Cell → Type 0
IsTally g k cells = 1 ≤ length cells → IsCounted g k cells
