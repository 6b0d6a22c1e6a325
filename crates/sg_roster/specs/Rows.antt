-- The rows of a roster, and their text as `csv` writes it.
use Rattle.std.specs.Prelude.{ℕ, zero, suc, ◌+◌, List, [], ◌∷◌, map, slice_index, codes, decimal, if◌then◌else◌}
use Rattle.std.specs.List.{flat_map}
use Rattle.csv.specs.Writing.{default_writer, row_text}
use Rattle.sg_model.specs.declared.ticket.Ticket.{Ticket}
use Rattle.sg_model.specs.Sums.{nth, numbers}
use Rattle.sg_model.specs.Games.{Game, is_matrix, resource_count, resource_schedules}
use Rattle.sg_game.specs.Counts.{resource_name, schedule_name}
use Rattle.sg_tickets.specs.Expansion.{play_at}

-- what a choice says to resource r: the name of the schedule that it takes, and nothing where it is idle
abbrev pub choice_name : Game → ℕ → ℕ → List ℕ
choice_name g r zero = []
choice_name g r (suc c) = schedule_name g (nth (resource_schedules g r) (suc c) 0)

-- what a play says: to each resource its choice, or in matrix form the name of the row
abbrev pub assignments : Game → List ℕ → List (List ℕ)
assignments g play =
    if is_matrix g then nth g.goals (slice_index play 0) [] ∷ []
    else map (λ r. choice_name g r (nth play r 0)) (numbers (resource_count g))

-- what the assignments stand under: the names of the resources, or in matrix form `row`
abbrev pub header_names : Game → List (List ℕ)
header_names g = if is_matrix g then codes "row" ∷ [] else map (resource_name g) (numbers (resource_count g))

-- the fields of the header
abbrev pub header_fields : Game → List (List ℕ)
header_fields g = codes "day" ∷ header_names g

-- the fields of a day: its number, and what the play of its ticket says
abbrev pub day_fields : Game → List Ticket → ℕ → ℕ → List (List ℕ)
day_fields g k day place = decimal day ∷ assignments g (play_at k place)

-- the days that have the tickets at these places, from this day on
abbrev pub days_from : Game → List Ticket → ℕ → List ℕ → List (List (List ℕ))
days_from g k day [] = []
days_from g k day (place ∷ rest) = day_fields g k day place ∷ days_from g k (day + 1) rest

-- the text of records, one after another, as a writer with the defaults of `csv` writes them
abbrev pub records_text : List (List (List ℕ)) → List ℕ
records_text records = flat_map (row_text default_writer) records

-- a roster: the header, then the days from 1 on
abbrev pub roster_text : Game → List Ticket → List ℕ → List ℕ
roster_text g k days = records_text (header_fields g ∷ days_from g k 1 days)
