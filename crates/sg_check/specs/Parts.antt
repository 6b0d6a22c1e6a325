-- The tests of a report, cut into the runs that a checker makes.
use Rattle.std.specs.Prelude.{ℕ, ◌+◌, List, [], ◌∷◌, ◌++◌, Option}
use Rattle.sg_model.specs.Games.{Game}
use Rattle.sg_tree.specs.declared.fact.Fact.{Fact}
use Rattle.sg_tree.specs.declared.fix.Fix.{Fix}
use Rattle.sg_tree.specs.declared.report.Report.{Report}
use Rattle.sg_bounds.specs.Checking.{Stop, base_stops, bound_stops, bounded, end_stops, forks, holds, root_line, root_stops, sized, ticket_stops, weights_fit, totalled, lowest, value_fits, valued, value_line}
use Rattle.sg_bounds.specs.Trees.{node_of}

-- of the total, behind the plays
abbrev pub total_stops : List Stop
total_stops = record { line = 2; reason = 9; test = weights_fit } ∷ record { line = 2; reason = 2; test = totalled } ∷ record { line = 2; reason = 2; test = lowest } ∷ []

-- of the value, behind the total
abbrev pub worth_stops : Report → List Stop
worth_stops r = record { line = value_line r; reason = 9; test = value_fits } ∷ record { line = value_line r; reason = 3; test = valued } ∷ []

-- of the tickets, their total and their value
abbrev pub opening_stops : Report → List Stop
opening_stops r = ticket_stops 3 r.tickets.tickets ++ (total_stops ++ worth_stops r)

-- of the caps, the tree, the upper bound and the verdict
abbrev pub closing_stops : Game → Report → List Stop
closing_stops g r = bound_stops r ++ (root_stops g (root_line r) (node_of r.tree) ++ end_stops r)

-- of the size sum and the inequalities of a fact at a line
abbrev pub shown_stops : ℕ → Fix → Fact → List Stop
shown_stops line fix f = record { line = line; reason = 9; test = sized fix f } ∷ record { line = line; reason = 6; test = holds fix f } ∷ []

-- of the bound of a fact that fixes n types
abbrev pub bounded_stops : ℕ → ℕ → Fact → List Stop
bounded_stops line n f = record { line = line; reason = 9; test = bounded n f } ∷ []

-- of a split by type l with so many parts, and of its base
abbrev pub fork_stops : ℕ → List ℕ → ℕ → ℕ → Option Fact → List Stop
fork_stops line acts l count base = record { line = line; reason = 5; test = forks acts l count } ∷ base_stops (line + 1) acts base
