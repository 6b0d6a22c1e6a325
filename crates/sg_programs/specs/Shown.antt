-- What is formed at the end of a node's run, in its order, and the first operation there that doesn't fit.
use Rattle.std.specs.Prelude.{◌≡◌, ◌⊎◌, ◌∷◌, ◌++◌, List, [], length, if◌then◌else◌, nat_eq, pos, ◌<ℤ◌, Option, Some, None}
use Rattle.sg_num.specs.declared.step.Wide.{Wide}
use Rattle.sg_num.specs.Operations.{times}
use Rattle.sg_model.specs.declared.ticket.Ticket.{Ticket}
use Rattle.sg_model.specs.Commitments.{weight_total}
use Rattle.sg_model.specs.Sums.{numbers}
use Rattle.sg_model.specs.Games.{Game, prior_total}
use Rattle.sg_commit.specs.Committed.{Committed, IsCommitted}
use Rattle.sg_commit.specs.Parts.{AreMultiple}
use Rattle.sg_commit.specs.SumSteps.{worth_steps}
use Rattle.sg_search.specs.Results.{most_caps, least_caps}
use Rattle.sg_tree.specs.declared.fact.Fact.{Fact}
use Rattle.sg_tree.specs.declared.fix.Fix.{Fix}
use Rattle.sg_bounds.specs.SizeSteps.{bound_steps, size_steps}
use Rattle.sg_rows.specs.Rows.{place}
use Rattle.sg_lp.specs.Moves.{NamedStep, first_shown, under_name}
use Rattle.sg_lp.specs.States.{Tableau}
use Rattle.sg_programs.specs.Marks.{plays_fact}
use Rattle.sg_programs.specs.Plays.{plays_program}
use Rattle.sg_programs.specs.Points.{point_steps, point_tickets}

-- of a prefix the bound under the greatest caps, and then under the least; of a cap's node none
abbrev pub both_bounds : Game → Fix → Fact → List Wide
both_bounds g fix f = if nat_eq fix.first 1 then (bound_steps g (most_caps g) (length fix.acts) f ++ bound_steps g (least_caps g) (length fix.acts) f) else []

-- the size sum and the bounds of a fact
abbrev pub fact_values : Game → Fix → Fact → List NamedStep
fact_values g fix f = under_name 4 (size_steps g fix f ++ both_bounds g fix f)

-- the worth of a commitment, and then its total times the sum of the priors
abbrev pub commitment_values : Game → List Ticket → List NamedStep
commitment_values g k = under_name 6 (worth_steps g k (pos 0) (numbers (length g.types))) ++ under_name 7 (times (weight_total k) (prior_total g) ∷ [])

-- the fact of a final state: its multipliers
abbrev pub fact_at : Game → Fix → Tableau → Fact
fact_at g fix t = plays_fact g fix t.y t.rho

-- the commitment of a final state: that of its point
abbrev pub IsCommitmentAt : Game → Fix → Tableau → Committed → Type 0
IsCommitmentAt g fix t k = IsCommitted k × AreMultiple (point_tickets (plays_program g fix) t) k.tickets

-- the same where there is a point, that is where the multiplier of the whole isn't 0
abbrev pub IsPointAt : Game → Fix → Tableau → Option Committed → Type 0
IsPointAt g fix t None = place t.y 0 ≡ pos 0
IsPointAt g fix t (Some k) = (pos 0 <ℤ place t.y 0) × IsCommitmentAt g fix t k

-- what a first list of values shows is shown, and else what later ones do
abbrev pub ShowsOr : Option NamedStep → Type 0 → Option NamedStep → Type 0
ShowsOr (Some s) Later shown = shown ≡ Some s
ShowsOr None Later shown = Later

-- of the commitment of the point
abbrev pub CommitmentShows : Game → Fix → Tableau → Option NamedStep → Type 0
CommitmentShows g fix t shown = (k : Committed) × (IsCommitmentAt g fix t k × (first_shown (commitment_values g k.tickets) ≡ shown))

-- of the point, if there is one, and then of its commitment
abbrev pub PointShows : Game → Fix → Tableau → Option NamedStep → Type 0
PointShows g fix t shown =
    ((place t.y 0 ≡ pos 0) × (shown ≡ None))
    ⊎ ((pos 0 <ℤ place t.y 0) × ShowsOr (first_shown (under_name 5 (point_steps (plays_program g fix) t))) (CommitmentShows g fix t shown) shown)

-- what the end of a node's run shows: the first operation that doesn't fit of the size sum and the bounds of its fact, of its point, of the worth
-- of its commitment and of the total times the priors, with the number of the value; or nothing
abbrev pub EndShows : Game → Fix → Tableau → Option NamedStep → Type 0
EndShows g fix t shown = ShowsOr (first_shown (fact_values g fix (fact_at g fix t))) (PointShows g fix t shown) shown
