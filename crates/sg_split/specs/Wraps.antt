-- What comes of counts that are laid on the patrols of a game.
use Rattle.std.specs.Prelude.{◌≡◌, ℕ, ◌≤◌, List, length, ℤ, pos, ◌*ℤ◌, ◌≤ℤ◌, All, unsigned_abs}
use Rattle.std.specs.Int.{◌∣◌}
use Rattle.sg_model.specs.declared.ticket.Ticket.{Ticket}
use Rattle.sg_model.specs.Sums.{nth}
use Rattle.sg_model.specs.Games.{Game, resource_count}
use Rattle.sg_model.specs.Commitments.{IsCommitment, cover_count}
use Rattle.sg_model.specs.OptimalityLaws.{AreOneMix}
use Rattle.sg_commit.specs.Committed.{Committed}
use Rattle.sg_commit.specs.Parts.{AreMultiple}
use Rattle.sg_split.specs.declared.line.Line.{Line}
use Rattle.sg_split.specs.Laying.{ends_from, moment_tickets}
use Rattle.sg_split.specs.Lines.{IsLine, spots}

-- the patrols of a game, with counts laid end to end on them
pub record IsPatrolLine (g : Game) (counts : List ℤ) (tickets : ℤ) (line : Line) : Type 0 where
  pub sound : IsLine line
  pub patrols : line.patrols ≡ resource_count g
  pub moments : line.moments ≡ tickets
  pub ends : spots line ≡ ends_from (pos 0) counts

-- parts that are, as one mix, a ticket for every moment
pub record AreMomentParts (g : Game) (counts : List ℤ) (tickets : ℤ) (parts : List Ticket) : Type 0 where
  pub mix : AreOneMix parts (moment_tickets counts (resource_count g) tickets)
  pub positive : All (λ (x : Ticket). pos 1 ≤ℤ x.weight) parts

-- the commitment that covers each target in its count out of so many tickets
pub record IsWrap (g : Game) (counts : List ℤ) (tickets : ℤ) (k : Committed) : Type 0 where
  -- its plays are legal, and no two are the same
  pub commitment : IsCommitment g k.tickets
  -- each target is covered in its share, which is its count out of the tickets
  pub covered : (t : ℕ) → 1 ≤ t → t ≤ length g.goals → cover_count g k.tickets t *ℤ tickets ≡ nth counts t (pos 0) *ℤ k.total
  -- its total divides the tickets
  pub divides : unsigned_abs k.total ∣ unsigned_abs tickets
  -- with all weights multiplied by one number it is the mix of the plays of all moments, each of which has one ticket
  pub moments : AreMultiple (moment_tickets counts (resource_count g) tickets) k.tickets
