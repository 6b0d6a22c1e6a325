-- What a right report on a game of identical patrols says.
use Rattle.std.specs.Prelude.{◌≡◌, ℕ, ◌^◌, true, List, [], ℤ, pos, ◌≤ℤ◌, All, unsigned_abs}
use Rattle.std.specs.Int.{◌∣◌}
use Rattle.sg_model.specs.declared.level.Level.{Level}
use Rattle.sg_model.specs.declared.ticket.Ticket.{Ticket}
use Rattle.sg_model.specs.Games.{Game, resource_count}
use Rattle.sg_model.specs.Commitments.{IsCommitment, IsValue, weight_total, AreLowest}
use Rattle.sg_model.specs.Optimality.{IsOptimal}
use Rattle.sg_model.specs.Origami.{IsWater, AreLevelTickets}
use Rattle.sg_frac.specs.Fractions.{Fraction, IsReduced}
use Rattle.sg_origami.specs.Fillings.{IsCoverage, IsReasonOf}
use Rattle.sg_commit.specs.Parts.{AreMultiple}
use Rattle.sg_split.specs.Laying.{moment_tickets}
use Rattle.sg_bounds.specs.Accepted.{IsAccepted}
use Rattle.sg_tree.specs.Claims.{Claimed, is_claim}
use Rattle.sg_tree.specs.declared.fact.Fact.TheVariants.{Water}
use Rattle.sg_tree.specs.declared.tree.Tree.TheVariants.{Closed}
use Rattle.sg_tree.specs.declared.report.Ending.TheVariants.{Optimal}
use Rattle.sg_tree.specs.declared.report.Report.{Report}

-- the tickets are a commitment, with their total, in lowest terms
pub record AreRightTickets (g : Game) (c : Claimed) : Type 0 where
  -- they are legal, different, and each has a weight of at least 1
  pub commitment : IsCommitment g c.tickets
  -- their plays stand in rising order
  pub rising : is_claim c.tickets ≡ true
  -- the total is the sum of their weights, which are in lowest terms
  pub total : c.total ≡ weight_total c.tickets
  pub lowest : AreLowest c.tickets
  -- there are at most 2^78
  pub few : c.total ≤ℤ pos (2 ^ 78)

-- one water-level fact, which holds, and which the tickets reach
pub record IsRightLevel (g : Game) (k : List Ticket) (level : Fraction) (why : Level) : Type 0 where
  -- the attacker's best payoff can't fall below the level, for this reason
  pub water : IsWater g level.num level.den why
  -- the level is in lowest terms
  pub reduced : IsReduced level
  -- the reason is the first target that pays the level where it is covered for certain, else the patrols
  pub reason : IsReasonOf g level.num level.den why
  -- the tickets cover each target just as the level asks
  pub coverage : AreLevelTickets g level.num level.den k

-- the tickets are the plays of all moments, where the counts that the level asks lie end to end along the patrols
pub record AreLaid (g : Game) (k : List Ticket) (level : Fraction) : Type 0 where
  pub counts : List ℤ
  pub moments : ℤ
  -- the counts are the coverage that reaches the level, in lowest terms
  pub coverage : IsCoverage g level.num level.den counts moments
  -- each play has as many tickets as it stands moments, in lowest terms
  pub plays : AreMultiple (moment_tickets counts (resource_count g) moments) k

-- a report that says what is true of the game, and leaves nothing open
pub record IsOptimalReport (g : Game) (r : Report) : Type 0 where
  pub tickets : AreRightTickets g r.tickets
  -- the value is theirs, ties to the defender, in lowest terms
  pub value : IsValue g r.tickets.tickets r.value.num r.value.den
  pub reduced : IsReduced r.value
  -- no commitment has more
  pub optimal : IsOptimal g r.tickets.tickets
  -- the tree is one water-level fact, and there are no caps
  pub level : Fraction
  pub why : Level
  pub tree : r.tree ≡ Closed (Water level why)
  pub right_level : IsRightLevel g r.tickets.tickets level why
  pub laid : AreLaid g r.tickets.tickets level
  pub caps : r.caps ≡ []
  -- the upper bound is the value, and the verdict says so
  pub upper : r.upper ≡ r.value
  pub ending : r.ending ≡ Optimal
  -- so a checker accepts it
  pub accepted : IsAccepted g r
