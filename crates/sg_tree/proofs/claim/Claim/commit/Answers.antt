use Rattle.sg_tree.proofs.Committing.{rules_of}
use Rattle.sg_tree.proofs.claim.Claim.commit.Goals as goal

pub of_rising-requires-clause-rising : goal.of_rising-requires-clause-rising
of_rising-requires-clause-rising c = (rules_of c.self.inside.tickets c.self.invariant).rising
