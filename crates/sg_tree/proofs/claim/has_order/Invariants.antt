use Rattle.std.proofs.Common.{◌≡◌, length}
use Rattle.sg_tree.specs.Claims.{is_claim_rising}
use Rattle.sg_tree.proofs.claim.has_order.Given as goal

abbrev pub invariant-loop-rest : goal.invariant-loop-rest
invariant-loop-rest l = is_claim_rising l.rest ≡ is_claim_rising l.tickets

abbrev pub decreases-loop-rest : goal.decreases-loop-rest
decreases-loop-rest l = length l.rest
