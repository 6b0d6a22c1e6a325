use Rattle.std.proofs.Common.{◌≡◌, ◌++◌, drop}
use Rattle.sg_commit.proofs.commitment.copy_of.Given as goal

-- what is copied, and what is left, is the whole
abbrev pub invariant-loop-ticket : goal.invariant-loop-ticket
invariant-loop-ticket l = l.copy ++ drop l.ticket-index l.tickets ≡ l.tickets
