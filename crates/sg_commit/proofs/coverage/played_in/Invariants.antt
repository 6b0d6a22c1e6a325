use Rattle.std.proofs.Common.{◌≡◌, pos, ◌+ℤ◌, ◌≤ℤ◌, drop, [], ◌∷◌}
use Rattle.sg_model.specs.Commitments.{weight_on, weight_total}
use Rattle.sg_commit.proofs.coverage.played_in.Given as goal

-- what is counted, and what is left to count, is the whole
abbrev pub invariant-loop-ticket : goal.invariant-loop-ticket
invariant-loop-ticket l = record {
  whole : weight_on l.tickets (l.row ∷ []) ≡ l.count +ℤ weight_on (drop l.ticket-index l.tickets) (l.row ∷ []);
  low : pos 0 ≤ℤ l.count;
  high : (l.count +ℤ weight_total (drop l.ticket-index l.tickets)) ≤ℤ weight_total l.tickets;
}
