use Rattle.std.proofs.Common.{◌≡◌, pos, ◌+ℤ◌, ◌≤ℤ◌, drop}
use Rattle.sg_model.specs.Commitments.{cover_count, weight_total}
use Rattle.sg_commit.proofs.coverage.count_in.Given as goal

-- what is counted, and what is left to count, is the whole
abbrev pub invariant-loop-ticket : goal.invariant-loop-ticket
invariant-loop-ticket l = record {
  whole : cover_count l.game l.tickets l.target ≡ l.count +ℤ cover_count l.game (drop l.ticket-index l.tickets) l.target;
  low : pos 0 ≤ℤ l.count;
  high : (l.count +ℤ weight_total (drop l.ticket-index l.tickets)) ≤ℤ weight_total l.tickets;
}
