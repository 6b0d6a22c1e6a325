use Rattle.std.proofs.Common.{◌≡◌, ◌+◌, ◌-◌, ◌^◌, ◌≤◌, drop, min}
use Rattle.sg_roster.specs.Rows.{days_from, records_text, roster_text}
use Rattle.sg_roster.specs.Writing.{HasPut, IsBetweenRows}
use Rattle.sg_roster.proofs.rows.put_rows.Given as goal

-- the header and the days before this one are put, a piece each
abbrev pub invariant-loop-i : goal.invariant-loop-i
invariant-loop-i g l = record {
  put : HasPut (g.O.Sink.state l.fn.out).bytes (g.O.Sink.state l.out).bytes (roster_text l.game l.fn.k.tickets l.order) (records_text (days_from l.game l.fn.k.tickets (l.i + 1) (drop l.i l.order)));
  between : IsBetweenRows l.writer;
  pieces : (g.O.Sink.state l.out).puts ≡ min ((g.O.Sink.state l.fn.out).puts + (1 + l.i)) (2 ^ 64 - 1);
  count : (g.O.Sink.state l.fn.out).faults ≤ (g.O.Sink.state l.out).faults;
}
