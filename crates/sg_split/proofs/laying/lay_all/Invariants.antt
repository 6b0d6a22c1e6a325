use Rattle.std.proofs.Common.{◌<◌, ℕ, pos, get_or, ◌≤ℤ◌}
use Rattle.sg_split.specs.Lines.{IsLaid}
use Rattle.sg_split.proofs.laying.lay_all.Given as goal

-- tickets up to the last cut that is passed
abbrev pub invariant-loop-cut : goal.invariant-loop-cut
invariant-loop-cut l = record {
  laid : IsLaid l.line l.laid.tickets.items l.laid.last;
  passed : (j : ℕ) → j < l.cut-index → get_or l.cuts j (pos 0) ≤ℤ l.laid.last.moment;
}
