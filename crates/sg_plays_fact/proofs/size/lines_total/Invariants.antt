use Rattle.std.proofs.Common.{map, drop}
use Rattle.sg_tree.specs.declared.fact.Line.{Line}
use Rattle.sg_plays_fact.proofs.Running.{IsRunning}
use Rattle.sg_plays_fact.proofs.size.lines_total.Given as goal

-- the sum so far, and the multipliers that are left
abbrev pub invariant-loop-line : goal.invariant-loop-line
invariant-loop-line l = IsRunning (map (λ (x : Line). x.v) l.lines) l.total (map (λ (x : Line). x.v) (drop l.line-index l.lines))
