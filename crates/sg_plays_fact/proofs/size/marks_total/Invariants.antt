use Rattle.std.proofs.Common.{map, drop}
use Rattle.sg_tree.specs.declared.fact.Mark.{Mark}
use Rattle.sg_plays_fact.proofs.Running.{IsRunning}
use Rattle.sg_plays_fact.proofs.size.marks_total.Given as goal

-- the sum so far, and the multipliers that are left
abbrev pub invariant-loop-mark : goal.invariant-loop-mark
invariant-loop-mark l = IsRunning (map (λ (x : Mark). x.v) l.marks) l.total (map (λ (x : Mark). x.v) (drop l.mark-index l.marks))
