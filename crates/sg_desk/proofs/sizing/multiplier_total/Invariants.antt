use Rattle.std.proofs.Common.{◌≡◌, drop, map, pos}
use Rattle.sg_tree.specs.declared.fact.Mark.{Mark}
use Rattle.sg_desk.proofs.Formed.{running_total}
use Rattle.sg_desk.proofs.sizing.multiplier_total.Given as goal

-- the rest is added to the sum so far
abbrev pub invariant-loop-mark : goal.invariant-loop-mark
invariant-loop-mark l = running_total (pos 0) (map (λ (m : Mark). m.v) l.marks) ≡ running_total l.total (map (λ (m : Mark). m.v) (drop l.mark-index l.marks))
