use Rattle.std.proofs.Common.{take}
use Rattle.std.specs.List.{All}
use Rattle.sg_bounds.specs.Caps.{IsUnderCap}
use Rattle.sg_check.proofs.caps.are_under.Given as goal

-- the facts so far are under the cap
abbrev pub invariant-loop-fact : goal.invariant-loop-fact
invariant-loop-fact s = All (IsUnderCap s.game s.l s.v) (take s.fact-index s.facts)
