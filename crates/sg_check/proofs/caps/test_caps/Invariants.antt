use Rattle.sg_check.proofs.Capped.{HasCapped}
use Rattle.sg_check.proofs.caps.test_caps.Given as goal

-- the caps so far have passed
abbrev pub invariant-loop-i : goal.invariant-loop-i
invariant-loop-i l = HasCapped l.game l.report l.next l.i
