use Rattle.std.proofs.Common.{◌≡◌, ◌++◌, take, drop}
use Rattle.sg_model.specs.Commitments.{scaled}
use Rattle.sg_commit.proofs.joining.divide.Given as goal

-- those before are divided
abbrev pub invariant-loop-i : goal.invariant-loop-i
invariant-loop-i l = scaled l.by (take l.i l.tickets) ++ drop l.i l.tickets ≡ l.initial.tickets
