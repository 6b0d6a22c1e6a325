use Rattle.std.proofs.Common.{map}
use Rattle.sg_dual.specs.Parts.{fraction_of}
use Rattle.sg_dual.proofs.Shared.{HasMultiple}
use Rattle.sg_dual.proofs.weighing.multiple_of.Given as goal

abbrev pub invariant-loop-i : goal.invariant-loop-i
invariant-loop-i l = HasMultiple (map fraction_of l.shares) l.i l.multiple
