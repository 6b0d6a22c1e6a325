use Rattle.std.proofs.Common.{◌≡◌}
use Rattle.sg_model.specs.Sums.{numbers_from}
use Rattle.sg_gen.proofs.block.row_of_numbers.Given as goal

-- the lists so far
abbrev pub invariant-loop-i : goal.invariant-loop-i
invariant-loop-i l = l.list.items ≡ numbers_from l.a l.i
