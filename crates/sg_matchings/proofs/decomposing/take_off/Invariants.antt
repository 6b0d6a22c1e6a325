use Rattle.sg_matchings.proofs.Lowered.{AreLowered}
use Rattle.sg_matchings.proofs.decomposing.take_off.Given as goal

-- the rows before are lowered
abbrev pub invariant-loop-i : goal.invariant-loop-i
invariant-loop-i l = AreLowered l.fn.rows (record { columns = l.columns; weight = l.weight }) l.rows l.i
