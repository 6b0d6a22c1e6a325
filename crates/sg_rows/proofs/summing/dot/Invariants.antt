use Rattle.std.proofs.Common.{◌≡◌, drop, pos}
use Rattle.sg_num.specs.Operations.{formed}
use Rattle.sg_rows.specs.Rows.{dot_from, dot_steps}
use Rattle.sg_rows.proofs.summing.dot.Given as goal

-- what is formed from the start is what is formed from here on
abbrev pub invariant-loop-j : goal.invariant-loop-j
invariant-loop-j l =
    formed (dot_steps (pos 0) l.row l.col) (dot_from (pos 0) l.row l.col)
    ≡ formed (dot_steps l.acc (drop l.j l.row) (drop l.j l.col)) (dot_from l.acc (drop l.j l.row) (drop l.j l.col))
