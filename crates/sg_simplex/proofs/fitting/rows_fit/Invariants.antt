use Rattle.std.proofs.Common.{◌≡◌}
use Rattle.sg_num.specs.Operations.{formed}
use Rattle.sg_lp.specs.Moves.{row_steps}
use Rattle.sg_simplex.proofs.Rowwise.{Told, from_row}
use Rattle.sg_simplex.proofs.fitting.rows_fit.Given as goal

abbrev pub invariant-loop-k : goal.invariant-loop-k
invariant-loop-k l = ◌≡◌ {A = Told} (formed (row_steps l.state.tableau.rows l.products l.leaving) tt) (formed (from_row l.state.tableau.rows l.products l.leaving l.k) tt)
