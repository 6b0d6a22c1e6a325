use Rattle.std.proofs.Common.{◌≡◌, drop}
use Rattle.std.specs.Prelude.{Result}
use Rattle.sg_num.specs.declared.step.Wide.{Wide}
use Rattle.sg_num.specs.Operations.{formed}
use Rattle.sg_rows.specs.Rows.{combine_steps}
use Rattle.sg_rows.proofs.combining.combination_fits.Given as goal

abbrev pub invariant-loop-j : goal.invariant-loop-j
invariant-loop-j l = ◌≡◌ {A = Result (Unit {0}) Wide} (formed (combine_steps l.p l.q l.row l.other) tt) (formed (combine_steps l.p l.q (drop l.j l.row) (drop l.j l.other)) tt)
