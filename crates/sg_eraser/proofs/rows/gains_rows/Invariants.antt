use Rattle.std.proofs.Common.{◌≡◌, flat_map, map, take}
use Rattle.sg_bounds.specs.Coverage.{gains, others}
use Rattle.sg_bounds.specs.Regions.{fixed}
use Rattle.sg_eraser.specs.TableValues.{meant_row}
use Rattle.sg_eraser.proofs.rows.gains_rows.Given as goal

abbrev pub invariant-loop-i : goal.invariant-loop-i
invariant-loop-i l = map meant_row l.rows ≡ flat_map (λ p. map (gains p.0) (others l.game p.1)) (take l.i (fixed l.fix))
