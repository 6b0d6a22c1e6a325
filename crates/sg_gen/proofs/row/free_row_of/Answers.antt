use Rattle.std.proofs.Common.{FitsSigned, arith}
use Rattle.std.specs.Prelude.{pos, negsuc, ◌+ℤ◌, ◌-ℤ◌}
use Rattle.std.specs.Int.{w64}
use Rattle.std.proofs.lemmas.Int.{ints, to_z-of_z}
use Rattle.sg_gen.proofs.row.free_row_of.Goals as goal

pub returns : goal.returns
returns c =
    let a = c.args in
    let r = c.requires in
    let gap : FitsSigned w64 a.gap = c.ranges.gap in
    let loss : FitsSigned w64 a.loss = c.ranges.loss in
    let gain : FitsSigned w64 a.gain = c.ranges.gain in
    let open_loss : FitsSigned w64 a.open_loss = c.ranges.open_loss in
    let du : FitsSigned w64 (negsuc 0 -ℤ a.open_loss) = omega (arith, ints, r.open_low, r.open_high) in
    let ac : FitsSigned w64 (pos 0 -ℤ a.loss) = omega (arith, ints, r.loss_low, r.loss_high) in
    let au : FitsSigned w64 ((pos 0 -ℤ a.loss) +ℤ a.gap) = omega (arith, ints, r.loss_low, r.loss_high, r.gap_low, r.gap_high) in
    simp to_z-of_z at c.row_of.ensures
