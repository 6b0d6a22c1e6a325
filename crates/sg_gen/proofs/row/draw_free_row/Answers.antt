use Rattle.std.proofs.Common.{FitsSigned}
use Rattle.std.specs.Int.{w64}
use Rattle.std.proofs.lemmas.Int.{to_z-of_z}
use Rattle.sg_gen.proofs.Words.{free-drawn}
use Rattle.sg_gen.proofs.row.draw_free_row.Goals as goal

pub returns : goal.returns
returns c =
    let gap : FitsSigned w64 c.draw_gap-gap.result = record { sfits = c.draw_gap-gap.type_inv } in
    let loss : FitsSigned w64 c.draw_below-loss.result = record { sfits = c.draw_below-loss.type_inv } in
    let gain : FitsSigned w64 c.draw_below-gain.result = record { sfits = c.draw_below-gain.type_inv } in
    let open_loss : FitsSigned w64 c.draw_below-open_loss.result = record { sfits = c.draw_below-open_loss.type_inv } in
    free-drawn c.args.rng.now c.draw_gap-gap.new.rng c.draw_below-loss.new.rng c.draw_below-gain.new.rng c.draw_below-open_loss.new.rng c.draw_gap-gap.result c.draw_below-loss.result c.draw_below-gain.result c.draw_below-open_loss.result _
    c.draw_gap-gap.ensures.draws c.draw_below-loss.ensures.draws c.draw_below-gain.ensures.draws c.draw_below-open_loss.ensures.draws (simp to_z-of_z at c.in_ok-row.ensures)
