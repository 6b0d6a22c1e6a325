use Rattle.std.proofs.Common.{◌∙◌, ℤ, ap}
use Rattle.std.specs.Prelude.{Vec}
use Rattle.std.specs.declared.alloc.Global.{Global}
use Rattle.sg_game.specs.Seen.{number_lists}
use Rattle.sg_gen.specs.Generated.{block_row}
use Rattle.sg_gen.proofs.Lists.{map-push}
use Rattle.sg_gen.proofs.Words.{in_turn-more}
use Rattle.sg_gen.proofs.row.draw_block_rows.Goals as goal

pub loop-i-preserved : goal.loop-i-preserved
loop-i-preserved c =
    let pushed = ap number_lists c.in_ok-push.ensures.items ∙ map-push (λ (v : Vec ℤ Global). v.items) c.loop-i.rows.items c.in_ok-draw_block_row.field-0 in
    in_turn-more (block_row c.args.span) 1 c.loop-i._i c.args.rng.now c.loop-i.rng c.draw_block_row.new.rng (number_lists c.loop-i.rows.items) (number_lists c.push.new.self.items) c.in_ok-draw_block_row.field-0.items c.loop-i.invariant c.in_ok-draw_block_row.ensures pushed
