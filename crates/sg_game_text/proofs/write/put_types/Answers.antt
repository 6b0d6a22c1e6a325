use Rattle.std.proofs.Common.{arith}
use Rattle.sg_model.specs.Games.{nobody}
use Rattle.sg_format.specs.GameText.{type_table}
use Rattle.sg_game_text.proofs.Joined.{table_written}
use Rattle.sg_game_text.proofs.write.put_types.Goals as goal

pub loop-l-preserved : goal.loop-l-preserved
loop-l-preserved c =
    let g = c.args.game.now in
    table_written (type_table g.kind) g.types c.loop-l.l nobody c.args.text.now.items c.loop-l.text.items c.put_type.new.text.items
    (omega arith) c.loop-l.invariant c.in_ok-put_type.ensures
