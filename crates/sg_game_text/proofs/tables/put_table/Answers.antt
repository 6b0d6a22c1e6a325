use Rattle.std.proofs.Common.{◌+◌, [], refl, arith}
use Rattle.sg_model.specs.Games.{attacker}
use Rattle.sg_model.specs.Sums.{nth}
use Rattle.sg_format.specs.GameText.{pays_array}
use Rattle.sg_game_text.specs.Writing.{table_of_side}
use Rattle.sg_game_text.proofs.Joined.{array_written, nth_written}
use Rattle.sg_game_text.proofs.Sized.{rows_count}
use Rattle.sg_game_text.proofs.tables.put_table.Goals as goal

pub loop-i-preserved : goal.loop-i-preserved
loop-i-preserved c =
    let table = table_of_side c.args.side (attacker c.args.game.now c.args.l) in
    let count = rows_count c.args.game.now c.args.side c.args.l c.promises.ensures c.requires.matrix c.requires.known_type in
    nth_written pays_array table c.loop-i.i c.from.result [] c.push.new.self.items c.loop-i.text.items c.put_comma.new.text.items c.put_row.new.text.items (pays_array (nth table (c.loop-i.i + 1) []))
    (omega (arith, count)) (omega arith) c.loop-i.invariant c.in_ok-put_comma.ensures c.in_ok-put_row.ensures refl

pub returns : goal.returns
returns c =
    let count = rows_count c.args.game.now c.args.side c.args.l c.promises.ensures c.requires.matrix c.requires.known_type in
    array_written pays_array (table_of_side c.args.side (attacker c.args.game.now c.args.l)) c.loop-i.i c.args.text.now.items c.push.new.self.items c.loop-i.text.items c.push-2.new.self.items
    (omega (arith, count)) c.in_ok-push.ensures.items c.loop-i.invariant c.in_ok-push-2.ensures.items
