use Rattle.std.proofs.Common.{◌∙◌, ◌+◌, [], ap, arith}
use Rattle.sg_model.specs.Games.{attacker}
use Rattle.sg_format.specs.GameText.{quoted}
use Rattle.sg_game_text.proofs.Joined.{nth_written}
use Rattle.sg_game_text.proofs.Sized.{action_name-is, actions_count}
use Rattle.sg_game_text.proofs.tables.put_actions.Goals as goal

pub loop-a-preserved : goal.loop-a-preserved
loop-a-preserved c =
    let count = actions_count c.args.game.now c.args.l c.requires.matrix in
    let name = c.action_name.ensures ∙ action_name-is c.args.game.now c.args.l (c.loop-a.a + 1) c.requires.matrix in
    nth_written quoted (attacker c.args.game.now c.args.l).actions c.loop-a.a c.from.result [] c.push.new.self.items c.loop-a.text.items c.put_comma.new.text.items c.put_quoted.new.text.items (quoted c.action_name.result.now)
    (omega (arith, count)) (omega arith) c.loop-a.invariant c.in_ok-put_comma.ensures c.in_ok-put_quoted.ensures (ap quoted name)
