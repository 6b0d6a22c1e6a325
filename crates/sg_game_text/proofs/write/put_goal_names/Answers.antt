use Rattle.std.proofs.Common.{[], ap, arith}
use Rattle.sg_format.specs.GameText.{quoted}
use Rattle.sg_game_text.proofs.Joined.{nth_written}
use Rattle.sg_game_text.proofs.write.put_goal_names.Goals as goal

pub loop-t-preserved : goal.loop-t-preserved
loop-t-preserved c =
    nth_written quoted c.args.game.now.goals c.loop-t.t c.from.result [] c.push.new.self.items c.loop-t.text.items c.put_comma.new.text.items c.put_quoted.new.text.items (quoted c.goal_name.result.now)
    (omega arith) (omega arith) c.loop-t.invariant c.in_ok-put_comma.ensures c.in_ok-put_quoted.ensures (ap quoted c.goal_name.ensures)
