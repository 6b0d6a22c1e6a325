use Rattle.std.proofs.Common.{arith, codes}
use Rattle.sg_model.specs.Games.{unnamed}
use Rattle.sg_format.specs.GameText.{named_table}
use Rattle.sg_game_text.proofs.Joined.{table_written}
use Rattle.sg_game_text.proofs.Sized.{schedules_count}
use Rattle.sg_game_text.proofs.listed.put_schedules.Goals as goal

pub loop-s-preserved : goal.loop-s-preserved
loop-s-preserved c =
    let g = c.args.game.now in
    let count = schedules_count g c.requires.listed in
    table_written (named_table (codes "schedule") (codes "targets") g.goals) g.schedules c.loop-s.s unnamed c.args.text.now.items c.loop-s.text.items c.put_schedule.new.text.items
    (omega (arith, count)) c.loop-s.invariant c.in_ok-put_schedule.ensures
