use Rattle.std.proofs.Common.{arith, codes, map}
use Rattle.sg_model.specs.Games.{Named, unnamed}
use Rattle.sg_format.specs.GameText.{named_table}
use Rattle.sg_game_text.proofs.Joined.{table_written}
use Rattle.sg_game_text.proofs.Sized.{resources_count}
use Rattle.sg_game_text.proofs.listed.put_resources.Goals as goal

pub loop-r-preserved : goal.loop-r-preserved
loop-r-preserved c =
    let g = c.args.game.now in
    let count = resources_count g c.requires in
    table_written (named_table (codes "resource") (codes "schedules") (map (λ (x : Named). x.name) g.schedules)) g.resources c.loop-r.r unnamed c.args.text.now.items c.loop-r.text.items c.put_resource.new.text.items
    (omega (arith, count)) c.loop-r.invariant c.in_ok-put_resource.ensures
