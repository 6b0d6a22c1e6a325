use Rattle.std.proofs.Common.{◌≤◌, arith, length}
use Rattle.sg_model.specs.Games.{is_matrix}
use Rattle.sg_game.specs.Counts.{target_count}
use Rattle.sg_game.proofs.Tallied.{few_targets, tallied-table}
use Rattle.sg_check.proofs.tally.count_all.Goals as goal

pub returns : goal.returns
returns c =
    let g = c.args.game.now in
    let all : target_count g ≤ 10000 = omega (arith, c.targets-targets.ensures.count, c.targets-targets.ensures.few) in
    let few : length g.goals ≤ 10000 = few_targets (is_matrix g) (length g.goals) c.requires.security all in
    tallied-table g c.args.tickets.now (length c.args.cells.now) c.args.cells.now c.tally.new.cells c.requires.security c.requires.positive c.requires.few (omega (arith, few, c.requires.room)) c.requires.fresh c.tally.ensures
