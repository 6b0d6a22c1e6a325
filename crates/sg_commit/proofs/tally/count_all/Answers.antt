use Rattle.std.proofs.Common.{◌≤◌, ◌∙◌, ap, length, List, arith}
use Rattle.std.proofs.lemmas.Int.{ints}
use Rattle.sg_model.specs.declared.ticket.Ticket.{Ticket}
use Rattle.sg_model.specs.Games.{is_matrix}
use Rattle.sg_game.specs.Counts.{target_count}
use Rattle.sg_game.specs.Tallies.{tallied}
use Rattle.sg_game.proofs.Tallied.{few_targets, tallied-table}
use Rattle.sg_commit.proofs.tally.count_all.Goals as goal

pub returns : goal.returns
returns c =
    let rules = c.tickets.ensures.rules in
    let all : target_count c.args.game.now ≤ 10000 = omega (arith, c.targets-targets.ensures.count, c.targets-targets.ensures.few) in
    let few : length c.args.game.now.goals ≤ 10000 = few_targets (is_matrix c.args.game.now) (length c.args.game.now.goals) c.requires.security all in
    tallied-table c.args.game.now c.args.k.now.tickets (length c.args.cells.now) c.args.cells.now c.tally.new.cells c.requires.security rules.positive
    (omega (arith, ints, rules.sum, c.requires.few)) (omega (arith, few, c.requires.room)) c.requires.fresh
    (c.tally.ensures ∙ ap (λ (k : List Ticket). tallied c.args.game.now c.args.cells.now 1 k) c.tickets.ensures.value)
