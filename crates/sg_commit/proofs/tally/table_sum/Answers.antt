use Rattle.std.proofs.Common.{◌≡◌, ◌∙◌}
use Rattle.std.specs.Int.{w128}
use Rattle.std.specs.Prelude.{FitsSigned}
use Rattle.std.proofs.lemmas.Int.{to_z-of_z}
use Rattle.sg_model.specs.Games.{payoff}
use Rattle.sg_model.specs.Commitments.{weight_total}
use Rattle.sg_commit.specs.Tallies.{counted_sum}
use Rattle.sg_commit.specs.Sides.{covered_to, uncovered_to}
use Rattle.sg_game.proofs.Tallied.{action-target}
use Rattle.sg_commit.proofs.Mixed.{counted_to-is, from_table}
use Rattle.sg_commit.proofs.tally.table_sum.Goals as goal

pub count_at-count-requires : goal.count_at-count-requires
count_at-count-requires c =
    let counted = from_table c.args.game.now c.args.k.now.tickets c.args.table.now c.is_empty.result c.requires.table c.is_empty.ensures c.if-is_empty.false in
    (action-target c.args.game.now c.args.k.now.tickets c.args.table.now c.args.l c.args.a counted c.requires.known_action.1).1

pub counted-requires-clause-security : goal.counted-requires-clause-security
counted-requires-clause-security c =
    (from_table c.args.game.now c.args.k.now.tickets c.args.table.now c.is_empty.result c.requires.table c.is_empty.ensures c.if-is_empty.false).security

pub counted-requires-clause-known_target : goal.counted-requires-clause-known_target
counted-requires-clause-known_target c =
    let counted = from_table c.args.game.now c.args.k.now.tickets c.args.table.now c.is_empty.result c.requires.table c.is_empty.ensures c.if-is_empty.false in
    (c.requires.known_action.0, (action-target c.args.game.now c.args.k.now.tickets c.args.table.now c.args.l c.args.a counted c.requires.known_action.1).0)

pub returns : goal.returns
returns c =
    let counted = from_table c.args.game.now c.args.k.now.tickets c.args.table.now c.is_empty.result c.requires.table c.is_empty.ensures c.if-is_empty.false in
    let target = action-target c.args.game.now c.args.k.now.tickets c.args.table.now c.args.l c.args.a counted c.requires.known_action.1 in
    let rules = c.tickets-tickets.ensures.rules in
    let total_fits : FitsSigned w128 c.total.result = record { sfits = c.total.type_inv } in
    let count_fits : FitsSigned w128 c.count_at-count.result = record { sfits = c.count_at-count.type_inv } in
    let total_is : c.total.result ≡ weight_total c.args.k.now.tickets = c.total.ensures ∙ rules.sum in
    let sum : c.counted.result ≡ counted_sum c.total.result c.count_at-count.result (covered_to c.args.side (payoff c.args.game.now c.args.l c.args.a)) (uncovered_to c.args.side (payoff c.args.game.now c.args.l c.args.a)) = simp to_z-of_z at c.counted.ensures in
    sum
    ∙ counted_to-is c.args.game.now c.promises.ensures c.args.k.now.tickets rules.positive c.args.table.now counted c.total.result c.count_at-count.result c.args.l c.args.a c.requires.known_action.0 target.0 total_is c.count_at-count.ensures c.args.side
