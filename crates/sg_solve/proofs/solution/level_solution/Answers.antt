use Rattle.sg_solve.proofs.Reports.{one_length, right_report, small_total}
use Rattle.sg_solve.proofs.solution.level_solution.Goals as goal

pub value_of-value-requires-clause-small : goal.value_of-value-requires-clause-small
value_of-value-requires-clause-small c =
    let t = c.in_ok-filling.ensures.coverage.ticket_range in
    small_total c.in_ok-commitment.commitment.total c.in_ok-filling.filling.total c.in_ok-commitment.ensures.wrap.divides t.at_least t.at_most

pub of-requires : goal.of-requires
of-requires c = one_length c.args.game.now c.promises.ensures c.requires c.in_ok-commitment.commitment.tickets c.in_ok-commitment.ensures.wrap.commitment.legal

pub returns : goal.returns
returns c =
    let g = c.args.game.now in
    let f = c.in_ok-filling.filling in
    let h = right_report g c.promises.ensures c.requires f c.in_ok-filling.ensures c.in_ok-commitment.commitment c.in_ok-commitment.ensures.rules c.in_ok-commitment.ensures.wrap
    c.value_of-value.result c.value_of-value.ensures.value c.value_of-value.ensures.reduced in
    rw c.of.ensures (rw c.new.ensures h)

pub value_of-value-requires-clause-legal : goal.value_of-value-requires-clause-legal
value_of-value-requires-clause-legal c = c.in_ok-commitment.ensures.wrap.commitment.legal
