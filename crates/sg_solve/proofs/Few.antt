-- A right report has few tickets.
use Rattle.std.proofs.Common.{arith}
use Rattle.sg_model.specs.Games.{resource_count}
use Rattle.sg_split.proofs.Few.{laid_few}
use Rattle.sg_solve.specs.Laws.{RightTicketsAreFew}

pub right_few : RightTicketsAreFew
right_few g r is =
    let laid = is.laid in
    let cover = laid.coverage in
    let k = is.tickets.commitment in
    let few = laid_few laid.counts (resource_count g) laid.moments cover.ticket_range.at_least cover.within r.tickets.tickets k.positive k.distinct laid.plays in
    omega (arith, few, cover.one_each)
