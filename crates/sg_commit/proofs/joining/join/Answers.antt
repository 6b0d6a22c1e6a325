use Rattle.std.proofs.Common.{arith}
use Rattle.std.proofs.lemmas.Int.{ints}
use Rattle.sg_commit.proofs.Standing.{both_within, last_positive, next_positive}
use Rattle.sg_commit.proofs.joining.join.Goals as goal

pub take_in-last-requires-clause-fits : goal.take_in-last-requires-clause-fits
take_in-last-requires-clause-fits c =
    let b = both_within c.loop-next.tickets c.loop-next.last c.loop-next.next c.loop-next.invariant.order (omega arith) c.loop-next.invariant.positive in
    omega (arith, ints, b, c.loop-next.invariant.sum, c.requires.fits)

pub take_in-last-requires-clause-last_positive : goal.take_in-last-requires-clause-last_positive
take_in-last-requires-clause-last_positive c = last_positive c.loop-next.tickets c.loop-next.last c.loop-next.next c.loop-next.invariant.order (omega arith) c.loop-next.invariant.positive

pub take_in-last-requires-clause-next_positive : goal.take_in-last-requires-clause-next_positive
take_in-last-requires-clause-next_positive c = next_positive c.loop-next.tickets c.loop-next.last c.loop-next.next c.loop-next.invariant.order (omega arith) c.loop-next.invariant.positive
