use Rattle.std.proofs.Common.{arith}
use Rattle.sg_matchings.proofs.Perfect.{none_has, some_has}
use Rattle.sg_matchings.proofs.augmenting.is_matched.Goals as goal

pub returns-then-matched-row-clause-some : goal.returns-then-matched-row-clause-some
returns-then-matched-row-clause-some c _ = some_has c.args.matched.now c.loop-row.row c.args.column c.loop-row-test.true c.if-matched-row.true

pub returns-clause-none : goal.returns-clause-none
returns-clause-none c _ = none_has c.args.matched.now c.args.column (λ i lt. c.loop-row.invariant i (omega (arith, lt, c.loop-row-test.false)))
