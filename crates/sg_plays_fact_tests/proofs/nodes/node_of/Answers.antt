use Rattle.std.proofs.Common.{arith}
use Rattle.sg_plays_fact_tests.proofs.Known.{fixed_is, known_fix}
use Rattle.sg_plays_fact_tests.proofs.nodes.node_of.Goals as goal

pub returns : goal.returns
returns c =
    let a = c.args in
    let known = known_fix a.game.now a.first a.acts.now (omega (arith, c.if-acts-eq0.false)) (omega (arith, c.if-first-eq0.false)) (omega (arith, c.if-first-acts.false, c.types.ensures.count))
    (λ k lt. c.loop-i.invariant k (omega (arith, lt, c.loop-i-test.false))) in
    fixed_is a.game.now a.first a.acts.now c.fixed.result c.fixed.ensures known
