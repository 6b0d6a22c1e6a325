use Rattle.std.proofs.Common.{arith, subst, sym}
use Rattle.sg_bounds.specs.Regions.{IsFix}
use Rattle.sg_cover_fact_tests.proofs.Known.{prefix-is-fix}
use Rattle.sg_cover_fact_tests.proofs.asking.node_of.Goals as goal

pub returns : goal.returns
returns c =
    let known = prefix-is-fix c.args.game.now c.args.acts.now (omega arith) (omega (arith, c.types.ensures.count)) (λ k lt. c.loop-i.invariant k (omega (arith, lt, c.loop-i-test.false))) in
    subst (IsFix c.args.game.now) (sym c.prefix.ensures) known
