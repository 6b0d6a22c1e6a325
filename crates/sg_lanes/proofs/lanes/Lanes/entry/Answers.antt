use Rattle.std.proofs.Common.{◌∙◌, sym, ap, arith, length, Some}
use Rattle.sg_lanes.specs.Machines.{Machine}
use Rattle.sg_lanes.proofs.Entered.{bound-for, caps-long, entry-fits}
use Rattle.sg_lanes.proofs.lanes.Lanes.entry.Goals as goal

pub bound_of-requires-clause-caps : goal.bound_of-requires-clause-caps
bound_of-requires-clause-caps c = caps-long _ _ _ c.self.invariant c.as_slice.result.now c.as_slice.ensures.value

pub bound_of-requires-clause-fits : goal.bound_of-requires-clause-fits
bound_of-requires-clause-fits c =
    entry-fits _ _ _ c.self.invariant c.args.self.now c.as_slice.result.now c.args.node.now c.args.fact.now c.len-count.result c.self.view_is c.as_slice.ensures.value c.requires.prefix c.requires.result c.len-count.ensures
    (omega (arith, c.if-count-types.false, c.types.ensures.count))

pub returns-then-not-is_above : goal.returns-then-not-is_above
returns-then-not-is_above c = λ lt. (
  Some c.in-Some.bound,
  bound-for _ _ _ c.self.invariant c.args.self.now c.as_slice.result.now c.args.node.now c.args.fact.now c.len-count.result (Some c.in-Some.bound) c.self.view_is c.as_slice.ensures.value c.len-count.ensures c.in-Some.ensures,
  sym c.is_above.ensures ∙ c.if-not-is_above.true,
)

pub returns-in_ok-node-in-Some : goal.returns-in_ok-node-in-Some
returns-in_ok-node-in-Some c = (
  omega (arith, c.if-count-types.false, c.types.ensures.count, c.len-count.ensures, ap (λ (m : Machine). length m.task.game.types) c.self.view_is),
  c.in_ok-node-in-Some.ensures,
  bound-for _ _ _ c.self.invariant c.args.self.now c.as_slice.result.now c.args.node.now c.args.fact.now c.len-count.result (Some c.in-Some.bound) c.self.view_is c.as_slice.ensures.value c.len-count.ensures c.in-Some.ensures,
  sym c.is_above.ensures ∙ c.if-not-is_above.false,
)
