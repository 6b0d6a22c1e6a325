use Rattle.std.proofs.Common.{arith, to_z}
use Rattle.std.specs.Int.{w128}
use Rattle.std.proofs.lemmas.Int.{ints}
use Rattle.sg_origami.proofs.Reachable.{floor_higher, floor_stays}
use Rattle.sg_origami.proofs.floor.floor_of.Goals as goal
use Rattle.sg_origami.proofs.floor.floor_of.Goals.{then-pay-next, else-pay-next}

pub loop-t-preserved : goal.loop-t-preserved
loop-t-preserved c =
    let g = c.args.game.now in
    let i = c.loop-t.invariant in
    let e = c.covered-next.ensures in
    elim c.if-pay-next.branch [
      | then-pay-next w ↦ record {
        floor = floor_higher g c.loop-t.t c.loop-t.target c.if-pay-next.target (to_z w128 c.loop-t.pay-bits) (to_z w128 c.if-pay-next.pay-bits) c.covered-next.result i.floor e.value (omega (arith, ints, w.if-pay-next.true, e.range.at_least, e.range.at_most)) w.target-is (omega (arith, ints, w.pay-is, e.range.at_least, e.range.at_most));
        range = record { at_least = omega (arith, ints, w.pay-is, e.range.at_least, e.range.at_most); at_most = omega (arith, ints, w.pay-is, e.range.at_least, e.range.at_most) };
      }
      | else-pay-next w ↦ record {
        floor = floor_stays g c.loop-t.t c.loop-t.target c.if-pay-next.target (to_z w128 c.loop-t.pay-bits) (to_z w128 c.if-pay-next.pay-bits) c.covered-next.result i.floor e.value (omega (arith, ints, w.if-pay-next.false, e.range.at_least, e.range.at_most)) w.target-is w.pay-is;
        range = record { at_least = omega (arith, ints, w.pay-is, i.range.at_least); at_most = omega (arith, ints, w.pay-is, i.range.at_most) };
      }
    ]
