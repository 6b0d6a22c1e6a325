use Rattle.std.proofs.Common.{arith}
use Rattle.sg_lanes.proofs.Counted.{choices-few, count-of, count-told}
use Rattle.sg_lanes.proofs.lanes.Lanes.count.Goals as goal

pub overflow_cast-result : goal.overflow_cast-result
overflow_cast-result c =
    let i = c.self.inside in
    let n = count-of i.group i.value i.parts.items i.lone.items i.undone.items i.ripe.items c.open_count-takes.result c.choice_count.result _ _ _ _
    c.open_count-takes.ensures c.as_slice.ensures.value c.as_slice-2.ensures.value c.as_slice-3.ensures.value c.as_slice-4.ensures.value c.choice_count.ensures in
    let few = choices-few _ _ _ c.self.invariant c.promises.ensures in
    omega (arith, n, few)

pub returns : goal.returns
returns c =
    let i = c.self.inside in
    let n = count-of i.group i.value i.parts.items i.lone.items i.undone.items i.ripe.items c.open_count-takes.result c.choice_count.result _ _ _ _
    c.open_count-takes.ensures c.as_slice.ensures.value c.as_slice-2.ensures.value c.as_slice-3.ensures.value c.as_slice-4.ensures.value c.choice_count.ensures in
    count-told _ _ _ c.args.self.now c.choice_count.result c.self.view_is c.self.invariant n
