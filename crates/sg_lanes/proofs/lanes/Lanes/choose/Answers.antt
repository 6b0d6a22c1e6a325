use Rattle.std.proofs.Common.{◌<◌, ◌∙◌, length, arith}
use Rattle.sg_lanes.proofs.Picked.{pick-lone, pick-part, pick-ripe, ripe-within}
use Rattle.sg_lanes.proofs.lanes.Lanes.choose.Goals as goal

pub returns-then-n-takes : goal.returns-then-n-takes
returns-then-n-takes c =
    pick-part _ _ _ c.args.self.now c.args.n c.as_slice.result.now c.open_count-takes.result _ _ c.self.view_is c.self.invariant c.open_count-takes.ensures c.as_slice.ensures.value c.if-n-takes.true c.in_ok-copy.ensures c.index.ensures

pub returns-then-n-takes-2 : goal.returns-then-n-takes-2
returns-then-n-takes-2 c =
    pick-lone _ _ _ c.args.self.now c.args.n c.as_slice.result.now c.open_count-takes.result _ _ c.self.view_is c.self.invariant c.open_count-takes.ensures c.as_slice.ensures.value c.if-n-takes.false
    (omega (arith, c.if-n-takes-2.true, c.len.ensures)) c.in_ok-copy-2.ensures c.index-then-n-takes-2.ensures

pub index-ripe-requires : goal.index-ripe-requires
index-ripe-requires c =
    let k : c.args.n < length c.self.inside.ripe.items =
    ripe-within _ _ _ c.args.self.now c.args.n c.as_slice.result.now c.open_count-takes.result c.self.view_is c.self.invariant c.open_count-takes.ensures c.as_slice.ensures.value c.if-n-takes.false
    (omega (arith, c.if-n-takes-2.false, c.len.ensures)) c.requires in
    omega (arith, k)

pub returns : goal.returns
returns c =
    pick-ripe _ _ _ c.args.self.now c.args.n c.as_slice.result.now c.open_count-takes.result _ _ c.self.view_is c.self.invariant c.open_count-takes.ensures c.as_slice.ensures.value c.if-n-takes.false
    (omega (arith, c.if-n-takes-2.false, c.len.ensures)) c.requires (c.in_ok-from_slice.ensures ∙ c.as_slice-2.ensures) c.index-ripe.ensures
