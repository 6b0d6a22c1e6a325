use Rattle.std.proofs.Common.{◌<◌, length, arith}
use Rattle.sg_lanes.proofs.Picked.{rank-lone, rank-part, rank-ripe, ripe-within}
use Rattle.sg_lanes.proofs.lanes.Lanes.bound.Goals as goal

pub returns-then-n-takes : goal.returns-then-n-takes
returns-then-n-takes c =
    rank-part _ _ _ c.args.self.now c.args.n c.as_slice.result.now c.open_count-takes.result c.in-Some.bound c.self.view_is c.self.invariant c.open_count-takes.ensures c.as_slice.ensures.value c.if-n-takes.true c.in-Some.is

pub index-ripe-requires : goal.index-ripe-requires
index-ripe-requires c =
    let k : c.args.n < length c.self.inside.ripe.items =
    ripe-within _ _ _ c.args.self.now c.args.n c.as_slice.result.now c.open_count-takes.result c.self.view_is c.self.invariant c.open_count-takes.ensures c.as_slice.ensures.value c.if-n-takes.false
    (omega (arith, c.if-n-takes-2.false, c.len.ensures)) c.requires in
    omega (arith, k)

pub returns-then-n-takes-2 : goal.returns-then-n-takes-2
returns-then-n-takes-2 c =
    rank-lone _ _ _ c.args.self.now c.args.n c.as_slice.result.now c.open_count-takes.result c.self.view_is c.self.invariant c.open_count-takes.ensures c.as_slice.ensures.value c.if-n-takes.false
    (omega (arith, c.if-n-takes-2.true, c.len.ensures))

pub returns : goal.returns
returns c =
    rank-ripe _ _ _ c.args.self.now c.args.n c.as_slice.result.now c.open_count-takes.result _ c.self.view_is c.self.invariant c.open_count-takes.ensures c.as_slice.ensures.value c.if-n-takes.false
    (omega (arith, c.if-n-takes-2.false, c.len.ensures)) c.requires c.index-ripe.ensures
