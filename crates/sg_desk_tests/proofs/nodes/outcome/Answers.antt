use Rattle.std.proofs.Common.{◌≡◌, false, length, ap, arith, refl}
use Rattle.sg_desk.specs.Desks.{DeskView}
use Rattle.sg_desk_tests.proofs.Loads.{loaded-set}
use Rattle.sg_desk_tests.proofs.nodes.outcome.Goals as goal

pub ends-requires : goal.ends-requires
ends-requires c =
    let long : length c.in_ok-desk.desk.loads ≡ 2 = ap (λ (v : DeskView). length v.loads) c.in_ok-desk.ensures in
    loaded-set c.in_ok-desk.desk.loads c.start.new.self.loads 2 (record { node = c.args.fix.now; moves = 0; ended = false }) false (omega arith) (omega (arith, long)) c.in_ok-start.ensures.started refl
