use Rattle.std.proofs.Common.{◌≡◌, ◌≤◌, length, arith}
use Rattle.sg_plays_fact.proofs.Rooms.{room-long, room-zero}
use Rattle.sg_plays_fact.proofs.plays.plays_hold_of_few.Goals as goal

pub plays_hold_in-requires : goal.plays_hold_in-requires
plays_hold_in-requires c =
    let count : c.targets.result ≡ length c.args.game.now.goals = rw c.requires.security at c.targets.ensures.count in
    let fits : c.targets.result ≤ 200 = omega (arith, count, c.requires.few) in
    record {
      security = c.requires.security;
      one_each = room-long 200 c.targets.result (length c.args.game.now.goals) fits count;
      zero = λ t k. room-zero 200 c.targets.result t fits;
      measures = c.requires.measures;
      sized = c.requires.sized;
    }
