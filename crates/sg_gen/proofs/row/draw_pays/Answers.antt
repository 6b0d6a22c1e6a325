use Rattle.std.specs.Int.{w64}
use Rattle.std.proofs.lemmas.Int.{to_z-of_z}
use Rattle.sg_gen.specs.Generated.{drawn_pay}
use Rattle.sg_gen.proofs.Words.{in_turn-more}
use Rattle.sg_gen.proofs.row.draw_pays.Goals as goal

pub loop-j-preserved : goal.loop-j-preserved
loop-j-preserved c =
    let e = to_z-of_z w64 c.draw_pay.result (record { sfits = c.draw_pay.type_inv }) in
    in_turn-more drawn_pay 1 c.loop-j._j c.args.rng.now c.loop-j.rng c.draw_pay.new.rng c.loop-j.row.items c.push.new.self.items c.draw_pay.result c.loop-j.invariant c.draw_pay.ensures (rw e at c.in_ok-push.ensures.items)
