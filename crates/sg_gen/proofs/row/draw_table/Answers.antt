use Rattle.std.proofs.Common.{◌≡◌, ◌∙◌, ◌*◌, ℕ, ℤ, ap, arith, subst}
use Rattle.std.specs.Prelude.{Vec}
use Rattle.std.specs.declared.alloc.Global.{Global}
use Rattle.sg_game.specs.Seen.{number_lists}
use Rattle.sg_gen.specs.Draws.{in_turn}
use Rattle.sg_gen.specs.Generated.{drawn_pay}
use Rattle.sg_gen.specs.Making.{Draws}
use Rattle.sg_gen.proofs.Lists.{map-push}
use Rattle.sg_gen.proofs.Words.{in_turn-more}
use Rattle.sg_gen.proofs.row.draw_table.Goals as goal

pub loop-i-preserved : goal.loop-i-preserved
loop-i-preserved c =
    let pushed = ap number_lists c.in_ok-push.ensures.items ∙ map-push (λ (v : Vec ℤ Global). v.items) c.loop-i.table.items c.in_ok-draw_pays.field-0 in
    let one : c.args.actions * 1 ≡ c.args.actions = omega arith in
    let once = subst (λ (n : ℕ). Draws c.loop-i.rng c.draw_pays.new.rng n c.in_ok-draw_pays.field-0.items (in_turn drawn_pay 1 c.args.actions)) one c.in_ok-draw_pays.ensures in
    in_turn-more (in_turn drawn_pay 1 c.args.actions) c.args.actions c.loop-i._i c.args.rng.now c.loop-i.rng c.draw_pays.new.rng (number_lists c.loop-i.table.items) (number_lists c.push.new.self.items) c.in_ok-draw_pays.field-0.items c.loop-i.invariant once pushed
