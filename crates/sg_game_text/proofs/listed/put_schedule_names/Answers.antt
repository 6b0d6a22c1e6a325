use Rattle.std.proofs.Common.{◌∙◌, ◌++◌, ℕ, List, [], length, map, ap, arith, sym}
use Rattle.sg_model.specs.Games.{Named, unnamed}
use Rattle.sg_model.specs.Sums.{nth}
use Rattle.sg_format.specs.GameText.{array, quoted}
use Rattle.sg_game_text.proofs.Joined.{array_written, map-map}
use Rattle.sg_game_text.proofs.Sized.{listed_schedules}
use Rattle.sg_game_text.proofs.listed.put_schedule_names.Goals as goal

pub returns : goal.returns
returns c =
    let name = λ (m : ℕ). nth (map (λ (x : Named). x.name) c.args.game.now.schedules) m [] in
    let members = (nth c.args.game.now.resources c.args.r unnamed).members in
    let all = ap (λ (k : List ℕ). length k) (c.resource_schedules-s-items.ensures.list ∙ listed_schedules c.args.game.now c.args.r c.requires.listed) in
    array_written (λ (m : ℕ). quoted (name m)) members c.loop-i.i c.args.text.now.items c.push.new.self.items c.loop-i.text.items c.push-2.new.self.items
    (omega (arith, all)) c.in_ok-push.ensures.items c.loop-i.invariant c.in_ok-push-2.ensures.items
    ∙ ap (λ (k : List (List ℕ)). c.args.text.now.items ++ array k) (sym (map-map quoted name members))
