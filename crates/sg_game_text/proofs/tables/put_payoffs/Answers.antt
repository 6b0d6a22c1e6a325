use Rattle.std.proofs.Common.{◌∙◌, ◌++◌, ℕ, List, ap, arith, sym}
use Rattle.sg_model.specs.Games.{Payoff, attacker, nothing}
use Rattle.sg_format.specs.GameText.{array, four_pays, pays_array}
use Rattle.sg_game_text.proofs.Joined.{array_written, map-map, nth_written}
use Rattle.sg_game_text.proofs.Sized.{payoffs_count}
use Rattle.sg_game_text.proofs.tables.put_payoffs.Goals as goal

pub loop-t-preserved : goal.loop-t-preserved
loop-t-preserved c =
    let count = payoffs_count c.args.game.now c.args.l c.promises.ensures c.requires.security c.requires.known_type in
    nth_written (λ (p : Payoff). pays_array (four_pays p)) (attacker c.args.game.now c.args.l).payoffs c.loop-t.t c.from.result nothing c.push.new.self.items c.loop-t.text.items c.put_comma.new.text.items c.put_pays.new.text.items (pays_array c.payoffs.result)
    (omega (arith, count)) (omega arith) c.loop-t.invariant c.in_ok-put_comma.ensures c.in_ok-put_pays.ensures (ap pays_array c.payoffs.ensures.payoffs)

pub returns : goal.returns
returns c =
    let payoffs = (attacker c.args.game.now c.args.l).payoffs in
    let count = payoffs_count c.args.game.now c.args.l c.promises.ensures c.requires.security c.requires.known_type in
    array_written (λ (p : Payoff). pays_array (four_pays p)) payoffs c.loop-t.t c.args.text.now.items c.push.new.self.items c.loop-t.text.items c.push-2.new.self.items
    (omega (arith, count)) c.in_ok-push.ensures.items c.loop-t.invariant c.in_ok-push-2.ensures.items
    ∙ ap (λ (k : List (List ℕ)). c.args.text.now.items ++ array k) (sym (map-map pays_array four_pays payoffs))
