use Rattle.std.proofs.Common.{◌∙◌, ◌+◌, ◌*◌, ◌≡◌, [], ◌∷◌, ap, map, subst, sym}
use Rattle.std.specs.List.{All}
use Rattle.std.proofs.lemmas.List.Elements.{All-append, All-cons, All-nil}
use Rattle.sg_game.specs.declared.parts.TypeParts.{TypeParts}
use Rattle.sg_game.specs.Seen.{attacker_of}
use Rattle.sg_gen.specs.Generated.{drawn_attacker}
use Rattle.sg_gen.proofs.Lists.{map-push}
use Rattle.sg_gen.proofs.Words.{by_number-more}
use Rattle.sg_gen.proofs.made.draw_types.Goals as goal

pub loop-l-preserved : goal.loop-l-preserved
loop-l-preserved c =
    let x = c.in_ok-draw_type.field-0 in
    let items = c.in_ok-push.ensures.items in
    let Q = λ (x : TypeParts). x.payoffs.items ≡ [] in
    let pushed = ap (map attacker_of) items ∙ map-push attacker_of c.loop-l.all.items x in
    let h = c.loop-l.invariant in (
      by_number-more (drawn_attacker c.args.rows c.args.actions) (c.args.rows * c.args.actions + c.args.rows * c.args.actions) c.loop-l.l c.args.rng.now c.loop-l.rng c.draw_type.new.rng
          (map attacker_of c.loop-l.all.items) (map attacker_of c.push.new.self.items) (attacker_of x) h.0 c.in_ok-draw_type.ensures.draws pushed,
      subst (All Q) (sym items) (All-append Q c.loop-l.all.items (x ∷ []) h.1 (All-cons Q x [] c.in_ok-draw_type.ensures.own (All-nil Q))),
    )
