use Rattle.std.proofs.Common.{arith, pos, refl, subst}
use Rattle.std.specs.List.{All}
use Rattle.std.proofs.lemmas.List.{take_all}
use Rattle.std.proofs.lemmas.List.Elements.{All-more}
use Rattle.sg_bounds.specs.Facts.{IsLineOf}
use Rattle.sg_cover_fact.proofs.fact.are_lines.Goals as goal

pub loop-line-preserved : goal.loop-line-preserved
loop-line-preserved c =
    let h = c.if-not-is_line.ensures.0 refl in
    All-more (IsLineOf c.args.game.now c.args.fix.now) c.args.lines.now c.loop-line.line-index (record { row = 0; v = pos 0 }) (omega arith) c.loop-line.invariant (record { from_one = h.0; in_range = omega (arith, h.1, c.row_count-count.ensures); positive = h.2 })

pub returns : goal.returns
returns c =
    (λ _. subst (All (IsLineOf c.args.game.now c.args.fix.now)) (take_all c.loop-line.line-index c.args.lines.now (omega arith)) c.loop-line.invariant, λ _. refl)
