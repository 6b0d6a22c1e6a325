use Rattle.std.proofs.Common.{◌∙◌, ℕ, ℤ, List, Vec, Global, ap, arith, map}
use Rattle.sg_model.specs.Games.{resource_count}
use Rattle.sg_game.specs.Seen.{number_lists}
use Rattle.sg_programs.specs.CoverFilling.{filled_row}
use Rattle.sg_eraser.specs.Amounts.{amount_in}
use Rattle.sg_eraser.proofs.Fillings.{amount_in-low, left-all}
use Rattle.sg_eraser.proofs.Written.{all-numbers, next-number}
use Rattle.sg_eraser.proofs.filling.fill.Goals as goal

pub loop-r-init : goal.loop-r-init
loop-r-init c =
    let a = amount_in c.args.game.now c.args.parts.now in
    (ap number_lists c.new-counts.ensures.items, left-all c.args.game.now a (amount_in-low c.args.game.now c.args.parts.now c.requires.weighed.low) c.in_ok-left.left c.in_ok-left.ensures)

pub fill_row-requires-clause-left : goal.fill_row-requires-clause-left
fill_row-requires-clause-left c = c.loop-r.invariant.1

pub loop-r-preserved : goal.loop-r-preserved
loop-r-preserved c = (
  next-number (λ (v : Vec ℤ Global). v.items) (filled_row c.args.game.now (amount_in c.args.game.now c.args.parts.now)) c.loop-r.r c.loop-r.counts.items c.push.new.self.items c.in_ok-fill_row.field-0 c.loop-r.invariant.0 c.in_ok-fill_row.ensures.row c.in_ok-push.ensures.items,
  c.in_ok-fill_row.ensures.left,
)

pub returns : goal.returns
returns c =
    let count = c.resources-r-end.ensures.count in
    c.loop-r.invariant.0
    ∙ all-numbers (λ (ns : List ℕ). map (filled_row c.args.game.now (amount_in c.args.game.now c.args.parts.now)) ns) c.loop-r.r (resource_count c.args.game.now) (omega (arith, c.loop-r-test.false, count)) (omega (arith, c.loop-r.auto.r-end, count))
