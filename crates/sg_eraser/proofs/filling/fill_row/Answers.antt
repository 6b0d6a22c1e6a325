use Rattle.std.proofs.Common.{◌≡◌, ◌∙◌, ℕ, List, ap, arith, length, map, to_z, of_z}
use Rattle.std.specs.Int.{w128}
use Rattle.std.proofs.lemmas.Int.{ints}
use Rattle.sg_model.specs.Games.{resource_schedules}
use Rattle.sg_programs.specs.CoverFilling.{filled_count}
use Rattle.sg_eraser.specs.Amounts.{amount_in}
use Rattle.sg_eraser.proofs.Fillings.{left-over}
use Rattle.sg_eraser.proofs.Written.{all-numbers, next-value}
use Rattle.sg_eraser.proofs.filling.fill_row.Goals as goal

pub loop-k-init : goal.loop-k-init
loop-k-init c = (c.new-row.ensures.items, c.requires.left)

pub fill_choice-requires-clause-left : goal.fill_choice-requires-clause-left
fill_choice-requires-clause-left c = c.loop-k.invariant.1

pub loop-k-preserved : goal.loop-k-preserved
loop-k-preserved c =
    let e : to_z w128 (of_z w128 c.fill_choice.result) ≡ c.fill_choice.result = omega (arith, ints, c.fill_choice.type_inv) in
    (next-value (filled_count c.args.game.now (amount_in c.args.game.now c.args.parts.now) c.args.r) c.loop-k.k c.loop-k.row.items c.push.new.self.items _ c.loop-k.invariant.0 (e ∙ c.fill_choice.ensures.count) c.in_ok-push.ensures.items, c.fill_choice.ensures.left)

pub returns-clause-row : goal.returns-clause-row
returns-clause-row c =
    let count : length c.resource_schedules-k-end.result.now ≡ length (resource_schedules c.args.game.now c.args.r) = ap length c.resource_schedules-k-end.ensures.list in
    c.loop-k.invariant.0
    ∙ all-numbers (λ (ns : List ℕ). map (filled_count c.args.game.now (amount_in c.args.game.now c.args.parts.now) c.args.r) ns) c.loop-k.k (length (resource_schedules c.args.game.now c.args.r)) (omega (arith, c.loop-k-test.false, count)) (omega (arith, c.loop-k.auto.k-end, count))

pub returns-clause-left : goal.returns-clause-left
returns-clause-left c =
    let count : length c.resource_schedules-k-end.result.now ≡ length (resource_schedules c.args.game.now c.args.r) = ap length c.resource_schedules-k-end.ensures.list in
    left-over c.args.game.now (amount_in c.args.game.now c.args.parts.now) c.args.r c.loop-k.k c.loop-k.left c.requires.resource.0 (omega (arith, c.loop-k-test.false, count)) (omega (arith, c.loop-k.auto.k-end, count)) c.loop-k.invariant.1
