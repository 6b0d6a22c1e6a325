use Rattle.std.proofs.Common.{ℕ, ℤ, List, ◌<◌, arith, ap, length, pos, refl, slice_index_or, subst, take, to_z, of_z}
use Rattle.std.specs.Prelude.{◌≤ℤ◌}
use Rattle.std.specs.Int.{w128}
use Rattle.std.specs.List.{All}
use Rattle.std.proofs.lemmas.Int.{to_z-of_z}
use Rattle.std.proofs.lemmas.List.Elements.{All-more}
use Rattle.sg_model.specs.Games.{resource_schedules}
use Rattle.sg_model.specs.Sums.{total}
use Rattle.sg_cover_fact.specs.Holding.{ScheduleHolds}
use Rattle.sg_cover_fact.proofs.Columns.{holds-all, holds-at}
use Rattle.sg_cover_fact.proofs.column.resource_holds.Goals as goal

pub returns-then-not-targets_fit : goal.returns-then-not-targets_fit
returns-then-not-targets_fit c =
    let g = c.args.game.now in
    let most : ℤ = to_z w128 (of_z w128 c.args.most) in
    let m = to_z-of_z w128 c.args.most c.ranges.most in
    let a = c.resource_schedules-s-items.ensures.list in
    let b = c.schedule_targets.ensures.list in
    let lt : c.loop-s.s-index < length (resource_schedules g c.args.r) = omega (arith, ap length a) in
    (λ no_case. cc, λ holds. c.if-not-targets_fit.ensures.1 (rw (b, a, m) (holds-at (ScheduleHolds g c.args.held.now c.args.most) (resource_schedules g c.args.r) c.loop-s.s-index lt holds)))

pub loop-s-preserved : goal.loop-s-preserved
loop-s-preserved c =
    let g = c.args.game.now in
    let most : ℤ = to_z w128 (of_z w128 c.args.most) in
    let h = c.if-not-targets_fit.ensures.0 refl in
    let next = subst (λ (xs : List ℕ). total (λ t. slice_index_or c.args.held.now t (pos 0)) xs ≤ℤ most) c.schedule_targets.ensures.list h in
    All-more (ScheduleHolds g c.args.held.now most) c.resource_schedules-s-items.result.now c.loop-s.s-index 0 (omega arith) c.loop-s.invariant next

pub returns : goal.returns
returns c =
    let g = c.args.game.now in
    let most : ℤ = to_z w128 (of_z w128 c.args.most) in
    let m = to_z-of_z w128 c.args.most c.ranges.most in
    let a = c.resource_schedules-s-items.ensures.list in
    let P : ℕ → Type 0 = ScheduleHolds g c.args.held.now most in
    let all = subst (λ (xs : List ℕ). All P (take c.loop-s.s-index xs)) a c.loop-s.invariant in
    (λ _ j low high. rw m at (holds-all P (resource_schedules g c.args.r) c.loop-s.s-index (omega (arith, ap length a)) all j low high), λ _. refl)
