use Rattle.std.proofs.Common.{◌≡◌, ◌+◌, ◌*◌, ◌<◌, ◌^◌, ℕ, length, ap, arith, sym, ◌∙◌, subst, ◌-◌}
use Rattle.sg_model.specs.Games.{resource_count, resource_schedules}
use Rattle.sg_model.specs.PlayLists.{choices_from}
use Rattle.sg_game.proofs.Choices.{choices-next, choices-over}
use Rattle.sg_game.proofs.counting.choices.Goals as goal

pub returns-in_err-count : goal.returns-in_err-count
returns-in_err-count c =
    let g = c.args.game.now in
    let lt : c.loop-r.r < resource_count g = omega (arith, c.resources-r-end.ensures.count) in
    let m : ℕ = length (resource_schedules g (c.loop-r.r + 1)) in
    let len : length c.resource_schedules.result.now ≡ m = ap length c.resource_schedules.ensures.list in
    let over : c.loop-r.count * (m + 1) < 2 ^ 64 → ⊥ = rw (← len) (λ h. c.in_err-count.ensures h) in
    rw c.from_residual.ensures (choices-over g c.loop-r.r (resource_count g) c.loop-r.count (choices_from g 1 (resource_count g)) (2 ^ 64) lt c.loop-r.invariant (omega (arith, over)))

pub loop-r-preserved : goal.loop-r-preserved
loop-r-preserved c =
    let g = c.args.game.now in
    let lt : c.loop-r.r < resource_count g = omega (arith, c.resources-r-end.ensures.count) in
    let m : ℕ = length (resource_schedules g (c.loop-r.r + 1)) in
    let len : length c.resource_schedules.result.now ≡ m = ap length c.resource_schedules.ensures.list in
    let now : c.in_ok-count.count ≡ c.loop-r.count * (m + 1) = c.in_ok-count.ensures.1 ∙ ap (λ (x : ℕ). c.loop-r.count * (x + 1)) len in
    subst (λ (x : ℕ). x * choices_from g (c.loop-r.r + 1 + 1) (resource_count g - (c.loop-r.r + 1)) ≡ choices_from g 1 (resource_count g)) (sym now)
    (choices-next g c.loop-r.r (resource_count g) c.loop-r.count (choices_from g 1 (resource_count g)) lt c.loop-r.invariant)
