use Rattle.std.proofs.Common.{◌∙◌, FitsSigned, [], ◌∷◌, ◌*ℤ◌, ap, map, pos, rules}
use Rattle.std.specs.Int.{w128}
use Rattle.std.proofs.lemmas.Int.{to_z-of_z}
use Rattle.sg_num.specs.Exact.{exact_times}
use Rattle.sg_num.specs.Operations.{times}
use Rattle.sg_model.specs.Sums.{total}
use Rattle.sg_tree.specs.declared.fact.Mark.{Mark}
use Rattle.sg_bounds.specs.Sizes.{attacker_most, defender_most, fixed_priors}
use Rattle.sg_bounds.specs.SizeSteps.{running_steps}
use Rattle.sg_desk.proofs.Formed.{gain-stops, regret-stops, sum-fits, sum-stops, total-stops}
use Rattle.sg_desk.proofs.sizing.size_misfit.Goals as goal

pub returns-in-Err : goal.returns-in-Err
returns-in-Err c = λ mu.
    let g = c.args.game.now in
    let p = fixed_priors g c.args.fix.now in
    let vs = map (λ (m : Mark). m.v) c.args.marks.now in
    let h = simp (to_z-of_z, c.ranges.rho) at c.in-Err.ensures in
    gain-stops (times c.args.rho p ∷ times (c.args.rho *ℤ p) (defender_most g) ∷ []) (running_steps (pos 0) vs) ((c.args.rho *ℤ p) *ℤ defender_most g) (total (λ v. v) vs) (attacker_most g) c.in-Err.wide h

pub returns-in-Err-multiplier_total : goal.returns-in-Err-multiplier_total
returns-in-Err-multiplier_total c = λ mu.
    let g = c.args.game.now in
    let p = fixed_priors g c.args.fix.now in
    let vs = map (λ (m : Mark). m.v) c.args.marks.now in
    let h = simp (to_z-of_z, c.ranges.rho) at c.in-Ok.ensures in
    total-stops (times c.args.rho p ∷ times (c.args.rho *ℤ p) (defender_most g) ∷ []) (running_steps (pos 0) vs) ((c.args.rho *ℤ p) *ℤ defender_most g) (total (λ v. v) vs) (attacker_most g) c.in-Ok.gain h c.in-Err-multiplier_total.wide c.in-Err-multiplier_total.ensures

pub returns-in-Err-times : goal.returns-in-Err-times
returns-in-Err-times c = λ mu.
    let g = c.args.game.now in
    let p = fixed_priors g c.args.fix.now in
    let vs = map (λ (m : Mark). m.v) c.args.marks.now in
    let h = simp (to_z-of_z, c.ranges.rho) at c.in-Ok.ensures in
    let total_fits : FitsSigned w128 c.in-Ok-multiplier_total.total = search rules in
    let most_fits : FitsSigned w128 c.attacker_most.result = record { sfits = c.attacker_most.type_inv } in
    let x = simp (to_z-of_z, total_fits, most_fits) at c.in-Err-times.ensures in
    regret-stops (times c.args.rho p ∷ times (c.args.rho *ℤ p) (defender_most g) ∷ []) (running_steps (pos 0) vs) ((c.args.rho *ℤ p) *ℤ defender_most g) (total (λ v. v) vs) (attacker_most g) c.in-Ok.gain h c.in-Ok-multiplier_total.total c.in-Ok-multiplier_total.ensures c.in-Err-times.wide (x ∙ ap (exact_times c.in-Ok-multiplier_total.total) c.attacker_most.ensures)

pub returns-in-Ok-sum : goal.returns-in-Ok-sum
returns-in-Ok-sum c = λ mu.
    let g = c.args.game.now in
    let p = fixed_priors g c.args.fix.now in
    let vs = map (λ (m : Mark). m.v) c.args.marks.now in
    let h = simp (to_z-of_z, c.ranges.rho) at c.in-Ok.ensures in
    let total_fits : FitsSigned w128 c.in-Ok-multiplier_total.total = search rules in
    let most_fits : FitsSigned w128 c.attacker_most.result = record { sfits = c.attacker_most.type_inv } in
    let x = simp (to_z-of_z, total_fits, most_fits) at c.in-Ok-times.ensures in
    let gain_fits : FitsSigned w128 c.in-Ok.gain = search rules in
    let regret_fits : FitsSigned w128 c.in-Ok-times.regret = search rules in
    let y = simp (to_z-of_z, gain_fits, regret_fits) at c.in-Ok-sum.ensures in
    sum-fits (times c.args.rho p ∷ times (c.args.rho *ℤ p) (defender_most g) ∷ []) (running_steps (pos 0) vs) ((c.args.rho *ℤ p) *ℤ defender_most g) (total (λ v. v) vs) (attacker_most g) c.in-Ok.gain h c.in-Ok-multiplier_total.total c.in-Ok-multiplier_total.ensures c.in-Ok-times.regret (x ∙ ap (exact_times c.in-Ok-multiplier_total.total) c.attacker_most.ensures) _ y

pub returns-in-Err-sum : goal.returns-in-Err-sum
returns-in-Err-sum c = λ mu.
    let g = c.args.game.now in
    let p = fixed_priors g c.args.fix.now in
    let vs = map (λ (m : Mark). m.v) c.args.marks.now in
    let h = simp (to_z-of_z, c.ranges.rho) at c.in-Ok.ensures in
    let total_fits : FitsSigned w128 c.in-Ok-multiplier_total.total = search rules in
    let most_fits : FitsSigned w128 c.attacker_most.result = record { sfits = c.attacker_most.type_inv } in
    let x = simp (to_z-of_z, total_fits, most_fits) at c.in-Ok-times.ensures in
    let gain_fits : FitsSigned w128 c.in-Ok.gain = search rules in
    let regret_fits : FitsSigned w128 c.in-Ok-times.regret = search rules in
    let y = simp (to_z-of_z, gain_fits, regret_fits) at c.in-Err-sum.ensures in
    sum-stops (times c.args.rho p ∷ times (c.args.rho *ℤ p) (defender_most g) ∷ []) (running_steps (pos 0) vs) ((c.args.rho *ℤ p) *ℤ defender_most g) (total (λ v. v) vs) (attacker_most g) c.in-Ok.gain h c.in-Ok-multiplier_total.total c.in-Ok-multiplier_total.ensures c.in-Ok-times.regret (x ∙ ap (exact_times c.in-Ok-multiplier_total.total) c.attacker_most.ensures) c.in-Err-sum.wide y
