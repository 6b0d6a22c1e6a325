use Rattle.std.proofs.Common.{◌≡◌, ◌+◌, ◌≤◌, arith, length, slice_index, subst, sym, refl, List, ℕ}
use Rattle.sg_model.specs.Games.{action_count}
use Rattle.sg_model.proofs.Forms.{no_matrix}
use Rattle.sg_programs.proofs.Fixed.{act-in_range}
use Rattle.sg_eraser.proofs.fixed.target_at.Goals as goal

pub returns-clause-known : goal.returns-clause-known
returns-clause-known c =
    let g = c.args.game.now in
    let targets : action_count g (c.args.fix.now.first + c.args.i) ≡ length g.goals = rw (no_matrix g c.requires.security) refl in
    let act = act-in_range g c.args.fix.now c.requires.is_fix c.args.i c.requires.inside in
    subst (λ (xs : List ℕ). (1 ≤ slice_index xs c.args.i) × (slice_index xs c.args.i ≤ length g.goals)) (sym c.as_slice.ensures) (act.0, omega (arith, act.1, targets))
