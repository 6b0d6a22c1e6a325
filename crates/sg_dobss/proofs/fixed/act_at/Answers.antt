use Rattle.std.proofs.Common.{subst, sym, ◌≤◌, ◌+◌, List, ℕ, slice_index}
use Rattle.sg_model.specs.Games.{action_count}
use Rattle.sg_programs.proofs.Fixed.{act-in_range}
use Rattle.sg_dobss.proofs.fixed.act_at.Goals as goal

pub returns-clause-known : goal.returns-clause-known
returns-clause-known c =
    subst (λ (xs : List ℕ). (1 ≤ slice_index xs c.args.i) × (slice_index xs c.args.i ≤ action_count c.args.game.now (c.args.fix.now.first + c.args.i))) (sym c.as_slice.ensures)
    (act-in_range c.args.game.now c.args.fix.now c.requires.is_fix c.args.i c.requires.inside)
