use Rattle.std.proofs.Common.{subst, sym, List, ℕ, slice_index}
use Rattle.sg_game.specs.Counts.{IsGoalOf}
use Rattle.sg_cover_fact.proofs.Acts.{act-known}
use Rattle.sg_cover_fact.proofs.row.act_at.Goals as goal

pub returns-clause-known : goal.returns-clause-known
returns-clause-known c =
    subst (λ (xs : List ℕ). IsGoalOf c.args.game.now (slice_index xs c.args.i)) (sym c.acts.ensures)
    (act-known c.args.game.now c.requires.security c.args.fix.now c.requires.is_fix c.args.i c.requires.inside)
