use Rattle.sg_selection.specs.Ranking.{IsLeader}
use Rattle.sg_selection.proofs.ranking.best_choice.Given as goal

-- the best of the choices so far leads them
abbrev pub invariant-choices : goal.invariant-choices
invariant-choices g l = IsLeader (g.R.Ranked.is_rank l.ranks) l.n l.best l.greatest
