use Rattle.sg_check.specs.Valuing.{AreSumsFormed, IsBestOf}
use Rattle.sg_check.proofs.value.best_of.Given as goal

-- the sums so far, and the best of them
abbrev pub invariant-loop-i : goal.invariant-loop-i
invariant-loop-i l = record { formed : AreSumsFormed l.game l.tickets l.l l.i; best : IsBestOf l.game l.tickets l.l l.i l.best }
