use Rattle.sg_selection.specs.Readiness.{NoneReady}
use Rattle.sg_selection.proofs.readiness.first_ready.Given as goal

-- none so far
abbrev pub invariant-places : goal.invariant-places
invariant-places l = NoneReady l.ready l.from l.place
