use Rattle.std.proofs.Common.{ℕ, ◌<◌, ◌-◌}
use Rattle.sg_model.specs.Games.{resource_count}
use Rattle.sg_plays_fact.proofs.Choosing.{StaysBy}
use Rattle.sg_plays_fact.proofs.search.+stays_within.Given as goal

-- the resources that are left
abbrev pub decreases-stays_within : goal.decreases-stays_within
decreases-stays_within l = resource_count l.game.now - l.k

-- the sum stays within mu behind each choice so far
abbrev pub invariant-loop-choice : goal.invariant-loop-choice
invariant-loop-choice l = (j : ℕ) → j < l.choice → StaysBy l.game l.weights l.mu l.covered l.k l.sum j
