use Rattle.std.proofs.Common.{◌≡◌, [], All}
use Rattle.sg_commit_tests.proofs.games.rivals.Given as goal

abbrev pub invariant-loop-drawn : goal.invariant-loop-drawn
invariant-loop-drawn l = All (λ x. x.payoffs.items ≡ []) l.types.items
