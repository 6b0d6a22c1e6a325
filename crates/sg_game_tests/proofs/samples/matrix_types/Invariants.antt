use Rattle.std.proofs.Common.{◌≡◌, [], All}
use Rattle.sg_game.specs.declared.parts.TypeParts.{TypeParts}
use Rattle.sg_game_tests.proofs.samples.matrix_types.Given as goal

abbrev pub invariant-loop-name : goal.invariant-loop-name
invariant-loop-name l = All (λ (x : TypeParts). x.payoffs.items ≡ []) l.types.items
