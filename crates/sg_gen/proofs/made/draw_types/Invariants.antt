use Rattle.std.proofs.Common.{◌≡◌, ◌+◌, ◌*◌, [], map}
use Rattle.std.specs.List.{All}
use Rattle.sg_game.specs.declared.parts.TypeParts.{TypeParts}
use Rattle.sg_game.specs.Seen.{attacker_of}
use Rattle.sg_gen.specs.Generated.{drawn_attackers}
use Rattle.sg_gen.specs.Making.{Draws}
use Rattle.sg_gen.proofs.made.draw_types.Given as goal

-- the types so far
abbrev pub invariant-loop-l : goal.invariant-loop-l
invariant-loop-l l =
    Draws l.initial.rng l.rng (l.l * (l.rows * l.actions + l.rows * l.actions)) (map attacker_of l.all.items) (drawn_attackers l.rows l.actions l.l)
    × All (λ (x : TypeParts). x.payoffs.items ≡ []) l.all.items
