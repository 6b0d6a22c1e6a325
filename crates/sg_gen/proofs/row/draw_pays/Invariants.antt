use Rattle.std.proofs.Common.{◌*◌}
use Rattle.sg_gen.specs.Draws.{in_turn}
use Rattle.sg_gen.specs.Generated.{drawn_pay}
use Rattle.sg_gen.specs.Making.{Draws}
use Rattle.sg_gen.proofs.row.draw_pays.Given as goal

-- those so far
abbrev pub invariant-loop-j : goal.invariant-loop-j
invariant-loop-j l = Draws l.initial.rng l.rng (l._j * 1) l.row.items (in_turn drawn_pay 1 l._j)
