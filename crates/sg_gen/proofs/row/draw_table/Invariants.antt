use Rattle.std.proofs.Common.{◌*◌}
use Rattle.sg_game.specs.Seen.{number_lists}
use Rattle.sg_gen.specs.Draws.{in_turn}
use Rattle.sg_gen.specs.Generated.{drawn_pay}
use Rattle.sg_gen.specs.Making.{Draws}
use Rattle.sg_gen.proofs.row.draw_table.Given as goal

-- those so far
abbrev pub invariant-loop-i : goal.invariant-loop-i
invariant-loop-i l = Draws l.initial.rng l.rng (l._i * l.actions) (number_lists l.table.items) (in_turn (in_turn drawn_pay 1 l.actions) l.actions l._i)
