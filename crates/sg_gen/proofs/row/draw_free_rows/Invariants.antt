use Rattle.std.proofs.Common.{◌*◌}
use Rattle.sg_game.specs.Seen.{number_lists}
use Rattle.sg_gen.specs.Draws.{in_turn}
use Rattle.sg_gen.specs.Generated.{free_row}
use Rattle.sg_gen.specs.Making.{Draws}
use Rattle.sg_gen.proofs.row.draw_free_rows.Given as goal

-- those so far
abbrev pub invariant-loop-i : goal.invariant-loop-i
invariant-loop-i l = Draws l.initial.rng l.rng (l._i * 4) (number_lists l.rows.items) (in_turn free_row 4 l._i)
