use Rattle.std.proofs.Common.{◌≡◌, ◌≤◌, length, map, take}
use Rattle.std.specs.List.{range_with_len}
use Rattle.std.specs.Prelude.{All, vec_capacity, vec_len}
use Rattle.sg_lp.specs.States.{unit_row}
use Rattle.sg_lp.specs.Pooled.{taken_from}
use Rattle.sg_lp.proofs.pooled.take_unit_rows.Given as goal

abbrev pub invariant-loop-i : goal.invariant-loop-i
invariant-loop-i l = record {
  fronts : map (take l.height) l.rows.items ≡ map (unit_row l.height) (range_with_len 0 l.i);
  wide : All (λ row. length row ≡ l.initial.pool.width) l.rows.items;
  pool : l.pool ≡ taken_from l.initial.pool l.i;
  room : l.height ≤ vec_capacity l.rows;
  many : vec_len l.rows ≡ l.i;
}
