use Rattle.std.proofs.Common.{◌≡◌, ◌+◌, length, take}
use Rattle.std.specs.Prelude.{All}
use Rattle.sg_lp.proofs.pooled.give_rows.Given as goal

abbrev pub invariant-loop-row : goal.invariant-loop-row
invariant-loop-row l = record {
  before_them : take (length l.initial.pool.free) l.pool.free ≡ l.initial.pool.free;
  many : length l.pool.free + length l.rows.items ≡ length l.initial.pool.free + length l.initial.rows.items;
  width : l.pool.width ≡ l.initial.pool.width;
  count : l.pool.count ≡ l.initial.pool.count;
  wide : All (λ row. length row ≡ l.initial.pool.width) l.rows.items;
}

abbrev pub decreases-loop-row : goal.decreases-loop-row
decreases-loop-row l = goal.left-loop-row l
