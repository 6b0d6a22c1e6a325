-- Rows that go from a pool to a state and back.
use Rattle.std.specs.Prelude.{◌≡◌, ℕ, ◌+◌, ◌-◌, length, take}
use Rattle.sg_pool.specs.Pools.{PoolView}

-- the pool without its last n free rows
abbrev pub taken_from : PoolView → ℕ → PoolView
taken_from pool n = record pool { free = take (length pool.free - n) pool.free }

-- n rows stand behind those that were free, and nothing else of the pool changed
pub record GivesBack (before now : PoolView) (n : ℕ) : Type 0 where
  pub before_them : take (length before.free) now.free ≡ before.free
  pub many : length now.free ≡ length before.free + n
  pub width : now.width ≡ before.width
  pub count : now.count ≡ before.count
