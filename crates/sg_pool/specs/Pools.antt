-- Pools of rows.
use Rattle.std.specs.Prelude.{◌≡◌, ℕ, ◌≤◌, List, length, ℤ, pos, All, replicate}

-- the free rows, the last to come first, how many places each row of the pool has, and how many rows it was made with
pub record PoolView : Type 0 where
  pub free : List (List ℤ)
  pub width : ℕ
  pub count : ℕ

-- what every pool keeps: its free rows have its width, and are no more than it was made with
pub record IsPool (p : PoolView) : Type 0 where
  pub wide : All (λ row. length row ≡ p.width) p.free
  pub few : length p.free ≤ p.count

-- a pool of which no row is out, with zeros in each
abbrev pub new_pool : ℕ → ℕ → PoolView
new_pool width count = record { free = replicate count (replicate width (pos 0)); width = width; count = count }
