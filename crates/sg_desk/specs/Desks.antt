-- The work on nodes over listed plays: what a desk is seen as, and what it keeps.
use Rattle.std.specs.Prelude.{◌≡◌, ℕ, ◌+◌, ◌*◌, ◌≤◌, List, length, sum_by, pos, All, Option, Some, None}
use Rattle.sg_model.specs.Games.{Game}
use Rattle.sg_model.specs.Limits.{program_rows}
use Rattle.sg_model.specs.PlayLists.{play_count}
use Rattle.sg_pool.specs.Pools.{PoolView}
use Rattle.sg_programs.specs.Plays.{plays_program}
use Rattle.sg_work.specs.Works.{Load}
use Rattle.sg_desk.specs.declared.run.Run.{Run}
use Rattle.sg_desk.specs.Runs.{IsRunOf}

-- the game, what each lane holds, and how many moves and looks a node may make
pub record DeskView : Type 0 where
  pub game : Game
  pub loads : List (Option Load)
  pub pivots : ℕ
  pub looks : ℕ

-- how many rows of the pool a lane has
abbrev pub rows_out : Game → Option Run → ℕ
rows_out g None = 0
rows_out g (Some r) = (plays_program g r.fix).height + 1

-- a lane holds nothing, or a run of a node
abbrev pub IsLaneOf : Game → ℕ → ℕ → ℕ → Option Run → Type 0
IsLaneOf g pivots looks width None = Unit {0}
IsLaneOf g pivots looks width (Some r) = IsRunOf g pivots looks width r

-- a game without a scale and with few plays; a pool with rows for the largest program of the game in each lane, of which those that are not free are
-- with the lanes; and in each lane nothing or a run
pub record IsDesk (g : Game) (pivots looks : ℕ) (pool : PoolView) (runs : List (Option Run)) : Type 0 where
  pub unscaled : g.scale ≡ pos 0
  pub few : play_count g ≤ 4096
  pub wide : program_rows g ≤ pool.width
  pub rows : pool.count ≡ length runs * (program_rows g + 1)
  pub out : length pool.free + sum_by (rows_out g) runs ≡ pool.count
  pub lanes : All (IsLaneOf g pivots looks pool.width) runs
