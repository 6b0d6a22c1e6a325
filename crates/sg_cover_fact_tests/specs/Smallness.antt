-- Facts so small that the numbers under their size sums fit.
use Rattle.std.specs.Prelude.{◌^◌, ◌≤◌, List, length, pos, All}
use Rattle.sg_num.specs.Exact.{IsAtMost}
use Rattle.sg_tree.specs.declared.fact.Line.{Line}

-- few lines with small multipliers
pub record AreSmallLines (lines : List Line) : Type 0 where
  pub few : length lines ≤ 64
  pub each : All (λ (line : Line). IsAtMost (pos (2 ^ 31)) line.v) lines
