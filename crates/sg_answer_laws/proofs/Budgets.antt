-- How many nodes may be worked of a game, beside the rows of its largest program.
use Rattle.std.proofs.Common.{◌≡◌, ℕ, ◌*◌, ◌/◌, ◌≤◌, pos, arith}
use Rattle.std.proofs.Math.Nat.{le-div_iff_mul-le, le-min, min-le_left, min-le_right}
use Rattle.std.proofs.lemmas.Nat.{le-div}
use Rattle.sg_model.specs.Games.{Game}
use Rattle.sg_model.specs.Limits.{IsGame, program_rows}
use Rattle.sg_cert.specs.Ranges.{IsFrom}
use Rattle.sg_programs.specs.Enough.{node_budget}
use Rattle.sg_programs.proofs.Heights.{limit, types-sum}

-- there is a row
pub rows-some : (g : Game) → IsGame g → 1 ≤ program_rows g
rows-some g game = let some = types-sum g game in omega (arith, some)

-- at least one node and no more than are asked for may be worked
pub budget-range : (g : Game) → IsGame g → g.scale ≡ pos 0 → (nodes : ℕ) → 1 ≤ nodes → nodes ≤ 1000000 → IsFrom 1 1000000 (node_budget g nodes)
budget-range g game unscaled nodes low high =
    let few = limit g game unscaled in
    let some = rows-some g game in
    let rows : 1 ≤ 6000000 / program_rows g = le-div 1 6000000 (program_rows g) (omega (arith, some)) (omega (arith, few)) in
    let least = min-le_left nodes (6000000 / program_rows g) in
    (le-min low rows, omega (arith, least, high))

-- and so many that they have at most 6,000,000 rows
pub budget-rows : (g : Game) → IsGame g → (nodes : ℕ) → node_budget g nodes * program_rows g ≤ 6000000
budget-rows g game nodes =
    let some = rows-some g game in
    (le-div_iff_mul-le (omega (arith, some))).0 (min-le_right nodes (6000000 / program_rows g))
