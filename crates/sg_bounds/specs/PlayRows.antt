-- The rows of the linear program of a node over plays, and the entry of a play in each.
use Rattle.std.specs.Prelude.{ℕ, zero, suc, ◌+◌, ◌-◌, List, map, length, filter, flat_map, nat_eq, not, sum_by, slice_index_or, ℤ, pos, ◌-ℤ◌}
use Rattle.sg_model.specs.Sums.{numbers}
use Rattle.sg_model.specs.Games.{Game, action_count}
use Rattle.sg_model.specs.Plays.{pay_a}
use Rattle.sg_tree.specs.declared.fix.Fix.{Fix}
use Rattle.sg_bounds.specs.Regions.{act_of, fixed}

-- the actions of a type other than the fixed one, in rising order, each with the type
abbrev pub other_actions : Game → ℕ × ℕ → List (ℕ × ℕ)
other_actions g p = map (λ a. (p.0, a)) (filter (λ a. not (nat_eq p.1 a)) (numbers (action_count g p.0)))

-- the comparisons of a node, one for each row from row 1: for each fixed type in order, each other action
abbrev pub comparisons : Game → Fix → List (ℕ × ℕ)
comparisons g fix = flat_map (other_actions g) (fixed fix)

-- the comparison of row k + 1: a type and one of its actions
abbrev pub comparison_at : Game → Fix → ℕ → ℕ × ℕ
comparison_at g fix k = slice_index_or (comparisons g fix) k (0, 0)

-- what an action pays its type above the fixed one where this is played
abbrev pub gain : Game → Fix → List ℕ → ℕ × ℕ → ℤ
gain g fix play p = pay_a g p.0 play p.1 -ℤ pay_a g p.0 play (act_of fix p.0)

-- the entry of a play in a row: 1 in row 0, then the gain of the row's comparison
abbrev pub play_entry : Game → Fix → List ℕ → ℕ → ℤ
play_entry g fix play zero = pos 1
play_entry g fix play (suc k) = gain g fix play (comparison_at g fix k)

-- how many rows there are with row 0: for each fixed type its own actions less the fixed one
abbrev pub play_row_count : Game → Fix → ℕ
play_row_count g fix = 1 + sum_by (λ (p : ℕ × ℕ). action_count g p.0 - 1) (fixed fix)
