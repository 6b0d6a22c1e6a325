-- Programs of small games, worked out by hand.
use Rattle.std.specs.Prelude.{◌≡◌, ℕ, ◌+◌, List, [], ◌∷◌, ◌++◌, map, ℤ, pos, negsuc}
use Rattle.sg_num.specs.declared.step.Wide.{Wide}
use Rattle.sg_num.specs.Operations.{plus, times}
use Rattle.sg_model.specs.Examples.{neighbours, one_player, two_players}
use Rattle.sg_bounds.specs.Regions.{alone, prefix}
use Rattle.sg_bounds.specs.Examples.{mark, over_plays}
use Rattle.sg_lp.specs.declared.column.Column.{Column}
use Rattle.sg_lp.specs.declared.column.Enter.TheVariants.{Col}
use Rattle.sg_lp.specs.Moves.{entries_of}
use Rattle.sg_lp.specs.Programs.{Program, enough_pivots}
use Rattle.sg_lp.specs.States.{Tableau}
use Rattle.sg_programs.specs.Enough.{enough_looks}
use Rattle.sg_search.specs.CountLaws.{enough_nodes}
use Rattle.sg_programs.specs.Marks.{plays_fact}
use Rattle.sg_programs.specs.Plays.{column_of, play_of, plays_program}
use Rattle.sg_programs.specs.Points.{point_steps}
use Rattle.sg_programs.specs.Shown.{both_bounds}
use Rattle.sg_bounds.specs.SizeSteps.{size_steps}

-- a program by its plays, their costs, and their entries in the rows from 0
pub record IsWorked (p : Program) (plays : List (List ℕ)) (costs : List ℤ) (entries : List (List ℤ)) : Type 0 where
  pub plays_are : map play_of p.columns ≡ plays
  pub costs_are : map p.cost p.columns ≡ costs
  pub entries_are : map (λ (c : Column). entries_of p (Col c)) p.columns ≡ entries

-- the two rows, the defender's second choice of the type's action
abbrev pub second : Program
second = plays_program one_player (prefix (2 ∷ []))

-- the end of its run: the second row's column in row 0, the first's in row 1
abbrev pub second_end : Tableau
second_end = record {
  basis = Col (column_of (2 ∷ [])) ∷ Col (column_of (1 ∷ [])) ∷ [];
  rows = (pos 1 ∷ negsuc 0 ∷ []) ∷ (pos 2 ∷ pos 1 ∷ []) ∷ [];
  y = pos 11 ∷ pos 1 ∷ [];
  rho = pos 3;
}

-- its two products; the multiples 1 and 3; the weights 1 and 2 over 3; their total
abbrev pub second_point : List Wide
second_point =
    times (pos 1) (pos 1) ∷ plus (pos 0) (pos 1) ∷ times (negsuc 0) (negsuc 1) ∷ plus (pos 1) (pos 2)
    ∷ times (pos 2) (pos 1) ∷ plus (pos 0) (pos 2) ∷ times (pos 1) (pos 1) ∷ plus (pos 2) (pos 1)
    ∷ times (pos 1) (pos 3) ∷ times (pos 1) (pos 3) ∷ times (pos 1) (pos 1) ∷ times (pos 2) (pos 1) ∷ plus (pos 0) (pos 1) ∷ plus (pos 1) (pos 2) ∷ []

-- the bound of its fact, where no type is open
abbrev pub second_bound : List Wide
second_bound = times (pos 3) (pos 0) ∷ plus (pos 11) (pos 0) ∷ times (pos 3) (pos 1) ∷ []

-- against two types, the bound of a fact of the first: with 4 for the second, and with its least payoff, 1
abbrev pub open_bounds : List Wide
open_bounds =
    times (pos 1) (pos 4) ∷ plus (pos 2) (pos 4) ∷ times (pos 1) (pos 2)
    ∷ times (pos 1) (pos 1) ∷ plus (pos 2) (pos 1) ∷ times (pos 1) (pos 2) ∷ []

pub record WorkedPrograms : Type 0 where
  pub first_action : IsWorked (plays_program one_player (prefix (1 ∷ []))) ((1 ∷ []) ∷ (2 ∷ []) ∷ []) (pos 2 ∷ pos 1 ∷ []) ((pos 1 ∷ negsuc 0 ∷ []) ∷ (pos 1 ∷ pos 2 ∷ []) ∷ [])
  pub second_action : IsWorked second ((1 ∷ []) ∷ (2 ∷ []) ∷ []) (pos 4 ∷ pos 3 ∷ []) ((pos 1 ∷ pos 1 ∷ []) ∷ (pos 1 ∷ negsuc 1 ∷ []) ∷ [])
  pub both_types : IsWorked (plays_program two_players (prefix (2 ∷ 2 ∷ []))) ((1 ∷ []) ∷ (2 ∷ []) ∷ []) (pos 8 ∷ pos 6 ∷ []) ((pos 1 ∷ pos 1 ∷ negsuc 0 ∷ []) ∷ (pos 1 ∷ negsuc 1 ∷ pos 2 ∷ []) ∷ [])
  pub cap : IsWorked (plays_program two_players (alone 2 1)) ((1 ∷ []) ∷ (2 ∷ []) ∷ []) (pos 2 ∷ pos 1 ∷ []) ((pos 1 ∷ pos 1 ∷ []) ∷ (pos 1 ∷ negsuc 1 ∷ []) ∷ [])
  pub second_fact : plays_fact one_player (prefix (2 ∷ [])) second_end.y second_end.rho ≡ over_plays 3 11 (mark 1 1 1 ∷ [])
  pub zeros_left_out : plays_fact two_players (prefix (2 ∷ 2 ∷ [])) (pos 22 ∷ pos 0 ∷ pos 1 ∷ []) (pos 3) ≡ over_plays 3 22 (mark 2 1 1 ∷ [])
  pub size : size_steps one_player (prefix (2 ∷ [])) (over_plays 3 11 (mark 1 1 1 ∷ []))
      ≡ times (pos 3) (pos 1) ∷ times (pos 3) (pos 4) ∷ plus (pos 0) (pos 1) ∷ times (pos 1) (pos 2) ∷ plus (pos 12) (pos 2) ∷ []
  pub bounds : both_bounds one_player (prefix (2 ∷ [])) (over_plays 3 11 (mark 1 1 1 ∷ [])) ≡ second_bound ++ second_bound
  pub bounds_of_open : both_bounds two_players (prefix (1 ∷ [])) (over_plays 1 2 []) ≡ open_bounds
  pub no_bounds_of_cap : both_bounds two_players (alone 2 1) (over_plays 3 5 (mark 2 2 1 ∷ [])) ≡ []
  pub point : point_steps second second_end ≡ second_point
  pub nodes_of_one : enough_nodes one_player ≡ 2
  pub nodes_of_two : enough_nodes two_players ≡ 10
  pub looks_of_rows : enough_looks two_players ≡ 2
  pub looks_of_schedules : enough_looks neighbours ≡ 13 + 8
  pub pivots : enough_pivots second ≡ 6
