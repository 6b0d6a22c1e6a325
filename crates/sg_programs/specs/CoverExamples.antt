-- A program over the coverage table, worked out by hand.
use Rattle.std.specs.Prelude.{◌≡◌, List, [], ◌∷◌, ℤ, pos}
use Rattle.sg_model.specs.Examples.{guarded, minus, pays, two_thieves}
use Rattle.sg_model.specs.Games.{Game}
use Rattle.sg_tree.specs.declared.fact.Fact.TheVariants.{Cover}
use Rattle.sg_tree.specs.declared.fix.Fix.{Fix}
use Rattle.sg_bounds.specs.Coverage.{always, chooses, covering}
use Rattle.sg_bounds.specs.Regions.{prefix}
use Rattle.sg_split.specs.Matched.{asked}
use Rattle.sg_lp.specs.declared.column.Column.{Column}
use Rattle.sg_lp.specs.declared.column.Enter.TheVariants.{Col, Slack}
use Rattle.sg_lp.specs.Moves.{entries_of}
use Rattle.sg_lp.specs.Programs.{Program}
use Rattle.sg_lp.specs.States.{Tableau}
use Rattle.sg_programs.specs.CoverPoints.{amount_of, cover_whole}
use Rattle.sg_programs.specs.CoverPrograms.{cover_fact, cover_program, column_numbered}

-- the first type is fixed to the first target, and the second to the second
abbrev pub own_targets : Fix
own_targets = prefix (1 ∷ 2 ∷ [])

abbrev pub own_program : Program
own_program = cover_program two_thieves own_targets

-- a column by its cost and its entries
pub record IsWorkedColumn (p : Program) (c : Column) (cost : ℤ) (entries : List ℤ) : Type 0 where
  pub cost_is : p.cost c ≡ cost
  pub entries_are : entries_of p (Col c) ≡ entries

-- the shift is 6. The rows: the whole; both resources; both targets, held; both targets, at most always; what the first type gains by the
-- second target, and the second type by the first
pub record WorkedCover : Type 0 where
  pub columns_are : own_program.columns ≡ column_numbered 1 ∷ column_numbered 2 ∷ column_numbered 3 ∷ column_numbered 4 ∷ column_numbered 5 ∷ column_numbered 6 ∷ []
  -- 2 * (6 - 5) + 3 * (6 + 2); 4 - 6 and 2 - 5
  pub whole : IsWorkedColumn own_program (column_numbered 1) (pos 26) (pos 1 ∷ minus 1 ∷ minus 1 ∷ pos 0 ∷ pos 0 ∷ minus 1 ∷ minus 1 ∷ minus 2 ∷ minus 3 ∷ [])
  -- the first resource at the second target; the second resource at either
  pub first_choice : IsWorkedColumn own_program (column_numbered 2) (pos 0) (pos 0 ∷ pos 1 ∷ pos 0 ∷ pos 0 ∷ minus 1 ∷ pos 0 ∷ pos 0 ∷ pos 0 ∷ pos 0 ∷ [])
  pub second_choice : IsWorkedColumn own_program (column_numbered 3) (pos 0) (pos 0 ∷ pos 0 ∷ pos 1 ∷ minus 1 ∷ pos 0 ∷ pos 0 ∷ pos 0 ∷ pos 0 ∷ pos 0 ∷ [])
  pub third_choice : IsWorkedColumn own_program (column_numbered 4) (pos 0) (pos 0 ∷ pos 0 ∷ pos 1 ∷ pos 0 ∷ minus 1 ∷ pos 0 ∷ pos 0 ∷ pos 0 ∷ pos 0 ∷ [])
  -- 2 * (5 - 1); 6 - 1 of its own type, and -2 - 2 of the other one
  pub first_target : IsWorkedColumn own_program (column_numbered 5) (pos 8) (pos 0 ∷ pos 0 ∷ pos 0 ∷ pos 1 ∷ pos 0 ∷ pos 1 ∷ pos 0 ∷ pos 5 ∷ minus 4 ∷ [])
  -- 3 * (7 - 2); 0 - 4, and 5 + 1 of its own type
  pub second_target : IsWorkedColumn own_program (column_numbered 6) (pos 15) (pos 0 ∷ pos 0 ∷ pos 0 ∷ pos 0 ∷ pos 1 ∷ pos 0 ∷ pos 1 ∷ minus 4 ∷ pos 6 ∷ [])
  -- the multipliers of rows 2 and 4
  pub lines : cover_fact (pos 7 ∷ pos 0 ∷ pos 2 ∷ pos 0 ∷ pos 3 ∷ []) (pos 5) ≡ Cover (pos 5) (pos 7) (record { row = 2; v = pos 2 } ∷ record { row = 4; v = pos 3 } ∷ [])

-- one target, which one resource may cover: 1 to the defender where it does, else -1, and 0 and 1 to the attacker
abbrev pub one_guard : Game
one_guard = guarded ((1 ∷ []) ∷ []) ((1 ∷ []) ∷ []) (pays (pos 1) (minus 1) (pos 0) (pos 1) ∷ [])

-- the end of its run: the whole, a slack, the target and the choice
abbrev pub guarded_end : Tableau
guarded_end = record {
  basis = Col (column_numbered 1) ∷ Slack 1 ∷ Col (column_numbered 3) ∷ Col (column_numbered 2) ∷ [];
  rows = (pos 1 ∷ pos 0 ∷ pos 0 ∷ pos 0 ∷ []) ∷ (pos 0 ∷ pos 1 ∷ pos 1 ∷ minus 1 ∷ []) ∷ (pos 1 ∷ pos 0 ∷ pos 0 ∷ pos 1 ∷ []) ∷ (pos 1 ∷ pos 0 ∷ minus 1 ∷ pos 1 ∷ []) ∷ [];
  y = pos 3 ∷ pos 0 ∷ pos 0 ∷ pos 2 ∷ [];
  rho = pos 1;
}

-- its fact, and the amounts of its point: the target is covered always
pub record WorkedPoint : Type 0 where
  pub fact : cover_fact guarded_end.y guarded_end.rho ≡ Cover (pos 1) (pos 3) (record { row = 3; v = pos 2 } ∷ [])
  pub whole : cover_whole one_guard (prefix (1 ∷ [])) guarded_end ≡ pos 1
  pub always_is : amount_of one_guard (prefix (1 ∷ [])) guarded_end always ≡ pos 1
  pub choice_is : amount_of one_guard (prefix (1 ∷ [])) guarded_end (chooses 1 1) ≡ pos 1
  pub target_is : amount_of one_guard (prefix (1 ∷ [])) guarded_end (covering 1) ≡ pos 1
  pub asked_is : asked one_guard ((pos 1 ∷ []) ∷ []) 1 ≡ pos 1
