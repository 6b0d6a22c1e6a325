-- The tables of a listed family: what each play costs, and its entry in each row from 1.
use Rattle.std.specs.Prelude.{◌≡◌, ℕ, zero, suc, ◌+◌, ◌<◌, List, [], length, ℤ, pos, ◌+ℤ◌, ◌-ℤ◌, ◌*ℤ◌, slice_index_or, take, flat_map}
use Rattle.std.specs.List.{AllZip}
use Rattle.sg_model.specs.Sums.{total}
use Rattle.sg_model.specs.Games.{Game, attacker}
use Rattle.sg_model.specs.Plays.{pay_a, pay_d}
use Rattle.sg_model.specs.Payoffs.{shift_of}
use Rattle.sg_tree.specs.declared.fix.Fix.{Fix}
use Rattle.sg_bounds.specs.Regions.{fixed}
use Rattle.sg_bounds.specs.Facts.{cost}
use Rattle.sg_rows.specs.Rows.{place}
use Rattle.sg_lp.specs.declared.column.Column.{Column}
use Rattle.sg_lp.specs.Programs.{Program}
use Rattle.sg_bounds.specs.PlayRows.{comparisons, gain, other_actions}
use Rattle.sg_dobss.specs.Paying.{AreByPlay}

-- what a type gets by the action of a comparison above what it gets by the action act, play by play
abbrev pub IsTypeRow : Game → ℕ → ℕ × ℕ → List ℤ → Type 0
IsTypeRow g act m row = AreByPlay g (λ play. pay_a g m.0 play m.1 -ℤ pay_a g m.0 play act) row

-- the gain of a comparison, play by play
abbrev pub IsGainRow : Game → Fix → ℕ × ℕ → List ℤ → Type 0
IsGainRow g fix m row = AreByPlay g (λ play. gain g fix play m) row

-- a row for each comparison of the first n fixed types, in order
abbrev pub AreGainRows : Game → Fix → ℕ → List (List ℤ) → Type 0
AreGainRows g fix n rows = AllZip (IsGainRow g fix) (flat_map (other_actions g) (take n (fixed fix))) rows

-- what the first n fixed types make a play cost: prior times payoff, with the shift
abbrev pub cost_to : Game → Fix → ℕ → List ℕ → ℤ
cost_to g fix n play = total (λ (p : ℕ × ℕ). (attacker g p.0).prior *ℤ (pay_d g p.0 play p.1 +ℤ shift_of g)) (take n (fixed fix))

-- the costs of the plays, and a row for each comparison of the node
pub record AreTables (g : Game) (fix : Fix) (costs : List ℤ) (rows : List (List ℤ)) : Type 0 where
  pub costs_are : AreByPlay g (λ play. cost g fix play) costs
  pub rows_are : AllZip (IsGainRow g fix) (comparisons g fix) rows

-- the numbers of costs, each with the prior times a payoff and the shift
abbrev pub added_to : List ℤ → ℤ → ℤ → List ℤ → ℕ → ℤ
added_to costs prior shift pays k = place costs k +ℤ (prior *ℤ (place pays k +ℤ shift))

-- the entry of the k-th play in a row, where the rows from 1 are listed: 1 in row 0
abbrev pub entry_in : List (List ℤ) → ℕ → ℕ → ℤ
entry_in rows zero k = pos 1
entry_in rows (suc j) k = place (slice_index_or rows j []) k

-- the costs and entries of a program's columns, by their places
pub record AreTablesOf (p : Program) (costs : List ℤ) (rows : List (List ℤ)) : Type 0 where
  pub costs_long : length costs ≡ length p.columns
  pub height : length rows + 1 ≡ p.height
  pub rows_long : (j : ℕ) → j < length rows → length (slice_index_or rows j []) ≡ length p.columns
  pub cost_at : (k : ℕ) (d : Column) → k < length p.columns → place costs k ≡ p.cost (slice_index_or p.columns k d)
  pub entry_at : (k j : ℕ) (d : Column) → k < length p.columns → j < p.height → entry_in rows j k ≡ p.entry (slice_index_or p.columns k d) j
