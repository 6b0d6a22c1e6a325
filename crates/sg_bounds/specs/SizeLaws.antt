-- The size sum of a fact bounds each single sum over a play or a column, and its two parts bound theirs.
use Rattle.std.specs.Prelude.{◌≡◌, List, ℤ, pos, ◌-ℤ◌, ◌*ℤ◌, ◌≤ℤ◌, ℕ, All}
use Rattle.sg_model.specs.declared.kind.Kind.TheVariants.{Security}
use Rattle.sg_model.specs.Sums.{total}
use Rattle.sg_model.specs.Games.{Game}
use Rattle.sg_model.specs.Plays.{IsLegal}
use Rattle.sg_model.specs.Payoffs.{IsPeopled}
use Rattle.sg_num.specs.Exact.{IsAtMost}
use Rattle.sg_tree.specs.declared.fact.Fact.TheVariants.{Plays, Cover}
use Rattle.sg_tree.specs.declared.fact.Mark.{Mark}
use Rattle.sg_tree.specs.declared.fact.Line.{Line}
use Rattle.sg_tree.specs.declared.fix.Fix.{Fix}
use Rattle.sg_bounds.specs.Regions.{IsFix}
use Rattle.sg_bounds.specs.Coverage.{Column, IsColumn, column_cost, entry, row_of}
use Rattle.sg_bounds.specs.Facts.{IsLineOf, IsMarkOf, cost, regret}
use Rattle.sg_bounds.specs.Sizes.{attacker_most, defender_most, fixed_priors, size_sum}

-- rho times a cost, a sum of multipliers times entries, and their difference, within the two products of the size sum and the size sum itself
pub record AreSmall (g : Game) (fix : Fix) (rho size multipliers worth entries : ℤ) : Type 0 where
  pub costs : IsAtMost ((rho *ℤ fixed_priors g fix) *ℤ defender_most g) (rho *ℤ worth)
  pub entries_small : IsAtMost (multipliers *ℤ attacker_most g) entries
  pub difference : IsAtMost size ((rho *ℤ worth) -ℤ entries)

-- over a legal play
abbrev pub PlaySumsAreSmall : Type 0
PlaySumsAreSmall = (g : Game) → IsPeopled g → (fix : Fix) → IsFix g fix → (rho mu : ℤ) → pos 1 ≤ℤ rho → (marks : List Mark) → All (IsMarkOf g fix) marks
    → (play : List ℕ) → IsLegal g play
    → AreSmall g fix rho (size_sum g fix (Plays rho mu marks)) (total (λ (m : Mark). m.v) marks) (cost g fix play) (regret g fix marks play)

-- over a column of the coverage table
abbrev pub ColumnSumsAreSmall : Type 0
ColumnSumsAreSmall = (g : Game) → IsPeopled g → g.kind ≡ Security → (fix : Fix) → IsFix g fix → (rho mu : ℤ) → pos 1 ≤ℤ rho → (lines : List Line) → All (IsLineOf g fix) lines
    → (c : Column) → IsColumn g c
    → AreSmall g fix rho (size_sum g fix (Cover rho mu lines)) (total (λ (line : Line). line.v) lines) (column_cost g fix c)
    (total (λ (line : Line). line.v *ℤ entry g fix (row_of g fix line) c) lines)
