-- What holds of the program of a node over the coverage table.
use Rattle.std.specs.Prelude.{◌≡◌, ◌≢◌, ℕ, ◌+◌, ◌<◌, ◌≤◌, List, map, length, ℤ, pos, ◌*ℤ◌, AllPairs, Contains}
use Rattle.sg_model.specs.declared.kind.Kind.TheVariants.{Security}
use Rattle.sg_model.specs.Games.{Game}
use Rattle.sg_model.specs.Limits.{IsGame}
use Rattle.sg_tree.specs.declared.fact.Line.{Line}
use Rattle.sg_tree.specs.declared.fix.Fix.{Fix}
use Rattle.sg_bounds.specs.Coverage as table
use Rattle.sg_bounds.specs.Facts.{HoldsFor}
use Rattle.sg_bounds.specs.Regions.{IsFix}
use Rattle.sg_bounds.specs.RowLaws.{AreAllColumns}
use Rattle.sg_bounds.specs.Sizes.{defender_most, fixed_priors}
use Rattle.sg_lp.specs.Listing.{listing_looks}
use Rattle.sg_lp.specs.Moves.{IsFinal}
use Rattle.sg_lp.specs.Programs.{Bounds, IsWithinLimits, Program}
use Rattle.sg_lp.specs.States.{IsTableau, Tableau}
use Rattle.sg_programs.specs.CoverPrograms.{column_numbered, cover_fact, cover_program, lines_from, table_column, table_row}
use Rattle.sg_programs.specs.Enough.{enough_looks}

-- the columns of a program are the numbers from 1 on, and stand for the table's in its order: each of them once, and nothing else
pub record ListsTable (g : Game) (p : Program) : Type 0 where
  pub numbered : (n : ℕ) → 1 ≤ n → n ≤ length p.columns → Contains p.columns (column_numbered n)
  pub told : map (table_column g) p.columns ≡ table.columns g
  pub each_once : AreAllColumns g (map (table_column g) p.columns)
  pub distinct : AllPairs (λ c d. c ≢ d) p.columns

abbrev pub ColumnsAreTable : Type 0
ColumnsAreTable = (g : Game) (fix : Fix) → ListsTable g (cover_program g fix)

-- in security form the program is within its limits
abbrev pub CoverIsSized : Type 0
CoverIsSized = (g : Game) → IsGame g → g.scale ≡ pos 0 → g.kind ≡ Security → (fix : Fix) → IsFix g fix → IsWithinLimits (cover_program g fix)

-- the sum of the fixed priors times the most of the defender: no column costs more
abbrev pub cost_limit : Game → Fix → ℤ
cost_limit g fix = fixed_priors g fix *ℤ defender_most g

-- the cost limit in each row that says that a target is covered at most always; one more than all of these in row 0; 0 in each other row
abbrev pub bounding_row : Game → Fix → table.Row → ℤ
bounding_row g fix table.whole = cost_limit g fix *ℤ pos (length g.goals + 1)
bounding_row g fix (table.spends r) = pos 0
bounding_row g fix (table.held t) = pos 0
bounding_row g fix (table.within t) = cost_limit g fix
bounding_row g fix (table.gains l b) = pos 0

abbrev pub cover_bounding : Game → Fix → ℕ → ℤ
cover_bounding g fix j = bounding_row g fix (table_row g fix j)

-- these multipliers, over 1, bound every column
abbrev pub CoverIsBounded : Type 0
CoverIsBounded = (g : Game) → IsGame g → g.kind ≡ Security → (fix : Fix) → IsFix g fix → Bounds (cover_program g fix) (cover_bounding g fix)

-- where the columns are tested in turn, pricing takes no more looks than are enough
abbrev pub CoverLooksAreEnough : Type 0
CoverLooksAreEnough = (g : Game) → g.kind ≡ Security → (fix : Fix) (y : List ℤ) (rho : ℤ) → listing_looks (cover_program g fix) y rho (cover_program g fix).columns ≤ enough_looks g

-- weak duality: at a final state the multipliers are a fact that holds for the node
abbrev pub FinalIsCoverFact : Type 0
FinalIsCoverFact = (g : Game) → g.kind ≡ Security → (fix : Fix) (t : Tableau) → IsTableau (cover_program g fix) t → IsFinal (cover_program g fix) t → HoldsFor g fix (cover_fact t.y t.rho)

-- its lines stand in strictly rising order of rows
abbrev pub LinesRise : Type 0
LinesRise = (n : ℕ) (vs : List ℤ) → AllPairs (λ (x y : Line). x.row < y.row) (lines_from n vs)
