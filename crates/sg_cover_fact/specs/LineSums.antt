-- What the lines of a fact add up to: in a column, at a resource and at a target.
use Rattle.std.specs.Prelude.{◌≡◌, ℕ, List, ℤ, pos, ◌+ℤ◌, ◌*ℤ◌, ◌≤ℤ◌, All}
use Rattle.sg_model.specs.declared.kind.Kind.TheVariants.{Security}
use Rattle.sg_model.specs.Sums.{total}
use Rattle.sg_model.specs.Games.{Game}
use Rattle.sg_num.specs.Exact.{Fits}
use Rattle.sg_tree.specs.declared.fact.Line.{Line}
use Rattle.sg_tree.specs.declared.fix.Fix.{Fix}
use Rattle.sg_bounds.specs.Regions.{IsFix}
use Rattle.sg_bounds.specs.Coverage.{Column, Row, entry, gains, held, row_of, spends, where_same, whole, within}
use Rattle.sg_bounds.specs.Facts.{IsLineOf}
use Rattle.sg_bounds.specs.Sizes.{attacker_most, defender_most, fixed_priors}

-- the entries of the lines' rows in a column, times their multipliers
abbrev pub sum_in_column : Game → Fix → List Line → Column → ℤ
sum_in_column g fix lines c = total (λ (line : Line). line.v *ℤ entry g fix (row_of g fix line) c) lines

-- 1 for the row of resource r, else 0
abbrev pub spending : Row → ℕ → ℤ
spending whole r = pos 0
spending (spends s) r = where_same s r (pos 1)
spending (held s) r = pos 0
spending (within s) r = pos 0
spending (gains l b) r = pos 0

-- 1 for the row in which target t is held, else 0
abbrev pub holding : Row → ℕ → ℤ
holding whole t = pos 0
holding (spends s) t = pos 0
holding (held s) t = where_same s t (pos 1)
holding (within s) t = pos 0
holding (gains l b) t = pos 0

-- the multipliers of the lines that name the row of resource r
abbrev pub spent_sum : Game → Fix → List Line → ℕ → ℤ
spent_sum g fix lines r = total (λ (line : Line). line.v *ℤ spending (row_of g fix line) r) lines

-- the multipliers of the lines that name the row in which target t is held
abbrev pub held_sum : Game → Fix → List Line → ℕ → ℤ
held_sum g fix lines t = total (λ (line : Line). line.v *ℤ holding (row_of g fix line) t) lines

-- lines of a security game's node, with multipliers whose total times the most of an attacker fits: then every sum over them fits
pub record AreSummable (g : Game) (fix : Fix) (lines : List Line) : Type 0 where
  pub security : g.kind ≡ Security
  pub is_fix : IsFix g fix
  pub lines_of : All (IsLineOf g fix) lines
  pub room : Fits (total (λ (line : Line). line.v) lines *ℤ attacker_most g)

-- such lines with a rho of at least 1 whose size sum fits, and its part for the defender too: then every sum over a column fits
pub record IsTestable (g : Game) (fix : Fix) (rho : ℤ) (lines : List Line) : Type 0 where
  pub summable : AreSummable g fix lines
  pub rho_positive : pos 1 ≤ℤ rho
  pub gain : Fits ((rho *ℤ fixed_priors g fix) *ℤ defender_most g)
  pub size : Fits (((rho *ℤ fixed_priors g fix) *ℤ defender_most g) +ℤ (total (λ (line : Line). line.v) lines *ℤ attacker_most g))
