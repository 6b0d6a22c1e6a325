-- What testing a water level forms, for a game that declares a scale.
use Rattle.std.specs.Prelude.{◌≡◌, ◌⊎◌, ℕ, ◌≤◌, ◌^◌, List, [], ◌∷◌, length, ℤ, pos, ◌+ℤ◌, ◌-ℤ◌, ◌*ℤ◌, ◌≤ℤ◌, int_div, Option, Some, None, Result, Ok, Err}
use Rattle.std.specs.Int.{int_max}
use Rattle.sg_model.specs.Games.{Game, payoff}
use Rattle.sg_model.specs.Limits.{IsPay, IsWithin}
use Rattle.sg_model.specs.Origami.{gap, share}
use Rattle.sg_model.specs.Sums.{greatest}
use Rattle.sg_frac.specs.Fractions.{Fraction, IsReducedForm}
use Rattle.sg_tree.specs.declared.report.Cap.{Cap}
use Rattle.sg_tree.specs.declared.report.Report.{Report}
use Rattle.sg_bounds.specs.Accepted.{IsWaterTree}
use Rattle.sg_bounds.specs.Checking.{AllPass, FirstFails, IsWaterRoot, Stop}
use Rattle.sg_bounds.specs.Leaves.{tree_bounds_of}
use Rattle.sg_bounds.specs.Trees.{Node}
use Rattle.sg_check.specs.Answering.{held_line}
use Rattle.sg_check.specs.SmallHeights.{IsSmallHeight}
use Rattle.sg_check.specs.declared.refusal.Refusal.{Refusal}
use Rattle.sg_check.specs.declared.water.Pays.{Pays}

-- what a target pays, and how often its gap goes into the scale, within their limits
pub record ArePays (p : Pays) : Type 0 where
  pub covered : IsPay p.covered
  pub uncovered : IsPay p.uncovered
  pub multiple : IsWithin (pos 1) (pos (2 ^ 32)) p.multiple
  pub least : IsPay p.least
  pub gain : IsWithin (pos 1) (pos (2 ^ 31)) p.gain

-- and this is what target t pays
pub record ArePaysOf (g : Game) (t : ℕ) (p : Pays) : Type 0 where
  pub limits : ArePays p
  pub covered : p.covered ≡ (payoff g 1 t).ac
  pub uncovered : p.uncovered ≡ (payoff g 1 t).au
  pub multiple : p.multiple ≡ int_div g.scale (gap (payoff g 1 t))
  pub least : p.least ≡ (payoff g 1 t).du
  pub gain : p.gain ≡ (payoff g 1 t).dc -ℤ (payoff g 1 t).du

-- a small level that covers no target so often that its part of the bound doesn't fit
pub record IsBounding (g : Game) (h : Fraction) : Type 0 where
  pub small : IsSmallHeight h
  pub shares : (t : ℕ) → 1 ≤ t → t ≤ length g.goals → h.num ≤ℤ ((payoff g 1 t).au *ℤ h.den) → share g h.num h.den t ≤ℤ pos (2 ^ 86)

-- what the defender gets at target t at a level, times the denominator and the scale
abbrev pub part : Game → Fraction → ℕ → ℤ
part g h t = (payoff g 1 t).du *ℤ (h.den *ℤ g.scale) +ℤ ((payoff g 1 t).dc -ℤ (payoff g 1 t).du) *ℤ share g h.num h.den t

-- the greatest of a list, where there is one
abbrev pub greatest_in : List ℤ → Option ℤ
greatest_in [] = None
greatest_in (x ∷ xs) = Some (greatest (x ∷ xs))

-- the greater of two numbers, where they are there
abbrev pub greater_of : Option ℤ → Option ℤ → Option ℤ
greater_of None next = next
greater_of (Some best) None = Some best
greater_of (Some best) (Some next) = Some (int_max best next)

-- there is one bound, with a denominator of at least 1, and this is it in lowest terms
abbrev pub ShowsBound : List Fraction → Fraction → Type 0
ShowsBound bounds b = (x : Fraction) × (bounds ≡ x ∷ []) × (pos 1 ≤ℤ x.den) × IsReducedForm x.num x.den b

-- whether a tree is one water level that holds: then its bound is told, in lowest terms; else 5 where it is no water level, and 6 where it doesn't hold
abbrev pub WaterTold : Game → Node → Result Fraction ℕ → Type 0
WaterTold g t (Ok b) = IsWaterRoot t × IsWaterTree g t × ((caps : List Cap) → ShowsBound (tree_bounds_of g caps t) b)
WaterTold g t (Err reason) = ((reason ≡ 5) × (IsWaterRoot t → ⊥)) ⊎ ((reason ≡ 6) × IsWaterRoot t × (IsWaterTree g t → ⊥))

-- all of these tests pass, and the only bound is told in lowest terms, or the first that fails
abbrev pub WaterTells : Game → Report → List Stop → List Fraction → Result Fraction Refusal → Type 0
WaterTells g r stops bounds (Ok b) = AllPass g r stops × ShowsBound bounds b
WaterTells g r stops bounds (Err f) = (n : ℕ) × FirstFails g r stops n f.reason × (f.line ≡ held_line n)
