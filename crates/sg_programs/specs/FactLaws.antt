-- What the multipliers of a final state say: they are a fact over all legal plays.
use Rattle.std.specs.Prelude.{◌≡◌, List, ℤ, pos, AllPairs}
use Rattle.sg_model.specs.Games.{Game}
use Rattle.sg_model.specs.Limits.{IsGame}
use Rattle.sg_tree.specs.declared.fact.Mark.{Mark}
use Rattle.sg_tree.specs.declared.fix.Fix.{Fix}
use Rattle.sg_bounds.specs.Regions.{IsFix}
use Rattle.sg_bounds.specs.Facts.{HoldsFor}
use Rattle.sg_lp.specs.Moves.{IsFinal}
use Rattle.sg_lp.specs.States.{IsTableau, Tableau}
use Rattle.sg_programs.specs.Laws.{ComesBefore}
use Rattle.sg_programs.specs.Marks.{marks_of, plays_fact}
use Rattle.sg_bounds.specs.PlayRows.{comparisons}
use Rattle.sg_programs.specs.Plays.{plays_program}

-- weak duality: at a final state the multipliers are a fact that holds for the node, though few columns were made
abbrev pub FinalIsFact : Type 0
FinalIsFact = (g : Game) → IsGame g → g.scale ≡ pos 0 → (fix : Fix) → IsFix g fix → (t : Tableau) → IsTableau (plays_program g fix) t → IsFinal (plays_program g fix) t
    → HoldsFor g fix (plays_fact g fix t.y t.rho)

-- its marks stand in strictly rising order of types and actions
abbrev pub MarksRise : Type 0
MarksRise = (g : Game) (fix : Fix) → IsFix g fix → (vs : List ℤ) → AllPairs (λ (m n : Mark). ComesBefore (m.l, m.a) (n.l, n.a)) (marks_of (comparisons g fix) vs)
