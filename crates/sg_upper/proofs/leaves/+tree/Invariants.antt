use Rattle.std.proofs.Common.{List, Option, length}
use Rattle.sg_frac.specs.Fractions.{Fraction}
use Rattle.sg_model.specs.Games.{Game}
use Rattle.sg_tree.specs.declared.report.Cap.{Cap}
use Rattle.sg_bounds.specs.Leaves.{listed}
use Rattle.sg_upper.specs.Rests.{AreRests}
use Rattle.sg_upper.specs.Tops.{AreLowered, AreStatedParts}
use Rattle.sg_upper.proofs.Walked.{HasRaised, nodes}
use Rattle.sg_upper.proofs.leaves.+tree.Given as goal

-- the parts so far are walked
abbrev pub invariant-raised_by_parts-loop-part : goal.invariant-raised_by_parts-loop-part
invariant-raised_by_parts-loop-part l = (g : Game) (caps : List Cap) (over : Option Fraction) → AreRests g caps l.rests → AreStatedParts (length g.types) l.n (nodes l.parts) → AreLowered (listed over) l.above
    → HasRaised g caps l.n over l.fn.best l.top l.part-index l.parts
