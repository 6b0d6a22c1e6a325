use Rattle.sg_eraser.specs.Amounts.{amount_in}
use Rattle.sg_eraser.proofs.Fillings.{IsFilledTo}
use Rattle.sg_eraser.proofs.filling.fill_row.Given as goal

-- the counts of the choices so far, and what they leave
abbrev pub invariant-loop-k : goal.invariant-loop-k
invariant-loop-k l = IsFilledTo l.game (amount_in l.game l.parts) l.r l.k l.row.items l.left
