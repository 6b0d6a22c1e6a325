use Rattle.sg_game.specs.Seen.{number_lists}
use Rattle.sg_eraser.specs.Amounts.{amount_in}
use Rattle.sg_eraser.proofs.Fillings.{AreFilledTo}
use Rattle.sg_eraser.proofs.filling.fill.Given as goal

-- the counts of the resources so far, and what they leave
abbrev pub invariant-loop-r : goal.invariant-loop-r
invariant-loop-r l = AreFilledTo l.game (amount_in l.game l.parts) l.r (number_lists l.counts.items) l.left
