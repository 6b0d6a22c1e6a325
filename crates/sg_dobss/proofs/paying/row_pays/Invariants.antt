use Rattle.sg_dobss.specs.Paying.{AreNumbers, pay, listed_play}
use Rattle.sg_dobss.proofs.paying.row_pays.Given as goal

abbrev pub invariant-loop-i : goal.invariant-loop-i
invariant-loop-i l = AreNumbers l.i (λ k. pay l.side l.game l.l (listed_play l.game k) l.a) l.pays
