use Rattle.sg_lp.proofs.Exchanged.{AreCombined}
use Rattle.sg_lp.proofs.exchanging.combine_others.Given as goal

abbrev pub invariant-loop-k : goal.invariant-loop-k
invariant-loop-k l = AreCombined l.height l.initial.rows l.rows l.products l.leaving l.pivot l.k
