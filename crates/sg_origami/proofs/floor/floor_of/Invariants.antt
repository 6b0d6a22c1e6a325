use Rattle.sg_model.specs.Limits.{IsPay}
use Rattle.sg_origami.specs.Rates.{IsFirstMost}
use Rattle.sg_origami.proofs.floor.floor_of.Given as goal

abbrev pub invariant-loop-t : goal.invariant-loop-t
invariant-loop-t l = record {
  floor : IsFirstMost l.game l.t l.target l.pay;
  range : IsPay l.pay;
}
