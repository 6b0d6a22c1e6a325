use Rattle.std.proofs.Common.{◌≡◌, ℕ, List, Option}
use Rattle.sg_frac.specs.Fractions.{Fraction}
use Rattle.sg_bounds.specs.Leaves.{listed}
use Rattle.sg_check.specs.Answering.{IsTopOf, ShowsOnly}
use Rattle.sg_check.proofs.Walked.{HasWalked}
use Rattle.sg_check.proofs.tree.+tree.Given as goal

-- the parts so far have passed
abbrev pub invariant-test_parts-loop-part : goal.invariant-test_parts-loop-part
invariant-test_parts-loop-part l = record {
  count : l.a ≡ l.part-index;
  walked : (n : ℕ) (above : Option Fraction) (bounds : List Fraction) → ShowsOnly (listed above) l.base → IsTopOf l.top bounds n → HasWalked l.game l.report l.acts n above bounds l.parts l.next l.best l.part-index;
}
