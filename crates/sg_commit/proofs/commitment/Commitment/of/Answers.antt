use Rattle.std.proofs.Common.{rules, ◌≡◌, ap, subst, arith, pos}
use Rattle.std.specs.Int.{w128}
use Rattle.std.specs.Prelude.{FitsSigned}
use Rattle.std.proofs.lemmas.Int.{ints}
use Rattle.sg_model.specs.Commitments.{weight_total}
use Rattle.sg_commit.proofs.Faults.{exact_total-is, no_fault-positive}
use Rattle.sg_model.proofs.Covers.{ArePositive}
use Rattle.sg_commit.proofs.commitment.Commitment.of.Goals as goal

pub tickets_of-requires-clause-positive : goal.tickets_of-requires-clause-positive
tickets_of-requires-clause-positive c = let h = c.in_ok-total.ensures in subst ArePositive c.as_slice.ensures.value (no_fault-positive c.as_slice.result.now h.0)

pub tickets_of-requires-clause-sum : goal.tickets_of-requires-clause-sum
tickets_of-requires-clause-sum c =
    let h = c.in_ok-total.ensures in
    let e = exact_total-is (pos 0) c.as_slice.result.now c.in_ok-total.total h.1 in
    let f : weight_total c.as_slice.result.now ≡ weight_total c.args.parts.items = ap weight_total c.as_slice.ensures.value in
    let fits : FitsSigned w128 c.in_ok-total.total = search rules in
    omega (arith, ints, e, f)
