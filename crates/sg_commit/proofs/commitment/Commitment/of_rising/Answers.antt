use Rattle.std.proofs.Common.{refl}
use Rattle.std.specs.Prelude.{FitsSigned}
use Rattle.std.specs.Int.{w128}
use Rattle.std.proofs.lemmas.Int.{to_z-of_z}
use Rattle.sg_commit.specs.Committed.{IsCommitted}
use Rattle.sg_commit.proofs.SharedTotals.{shares_from, no_sum, not_lowest}
use Rattle.sg_commit.proofs.commitment.Commitment.of_rising.Goals.{else-is_sum-via-then-is_sum+else-is_lowest, else-is_sum-via-else-is_sum}
use Rattle.sg_commit.proofs.commitment.Commitment.of_rising.Goals as goal

pub invariant_of-result : goal.invariant_of-result
invariant_of-result c =
    let fits : FitsSigned w128 c.args.total = c.ranges.total in
    let s = simp to_z-of_z at c.is_sum.ensures in
    let h = shares_from c.args.tickets c.as_slice.result.now c.as_slice-then-is_sum.result.now c.args.total c.is_sum.result c.is_lowest.result
    c.as_slice.ensures c.as_slice-then-is_sum.ensures s c.if-is_sum.true c.is_lowest.ensures c.if-is_lowest.true in
    let k : IsCommitted (record { tickets = c.args.tickets; total = c.args.total }) =
    record { some = c.requires.some; positive = c.requires.positive; rising = c.requires.rising; lowest = h.lowest; sum = h.sum } in
    simp to_z-of_z k

pub returns-then-is_lowest-clause-none : goal.returns-then-is_lowest-clause-none
returns-then-is_lowest-clause-none c =
    let fits : FitsSigned w128 c.args.total = c.ranges.total in
    let s = simp to_z-of_z at c.is_sum.ensures in
    let h = shares_from c.args.tickets c.as_slice.result.now c.as_slice-then-is_sum.result.now c.args.total c.is_sum.result c.is_lowest.result
    c.as_slice.ensures c.as_slice-then-is_sum.ensures s c.if-is_sum.true c.is_lowest.ensures c.if-is_lowest.true in
    (λ e. cc, λ none. absurd (none h))

pub returns-else-is_sum-clause-none : goal.returns-else-is_sum-clause-none
returns-else-is_sum-clause-none c =
    let fits : FitsSigned w128 c.args.total = c.ranges.total in
    let s = simp to_z-of_z at c.is_sum.ensures in (
      λ e. elim c.else-is_sum.branch [
        | else-is_sum-via-then-is_sum+else-is_lowest w ↦ not_lowest c.args.tickets w.as_slice-then-is_sum.result.now c.args.total w.is_lowest.result w.as_slice-then-is_sum.ensures w.is_lowest.ensures w.if-is_lowest.false
        | else-is_sum-via-else-is_sum w ↦ no_sum c.args.tickets c.as_slice.result.now c.args.total c.is_sum.result c.as_slice.ensures s w.if-is_sum.false
      ],
      λ none. refl,
    )
