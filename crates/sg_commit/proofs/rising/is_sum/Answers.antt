use Rattle.std.proofs.Common.{arith, sym, ◌∙◌, rules}
use Rattle.std.specs.Prelude.{FitsSigned}
use Rattle.std.specs.Int.{w128}
use Rattle.std.proofs.lemmas.Int.{ints, to_z-of_z}
use Rattle.sg_commit.proofs.SharedTotals.{sum_is, not_sum}
use Rattle.sg_commit.proofs.rising.is_sum.Goals as goal

pub returns-in-Ok : goal.returns-in-Ok
returns-in-Ok c =
    let total : FitsSigned w128 c.args.total = c.ranges.total in
    let sum : FitsSigned w128 c.in-Ok.sum = search rules in
    let e = sum_is c.args.tickets.now c.in-Ok.sum (sym c.in-Ok.is ∙ c.running_sum.ensures) in
    let s = simp to_z-of_z at c.is_same.ensures in (
      λ h. sym (s.0 h) ∙ e,
      λ h. s.1 (e ∙ sym h),
    )

pub returns-in-Err : goal.returns-in-Err
returns-in-Err c = (
  λ h. cc,
  λ h. absurd (not_sum c.args.tickets.now c.args.total c.in-Err.field-0 c.requires (sym c.in-Err.is ∙ c.running_sum.ensures) (omega (arith, ints, c.ranges.total)) h),
)
