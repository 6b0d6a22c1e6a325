use Rattle.std.specs.Prelude.{FitsSigned}
use Rattle.std.specs.Int.{w128}
use Rattle.std.proofs.lemmas.Int.{to_z-of_z}
use Rattle.sg_commit.proofs.SharedTotals.{lowest_from, lowest_to}
use Rattle.sg_commit.proofs.rising.is_lowest.Goals as goal

pub returns : goal.returns
returns c =
    let fits : FitsSigned w128 c.common_divisor.result = record { sfits = c.common_divisor.type_inv } in
    let g = c.common_divisor.ensures in
    let s = simp to_z-of_z at c.is_same.ensures in (
      λ h. lowest_from c.args.tickets.now c.common_divisor.result g.divisor (s.0 h),
      λ l. s.1 (lowest_to c.args.tickets.now c.common_divisor.result g.positive g.divisor l),
    )
