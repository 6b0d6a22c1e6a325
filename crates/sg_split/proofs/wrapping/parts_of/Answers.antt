use Rattle.std.specs.Int.{w128}
use Rattle.std.specs.Prelude.{FitsSigned}
use Rattle.std.proofs.lemmas.Int.{to_z-of_z}
use Rattle.std.proofs.lemmas.Result.{IfOk-weaker}
use Rattle.sg_split.specs.Wraps.{AreMomentParts, IsPatrolLine}
use Rattle.sg_split.proofs.Commits.{parts_are}
use Rattle.sg_split.proofs.wrapping.parts_of.Goals as goal

pub returns : goal.returns
returns c =
    let g = c.args.game.now in
    let counts = c.args.counts.now in
    let line = c.in_ok-line.line in
    let fits : FitsSigned w128 c.args.total = c.ranges.total in
    let of : IsPatrolLine g counts c.args.total line = simp to_z-of_z at c.in_ok-line.ensures in
    IfOk-weaker c.tickets_of.result _ (λ parts. AreMomentParts g counts c.args.total parts.items) (λ parts is. parts_are g counts c.args.total line parts.items of is) c.tickets_of.ensures
