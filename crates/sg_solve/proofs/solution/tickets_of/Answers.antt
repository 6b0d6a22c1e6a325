use Rattle.std.proofs.Common.{List, ℤ, sym, subst, arith}
use Rattle.std.specs.Prelude.{FitsSigned}
use Rattle.std.specs.Int.{w128}
use Rattle.std.proofs.lemmas.Int.{ints, to_z-of_z}
use Rattle.sg_split.specs.Laying.{AreCounts}
use Rattle.sg_solve.proofs.Reports.{are_counts}
use Rattle.sg_solve.proofs.solution.tickets_of.Goals as goal

pub wrap-requires : goal.wrap-requires
wrap-requires c =
    let f = c.args.filling.now in
    let t = c.requires.filling.coverage.ticket_range in
    let fits : FitsSigned w128 f.total = omega (arith, ints, t.at_least, t.at_most) in
    let h = are_counts c.args.game.now c.promises.ensures c.requires.scaled f c.requires.filling in
    simp to_z-of_z (subst (λ (xs : List ℤ). AreCounts c.args.game.now xs f.total) (sym c.as_slice.ensures) h)
