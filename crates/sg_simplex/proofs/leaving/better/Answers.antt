use Rattle.std.proofs.Common.{arith, refl, pos, length}
use Rattle.std.specs.Prelude.{◌<ℤ◌}
use Rattle.std.proofs.lemmas.Int.{ints}
use Rattle.sg_rows.specs.Rows.{place}
use Rattle.sg_simplex.proofs.Leasts.{better}
use Rattle.sg_simplex.proofs.leaving.better.Goals as goal

pub returns-then-stands_below : goal.returns-then-stands_below
returns-then-stands_below c =
    let up : pos 0 <ℤ place c.args.products.now c.args.k = omega (arith, ints, c.if-products-k-le0.false) in
    let before = rw c.in-Some.is at c.requires.best in
    better (length c.args.state.now.tableau.rows) c.args.state.now.tableau.rows c.args.products.now c.args.k c.in-Some.r up before (c.if-stands_below.ensures.0 refl)
