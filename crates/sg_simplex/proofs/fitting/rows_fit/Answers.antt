use Rattle.std.proofs.Common.{◌∙◌, sym, arith}
use Rattle.sg_simplex.proofs.Rowwise.{from_start, row_ends, row_goes, row_stops}
use Rattle.sg_simplex.proofs.fitting.rows_fit.Goals as goal

pub loop-k-init : goal.loop-k-init
loop-k-init c = from_start c.args.state.now.tableau.rows c.args.products.now c.args.leaving

pub returns-in-Err : goal.returns-in-Err
returns-in-Err c =
    let long = c.requires.long in
    sym (c.loop-k.invariant ∙ row_stops c.args.state.now.tableau.rows c.args.products.now c.args.leaving c.loop-k.k c.in-Err.wide (omega arith) (sym c.in-Err.is ∙ c.row_fits.ensures))

pub loop-k-preserved : goal.loop-k-preserved
loop-k-preserved c =
    let long = c.requires.long in
    c.loop-k.invariant ∙ row_goes c.args.state.now.tableau.rows c.args.products.now c.args.leaving c.loop-k.k (omega arith) (sym c.in-Ok.is ∙ c.row_fits.ensures)

pub returns : goal.returns
returns c =
    let long = c.requires.long in
    sym (c.loop-k.invariant ∙ row_ends c.args.state.now.tableau.rows c.args.products.now c.args.leaving c.loop-k.k (omega arith))
