use Rattle.std.proofs.Common.{◌∙◌, List, [], sym, ap, rules, slice_index_or}
use Rattle.std.specs.Int.{w128}
use Rattle.std.specs.Prelude.{FitsSigned, ℤ}
use Rattle.std.proofs.lemmas.Int.{to_z-of_z}
use Rattle.sg_num.specs.declared.step.Wide.{Wide}
use Rattle.sg_num.specs.Operations.{formed}
use Rattle.sg_rows.specs.Rows.{combine_steps, place}
use Rattle.sg_simplex.proofs.Rowwise.{leaving_steps, other_steps}
use Rattle.sg_simplex.proofs.fitting.row_fits.Goals as goal

pub returns-then-k-leaving : goal.returns-then-k-leaving
returns-then-k-leaving c = ap (λ (ws : List Wide). formed ws tt) (sym (leaving_steps c.args.state.now.tableau.rows c.args.products.now c.args.leaving c.args.k c.if-k-leaving.true))

pub returns : goal.returns
returns c =
    let q = c.args.products.now in
    let r = c.args.leaving in
    let k = c.args.k in
    let rows = c.args.state.now.tableau.rows in
    let fr : FitsSigned w128 (place q r) = search rules in
    let fk : FitsSigned w128 (place q k) = search rules in
    let e = simp to_z-of_z at c.combination_fits.ensures in
    e ∙ ap (λ (z : List ℤ). formed (combine_steps (place q r) (place q k) z c.row-2.result.now) tt) c.row.ensures
    ∙ ap (λ (z : List ℤ). formed (combine_steps (place q r) (place q k) (slice_index_or rows k []) z) tt) c.row-2.ensures
    ∙ ap (λ (ws : List Wide). formed ws tt) (sym (other_steps rows q r k c.if-k-leaving.false))
