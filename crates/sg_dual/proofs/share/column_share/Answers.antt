use Rattle.std.proofs.Common.{◌≡◌, ◌∙◌, rules, FitsSigned, List, ap, arith, Ok}
use Rattle.std.specs.Int.{w128}
use Rattle.std.specs.Prelude.{ℤ, ◌<ℤ◌, pos}
use Rattle.std.proofs.lemmas.Int.{ints, to_z-of_z}
use Rattle.sg_num.specs.Operations.{formed}
use Rattle.sg_rows.specs.Rows.{place}
use Rattle.sg_rows.proofs.Fitting.{Ok-value}
use Rattle.sg_lp.specs.States.{row_at}
use Rattle.sg_programs.specs.Points.{own_product, own_steps}
use Rattle.sg_programs.proofs.PointSums.{own-above}
use Rattle.sg_dual.proofs.Shared.{row_share, row_stops}
use Rattle.sg_dual.proofs.share.column_share.Goals as goal

pub share_of-requires-clause-product : goal.share_of-requires-clause-product
share_of-requires-clause-product g c =
    let p = g.F.Family.program c.args.family.now in
    let t = c.args.state.now.tableau in
    let fits : FitsSigned w128 c.in-Ok.product = search rules in
    let value : Ok c.in-Ok.product ≡ formed (own_steps p t c.args.i) (own_product p t c.args.i) = c.in-Ok.ensures.value in
    let is = Ok-value (own_steps p t c.args.i) (own_product p t c.args.i) c.in-Ok.product value in
    let above = own-above p t c.requires.sized c.requires.state c.args.i c.requires.inside in
    simp to_z-of_z (let above : pos 0 <ℤ c.in-Ok.product = omega (arith, ints, is, above) in above)

pub returns-in-Ok-clause-share : goal.returns-in-Ok-clause-share
returns-in-Ok-clause-share g c =
    let p = g.F.Family.program c.args.family.now in
    let t = c.args.state.now.tableau in
    let fits : FitsSigned w128 c.in-Ok.product = search rules in
    let first : FitsSigned w128 c.first_of-first.result = search rules in
    let low = c.if-first-le0.false in
    let is : c.first_of-first.result ≡ place (row_at t c.args.i) 0 = c.first_of-first.ensures ∙ ap (λ (r : List ℤ). place r 0) c.row.ensures in
    let value : Ok c.in-Ok.product ≡ formed (own_steps p t c.args.i) (own_product p t c.args.i) = c.in-Ok.ensures.value in
    row_share p t c.args.i c.args.col.now c.first_of-first.result c.in-Ok.product c.share_of.result c.requires.member is
    (omega (arith, ints, low)) value c.share_of.ensures.col (simp to_z-of_z at c.share_of.ensures.num) (simp to_z-of_z at c.share_of.ensures.den)

pub returns-in-Err-clause-share : goal.returns-in-Err-clause-share
returns-in-Err-clause-share g c =
    let p = g.F.Family.program c.args.family.now in
    let t = c.args.state.now.tableau in
    let first : FitsSigned w128 c.first_of-first.result = search rules in
    let low = c.if-first-le0.false in
    let is : c.first_of-first.result ≡ place (row_at t c.args.i) 0 = c.first_of-first.ensures ∙ ap (λ (r : List ℤ). place r 0) c.row.ensures in
    row_stops p t c.args.i c.args.col.now c.first_of-first.result c.in-Err.wide c.requires.member is (omega (arith, ints, low)) c.in-Err.ensures.value
