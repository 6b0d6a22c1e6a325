use Rattle.std.proofs.Common.{rules, ◌≡◌, ◌<◌, ◌∙◌, sym, to_z, arith}
use Rattle.std.specs.Int.{w128, int_max}
use Rattle.std.specs.Prelude.{FitsSigned}
use Rattle.std.proofs.lemmas.Int.{to_z-of_z}
use Rattle.sg_model.specs.Games.{action_count}
use Rattle.sg_commit.proofs.Responses.{top_more, top_stops}
use Rattle.sg_commit.proofs.response.top_after.Goals as goal

pub returns-in-Err : goal.returns-in-Err
returns-in-Err c =
    let first_fits : FitsSigned w128 c.args.first = c.ranges.first in
    let lt : c.loop-i.i < action_count c.args.game.now c.args.l = omega (arith, c.loop-i-test.true, c.actions-i-end.ensures.count) in
    let inv = simp to_z-of_z at c.loop-i.invariant in
    let stops = top_stops c.args.game.now c.args.k.now.tickets c.args.l c.loop-i.i (action_count c.args.game.now c.args.l) lt (to_z w128 c.loop-i.top-bits) c.in-Err.wide (sym c.table_sum.ensures ∙ c.in-Err.is) in
    sym (inv ∙ stops)

pub loop-i-preserved : goal.loop-i-preserved
loop-i-preserved c =
    let first_fits : FitsSigned w128 c.args.first = c.ranges.first in
    let sum_fits : FitsSigned w128 c.in-Ok.sum = search rules in
    let top_fits : FitsSigned w128 c.greater-top.result = record { sfits = c.greater-top.type_inv } in
    let lt : c.loop-i.i < action_count c.args.game.now c.args.l = omega (arith, c.loop-i-test.true, c.actions-i-end.ensures.count) in
    let inv = simp to_z-of_z at c.loop-i.invariant in
    let top : c.greater-top.result ≡ int_max (to_z w128 c.loop-i.top-bits) c.in-Ok.sum = simp to_z-of_z at c.greater-top.ensures in
    let more = top_more c.args.game.now c.args.k.now.tickets c.args.l c.loop-i.i (action_count c.args.game.now c.args.l) lt (to_z w128 c.loop-i.top-bits) c.in-Ok.sum c.greater-top.result (sym c.table_sum.ensures ∙ c.in-Ok.is) top in
    simp to_z-of_z (inv ∙ more)
