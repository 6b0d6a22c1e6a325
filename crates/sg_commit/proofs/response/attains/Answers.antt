use Rattle.std.proofs.Common.{rules, ◌≡◌, ◌∙◌, sym, ap, ℤ, arith}
use Rattle.std.specs.Int.{w128}
use Rattle.std.specs.Prelude.{FitsSigned, int_le}
use Rattle.std.proofs.lemmas.Int.{to_z-of_z}
use Rattle.sg_model.specs.Commitments.{sum_a}
use Rattle.sg_commit.specs.ExactSums.{exact_sum_a}
use Rattle.sg_commit.specs.Responses.{top_sum}
use Rattle.sg_commit.proofs.Responses.{formed, reaches_top, not_err, sum_a-is}
use Rattle.sg_commit.proofs.response.attains.Goals as goal

pub unreachable-requires : goal.unreachable-requires
unreachable-requires c =
    not_err (exact_sum_a c.args.game.now c.args.k.now.tickets c.args.l c.args.a) c.in-Err.field-0
    (formed c.args.game.now c.args.k.now.tickets c.args.l c.requires.compared c.args.a c.requires.known_action.0 c.requires.known_action.1)
    (sym c.table_sum.ensures ∙ c.in-Err.is)

pub returns : goal.returns
returns c =
    let top_fits : FitsSigned w128 c.args.top = c.ranges.top in
    let sum_fits : FitsSigned w128 c.in-Ok.sum = search rules in
    let sum : c.in-Ok.sum ≡ sum_a c.args.game.now c.args.k.now.tickets c.args.l c.args.a =
    sum_a-is c.args.game.now c.args.k.now.tickets c.args.l c.args.a c.in-Ok.sum (sym c.table_sum.ensures ∙ c.in-Ok.is) in
    let known = c.requires.known_action in
    let e : int_le c.args.top c.in-Ok.sum ≡ int_le (top_sum c.args.game.now c.args.k.now.tickets c.args.l) (sum_a c.args.game.now c.args.k.now.tickets c.args.l c.args.a) =
    ap (λ (z : ℤ). int_le z c.in-Ok.sum) c.requires.top ∙ ap (λ (z : ℤ). int_le (top_sum c.args.game.now c.args.k.now.tickets c.args.l) z) sum in
    simp to_z-of_z (e ∙ reaches_top c.args.game.now c.args.k.now.tickets c.args.l (omega (arith, known)) c.args.a)
