use Rattle.std.proofs.Common.{rules, ◌≡◌, ◌∙◌, sym, ap₂, arith}
use Rattle.std.specs.Int.{w128}
use Rattle.std.specs.Prelude.{FitsSigned}
use Rattle.std.specs.Ordering.{int_eq}
use Rattle.std.proofs.lemmas.Int.{to_z-of_z}
use Rattle.sg_model.specs.Commitments.{sum_d, take_of}
use Rattle.sg_commit.specs.ExactSums.{exact_sum_d, exact_take}
use Rattle.sg_commit.proofs.Answering.{best_formed, taken-is}
use Rattle.sg_commit.proofs.Responses.{not_err, sum_d-is}
use Rattle.sg_commit.proofs.response.gives.Goals as goal

pub unreachable-requires : goal.unreachable-requires
unreachable-requires c =
    let taken_fits : FitsSigned w128 c.args.taken = c.ranges.taken in
    let take = c.requires.taken in
    not_err (exact_sum_d c.args.game.now c.args.k.now.tickets c.args.l c.args.a) c.in-Err.field-0
    (best_formed c.args.game.now c.args.k.now.tickets c.args.l c.args.taken take c.args.a c.requires.known_action.0 c.requires.known_action.1 c.requires.best)
    (sym c.table_sum.ensures ∙ c.in-Err.is)

pub returns : goal.returns
returns c =
    let taken_fits : FitsSigned w128 c.args.taken = c.ranges.taken in
    let sum_fits : FitsSigned w128 c.in-Ok.sum = search rules in
    let take = c.requires.taken in
    let sum : c.in-Ok.sum ≡ sum_d c.args.game.now c.args.k.now.tickets c.args.l c.args.a =
    sum_d-is c.args.game.now c.args.k.now.tickets c.args.l c.args.a c.in-Ok.sum (sym c.table_sum.ensures ∙ c.in-Ok.is) in
    let taken : c.args.taken ≡ take_of c.args.game.now c.args.k.now.tickets c.args.l = taken-is c.args.game.now c.args.k.now.tickets c.args.l c.args.taken take in
    (simp to_z-of_z at c.is_same.ensures) ∙ ap₂ int_eq sum taken
