use Rattle.std.proofs.Common.{◌∙◌, sym, ap, filter, Ok, Option}
use Rattle.sg_model.specs.Commitments.{is_best, take_of}
use Rattle.sg_model.specs.Games.{action_count}
use Rattle.sg_model.specs.Sums.{numbers}
use Rattle.sg_num.specs.declared.step.Wide.{Wide}
use Rattle.sg_commit.specs.ExactSums.{compared, exact_sum_d, first_refusal, unless}
use Rattle.sg_commit.specs.Responses.{top_sum}
use Rattle.sg_commit.proofs.Responses.{unless-err}
use Rattle.sg_commit.proofs.response.table_answer.Goals as goal

pub returns-in-Err : goal.returns-in-Err
returns-in-Err c =
    let g = c.args.game.now in
    let k = c.args.k.now.tickets in
    let u = unless-err (compared g k c.args.l) (top_sum g k c.args.l) c.in-Err.wide (sym c.in-Err.is ∙ c.top_of.ensures) in
    ap (λ (w : Option Wide). unless w (unless (first_refusal (exact_sum_d g k c.args.l) (filter (is_best g k c.args.l) (numbers (action_count g c.args.l)))) (Ok (take_of g k c.args.l)))) u
