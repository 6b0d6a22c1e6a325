use Rattle.std.proofs.Common.{◌∙◌, ap, sym}
use Rattle.std.specs.Prelude.{◌&&◌}
use Rattle.std.specs.Ordering.{int_eq}
use Rattle.sg_model.specs.Commitments.{sum_d, take_of}
use Rattle.sg_commit.proofs.response.may_answer.Goals as goal

pub returns-then-attains : goal.returns-then-attains
returns-then-attains c =
    c.gives.ensures ∙ ap (λ b. b && int_eq (sum_d c.args.game.now c.args.k.now.tickets c.args.l c.args.a) (take_of c.args.game.now c.args.k.now.tickets c.args.l)) (sym (sym c.attains.ensures ∙ c.if-attains.true))

pub returns-else-attains : goal.returns-else-attains
returns-else-attains c =
    ap (λ b. b && int_eq (sum_d c.args.game.now c.args.k.now.tickets c.args.l c.args.a) (take_of c.args.game.now c.args.k.now.tickets c.args.l)) (sym (sym c.attains.ensures ∙ c.if-attains.false))
