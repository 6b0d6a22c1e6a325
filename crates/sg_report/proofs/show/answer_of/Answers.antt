use Rattle.sg_commit.specs.ExactSums.{exact_take}
use Rattle.sg_commit.proofs.Responses.{not_err}
use Rattle.sg_report.proofs.show.answer_of.Goals as goal

pub unreachable-requires : goal.unreachable-requires
unreachable-requires c =
    not_err (exact_take c.args.game.now c.args.k.now.tickets c.args.l) c.in-Err.field-0 c.requires.fits c.in-Err.ensures
