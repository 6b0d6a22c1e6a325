use Rattle.sg_check.proofs.Walked.{base-fails}
use Rattle.sg_check.proofs.fork.test_base.Goals as goal

pub returns-in-Err : goal.returns-in-Err
returns-in-Err c = λ n shown e shows. base-fails c.args.game.now c.args.report.now c.args.acts.now c.args.base.now c.in-Some.fact n shown c.in-Err.refusal c.in-Some.is (c.in-Err.ensures n e)
