use Rattle.std.proofs.Common.{List, subst}
use Rattle.sg_tree.specs.declared.tree.Tree.{Tree}
use Rattle.sg_check.specs.Answering.{FirstAnswers}
use Rattle.sg_check.proofs.Walked.{nodes, root-answers, split-is}
use Rattle.sg_check.proofs.tree.test_split.Goals as goal

pub returns-in-None : goal.returns-in-None
returns-in-None c = λ n e. root-answers c.args.game.now c.args.report.now n c.in-Split.l c.in-Split.parts c.test_first.result c.requires.unscaled (split-is c.args.report.now.tree c.in-Split.l c.in-Split.base c.in-Split.parts c.in-Split.is c.in-None.is) (subst (λ (ps : List Tree). FirstAnswers c.args.game.now c.args.report.now n c.in-Split.l (nodes ps) c.test_first.result) c.as_slice.ensures (c.test_first.ensures n e))
