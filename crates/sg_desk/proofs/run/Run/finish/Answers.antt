use Rattle.std.proofs.Common.{◌≡◌, Some, rules}
use Rattle.sg_simplex.specs.declared.turn.Turn.TheVariants as turn
use Rattle.sg_desk.proofs.Answered.{looks-stop}
use Rattle.sg_desk.proofs.run.Run.finish.Goals as goal

pub returns-in_ok-copy-in-Some-LooksSpent : goal.returns-in_ok-copy-in-Some-LooksSpent
returns-in_ok-copy-in-Some-LooksSpent c =
    let r = c.args.self.now in
    let e : r.answer ≡ Some turn.LooksSpent = search rules in
    looks-stop c.args.game.now c.args.pivots c.args.looks r.node.width r c.requires.run c.steps.result c.in_ok-copy-in-Some-LooksSpent.field-0 e c.steps.ensures c.in_ok-copy-in-Some-LooksSpent.ensures
