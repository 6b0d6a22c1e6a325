use Rattle.sg_model.specs.Plays.{pay_a}
use Rattle.sg_dobss.proofs.Gains.{gained}
use Rattle.sg_dobss.proofs.tables.gains.Goals as goal

pub returns : goal.returns
returns c =
    let a = c.args in
    let g = a.game.now in
    gained g (λ play. pay_a g a.l play a.a) (λ play. pay_a g a.l play a.act) c.in_ok-pays.pays c.as_slice.result.now a.base.now c.in_ok-row.row c.as_slice.ensures c.in_ok-pays.ensures.by_play c.requires.base c.in_ok-row.ensures
