use Rattle.std.proofs.Common.{length}
use Rattle.sg_model.specs.Limits.{IsPay}
use Rattle.sg_model.specs.PlayLists.{legal_plays}
use Rattle.sg_dobss.specs.Paying.{pay, listed_play}
use Rattle.sg_dobss.proofs.Numbered.{all-numbers}
use Rattle.sg_dobss.proofs.Paid.{pay-in_range}
use Rattle.sg_dobss.proofs.paying.pays.Goals as goal

pub returns-clause-within : goal.returns-clause-within
returns-clause-within c =
    let a = c.args in
    let g = a.game.now in
    all-numbers IsPay (length (legal_plays g)) (λ k. pay a.side.now g a.l (listed_play g k) a.a) c.in_ok-pays.pays c.in_ok-pays.ensures (λ k lt. pay-in_range g c.promises.ensures a.side.now a.l (listed_play g k) a.a)
