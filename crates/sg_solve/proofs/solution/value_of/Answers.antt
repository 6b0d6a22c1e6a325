use Rattle.std.proofs.Common.{subst}
use Rattle.std.specs.Prelude.{Result, Err}
use Rattle.sg_num.specs.declared.step.Wide.{Wide}
use Rattle.sg_frac.specs.Fractions.{Fraction}
use Rattle.sg_commit.specs.ExactSums.{IsExactValue}
use Rattle.sg_solve.proofs.Reports.{never_wide}
use Rattle.sg_solve.proofs.solution.value_of.Goals as goal

pub unreachable-requires : goal.unreachable-requires
unreachable-requires c =
    let k = c.args.commitment.now in
    let h : IsExactValue c.args.game.now k.tickets (Err c.in-Err.field-0) = subst (λ (r : Result Fraction Wide). IsExactValue c.args.game.now k.tickets r) c.in-Err.is c.value.ensures.value in
    never_wide c.args.game.now c.promises.ensures c.requires.scaled k c.tickets-rules.ensures.rules c.requires.small c.in-Err.field-0 h
