use Rattle.std.proofs.Common.{◌≡◌, ◌∙◌, ◌+◌, ap, arith, refl, sym, Result, Ok, Err}
use Rattle.sg_check.specs.Answering.{held_line}
use Rattle.sg_bounds.specs.Trees.{part_count}
use Rattle.std.specs.Prelude.{IfOk}
use Rattle.sg_model.specs.Games.{action_count}
use Rattle.sg_check.specs.declared.fork.Fork.{Fork}
use Rattle.sg_check.specs.declared.refusal.Refusal.{Refusal}
use Rattle.sg_check.proofs.Trees.{part_count-length}
use Rattle.sg_check.proofs.Walked.{fork-base, nodes}
use Rattle.sg_check.proofs.fork.test_fork.Goals as goal

-- what holds anyway holds where there is a result
ok-anyway : (result : Result Fork Refusal) (P : Type 0) → P → IfOk result (λ fork. P)
ok-anyway (Ok fork) P h = h
ok-anyway (Err f) P h = tt

pub returns-clause-answers : goal.returns-clause-answers
returns-clause-answers c = λ n shown e shows.
    let next : c.saturating_add.result ≡ held_line (n + 1) = omega (arith, e, c.saturating_add.ensures) in
    fork-base c.args.game.now c.args.report.now c.args.acts.now c.args.l (part_count (nodes c.args.parts.now)) c.args.base.now n shown c.test_base.result (c.if-not-is_fork.ensures.0 refl) (c.test_base.ensures (n + 1) shown next shows)

pub returns-clause-next : goal.returns-clause-next
returns-clause-next c = let p = c.if-not-is_fork.ensures.0 refl in ok-anyway c.test_base.result _ (omega (arith, p.0, p.1))

pub returns-clause-count : goal.returns-clause-count
returns-clause-count c =
    let p = c.if-not-is_fork.ensures.0 refl in
    ok-anyway c.test_base.result _ (sym (part_count-length c.args.parts.now) ∙ (p.2 ∙ ap (action_count c.args.game.now) p.0))
