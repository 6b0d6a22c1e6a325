use Rattle.std.proofs.Common.{◌≡◌, ◌+◌, ℕ, arith, subst, sym}
use Rattle.sg_tree.specs.declared.fix.Fix.{Fix}
use Rattle.sg_bounds.specs.Regions.{IsFix, alone}
use Rattle.sg_bounds.specs.Checking.{AllPass}
use Rattle.sg_check.specs.Answering.{TellsFirst, held_line}
use Rattle.sg_check.specs.Parts.{shown_stops}
use Rattle.sg_check.proofs.Placed.{alone-fix}
use Rattle.sg_check.proofs.Capped.{shown-fails, shown-more}
use Rattle.sg_check.proofs.caps.test_proof.Goals as goal

pub test_shown-requires-clause-fix : goal.test_shown-requires-clause-fix
test_shown-requires-clause-fix c = subst (IsFix c.args.game.now) (sym c.alone.ensures) (alone-fix c.args.game.now c.args.l (c.loop-fact.a + 1) c.requires.known.0 c.requires.known.1 (omega arith) (omega (arith, c.loop-fact.invariant.count, c.loop-fact-test.true, c.requires.few)))

pub returns-in-Err : goal.returns-in-Err
returns-in-Err c = λ n e.
    let answers : (k : ℕ) → c.loop-fact.next ≡ held_line k → TellsFirst c.args.game.now c.args.report.now (shown_stops k (alone c.args.l (c.loop-fact.fact-index + 1)) c.fact-item.result) c.in-Err.refusal =
    λ k at. subst (λ (i : ℕ). TellsFirst c.args.game.now c.args.report.now (shown_stops k (alone c.args.l (i + 1)) c.fact-item.result) c.in-Err.refusal) c.loop-fact.invariant.count
    (subst (λ (fix : Fix). TellsFirst c.args.game.now c.args.report.now (shown_stops k fix c.fact-item.result) c.in-Err.refusal) c.alone.ensures (c.in-Err.ensures k at)) in
    shown-fails c.args.game.now c.args.report.now c.args.l n c.args.facts.now c.loop-fact.next c.loop-fact.fact-index c.fact-item.result c.loop-fact-test.true c.fact-item.is (c.loop-fact.invariant.shown n e) c.in-Err.refusal answers

pub loop-fact-preserved : goal.loop-fact-preserved
loop-fact-preserved c = record {
  count = omega (arith, c.loop-fact.invariant.count);
  shown = λ n e.
      let answers : (k : ℕ) → c.loop-fact.next ≡ held_line k → AllPass c.args.game.now c.args.report.now (shown_stops k (alone c.args.l (c.loop-fact.fact-index + 1)) c.fact-item.result) =
      λ k at. subst (λ (i : ℕ). AllPass c.args.game.now c.args.report.now (shown_stops k (alone c.args.l (i + 1)) c.fact-item.result)) c.loop-fact.invariant.count
      (subst (λ (fix : Fix). AllPass c.args.game.now c.args.report.now (shown_stops k fix c.fact-item.result)) c.alone.ensures (c.in-Ok.ensures k at)) in
      shown-more c.args.game.now c.args.report.now c.args.l n c.args.facts.now c.loop-fact.next c.loop-fact.fact-index c.fact-item.result c.loop-fact-test.true c.fact-item.is (c.loop-fact.invariant.shown n e) c.lines_of.result c.saturating_add-next.result answers c.lines_of.ensures c.saturating_add-next.ensures;
}
