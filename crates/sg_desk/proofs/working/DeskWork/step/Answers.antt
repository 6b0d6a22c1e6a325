use Rattle.std.proofs.Common.{◌∙◌, ◌-◌, Some, None, false, ap, map, slice_set, sym, subst}
use Rattle.std.proofs.lemmas.List.{get_or_default}
use Rattle.sg_work.specs.Works.{IsStep}
use Rattle.sg_programs.specs.NodeTests.{EndsNode, listed_plays}
use Rattle.sg_desk.specs.declared.run.Run.{Run}
use Rattle.sg_desk.specs.Desks.{DeskView}
use Rattle.sg_desk.specs.Runs.{has_ended, load_of}
use Rattle.sg_desk.proofs.Laned.{held-run, lane-below, load-is, loads-set, run-is, same-run, some-one, step-kept}
use Rattle.sg_desk.proofs.Stepped.{step-told, stepped}
use Rattle.sg_desk.proofs.working.DeskWork.step.Goals as goal

pub unreachable-requires : goal.unreachable-requires
unreachable-requires c =
    let runs = c.self.inside.runs.items in
    let loads = ap (λ (v : DeskView). v.loads) c.self.view_is in
    let held = held-run runs c.args.self.now.loads c.args.lane false loads c.requires in
    let lt = lane-below runs c.args.self.now.loads c.args.lane loads c.requires.from_one c.requires.in_range in
    some-one held.0 (sym c.in-None.is ∙ (c.index_mut.ensures.value ∙ (get_or_default runs (c.args.lane - 1) c.index_mut.result.now None lt ∙ held.1.0)))

pub invariant_of-self : goal.invariant_of-self
invariant_of-self c =
    let x = c.self.inside in
    let d = c.self.invariant in
    let runs = x.runs.items in
    let i = c.args.lane - 1 in
    let loads = ap (λ (v : DeskView). v.loads) c.self.view_is in
    let held = held-run runs c.args.self.now.loads c.args.lane false loads c.requires in
    let lt = lane-below runs c.args.self.now.loads c.args.lane loads c.requires.from_one c.requires.in_range in
    let at = sym (get_or_default runs i c.index_mut.result.now None lt) ∙ (sym c.index_mut.ensures.value ∙ c.in-Some.is) in
    let is = run-is x.game.now x.pivots x.looks x.pool runs d i lt c.in-Some.run' at in
    let going = ap (λ (r : Run). has_ended r.answer) (same-run c.in-Some.run' held.0 (sym at ∙ held.1.0)) ∙ held.1.2 in
    let two = stepped x.game.now c.promises.ensures d.unscaled x.pivots x.looks x.pool.width c.in-Some.run' is going c.step.ensures.kept c.step.new.self c.step.result c.step.ensures.steps in
    step-kept x.game.now x.pivots x.looks x.pool runs d i lt c.in-Some.run' at c.step.new.self two.0 two.1

pub returns-clause-step : goal.returns-clause-step
returns-clause-step c =
    let x = c.self.inside in
    let d = c.self.invariant in
    let runs = x.runs.items in
    let i = c.args.lane - 1 in
    let loads = ap (λ (v : DeskView). v.loads) c.self.view_is in
    let held = held-run runs c.args.self.now.loads c.args.lane false loads c.requires in
    let lt = lane-below runs c.args.self.now.loads c.args.lane loads c.requires.from_one c.requires.in_range in
    let at = sym (get_or_default runs i c.index_mut.result.now None lt) ∙ (sym c.index_mut.ensures.value ∙ c.in-Some.is) in
    let is = run-is x.game.now x.pivots x.looks x.pool runs d i lt c.in-Some.run' at in
    let going = ap (λ (r : Run). has_ended r.answer) (same-run c.in-Some.run' held.0 (sym at ∙ held.1.0)) ∙ held.1.2 in
    subst (λ (v : DeskView). IsStep (EndsNode v.game (listed_plays v.game v.pivots v.looks)) v.pivots v.loads (map load_of (slice_set c.self.inside.runs.items (c.args.lane - 1) (Some c.step.new.self))) c.args.lane c.step.result) c.self.view_is
    (step-told x.game.now c.promises.ensures d.unscaled x.pivots x.looks x.pool.width c.in-Some.run' is going c.step.ensures.kept c.step.new.self c.step.result c.step.ensures.steps _ _ c.args.lane
    (load-is runs c.args.lane c.requires.from_one ∙ ap load_of at) (loads-set runs i (Some c.step.new.self)))
