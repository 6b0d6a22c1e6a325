use Rattle.std.proofs.Common.{◌∙◌, ◌-◌, None, true, ap, sym, subst}
use Rattle.std.specs.Prelude.{IfOk}
use Rattle.std.proofs.lemmas.List.{get_or_default}
use Rattle.sg_programs.specs.NodeTests.{ClosesNode, StopsNode, listed_plays}
use Rattle.sg_work.specs.Works.{IsFinding}
use Rattle.sg_desk.specs.declared.run.Run.{Run}
use Rattle.sg_desk.specs.Desks.{DeskView}
use Rattle.sg_desk.specs.Runs.{IsOutcome, has_ended, load_of}
use Rattle.sg_desk.proofs.Answered.{IfOk-map}
use Rattle.sg_desk.proofs.Laned.{finding, held-run, lane-below, load-is, run-is, same-run, some-one}
use Rattle.sg_desk.proofs.working.DeskWork.finish.Goals as goal

pub finish-requires-clause-ended : goal.finish-requires-clause-ended
finish-requires-clause-ended c =
    let runs = c.self.inside.runs.items in
    let i = c.args.lane - 1 in
    let loads = ap (λ (v : DeskView). v.loads) c.self.view_is in
    let held = held-run runs c.args.self.now.loads c.args.lane true loads c.requires in
    let lt = lane-below runs c.args.self.now.loads c.args.lane loads c.requires.from_one c.requires.in_range in
    let at = sym (get_or_default runs i c.index.result.now None lt) ∙ (sym c.index.ensures ∙ c.in-Some.is) in
    ap (λ (r : Run). has_ended r.answer) (same-run c.in-Some.run' held.0 (sym at ∙ held.1.0)) ∙ held.1.2

pub unreachable-requires : goal.unreachable-requires
unreachable-requires c =
    let runs = c.self.inside.runs.items in
    let loads = ap (λ (v : DeskView). v.loads) c.self.view_is in
    let held = held-run runs c.args.self.now.loads c.args.lane true loads c.requires in
    let lt = lane-below runs c.args.self.now.loads c.args.lane loads c.requires.from_one c.requires.in_range in
    some-one held.0 (sym c.in-None.is ∙ (c.index.ensures ∙ (get_or_default runs (c.args.lane - 1) c.index.result.now None lt ∙ held.1.0)))

pub returns : goal.returns
returns c =
    let x = c.self.inside in
    let d = c.self.invariant in
    let runs = x.runs.items in
    let i = c.args.lane - 1 in
    let loads = ap (λ (v : DeskView). v.loads) c.self.view_is in
    let lt = lane-below runs c.args.self.now.loads c.args.lane loads c.requires.from_one c.requires.in_range in
    let at = sym (get_or_default runs i c.index.result.now None lt) ∙ (sym c.index.ensures ∙ c.in-Some.is) in
    let is = run-is x.game.now x.pivots x.looks x.pool runs d i lt c.in-Some.run' at in
    let here = load-is runs c.args.lane c.requires.from_one ∙ ap load_of at in
    subst (λ (v : DeskView). IfOk c.finish.result (IsFinding v.game (ClosesNode v.game (listed_plays v.game v.pivots v.looks)) (StopsNode v.game (listed_plays v.game v.pivots v.looks)) v.loads c.args.lane)) c.self.view_is
    (IfOk-map (IsOutcome x.game.now (listed_plays x.game.now x.pivots x.looks) c.in-Some.run'.fix) _ c.finish.result c.finish.ensures
    (finding x.game.now c.promises.ensures d.unscaled x.pivots x.looks x.pool.width c.in-Some.run' is _ c.args.lane here))
