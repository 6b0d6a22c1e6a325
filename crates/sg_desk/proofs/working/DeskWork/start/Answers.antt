use Rattle.std.proofs.Common.{◌∙◌, ◌-◌, Some, ap, slice_set, sym, subst}
use Rattle.sg_bounds.specs.Regions.{IsNode}
use Rattle.sg_desk.specs.declared.run.Run.{Run}
use Rattle.sg_desk.specs.Desks.{DeskView}
use Rattle.sg_desk.specs.Runs.{load_of}
use Rattle.sg_desk.proofs.Laned.{free-lane, lane-below, loads-set, same-tests, start-kept, start-spare, start-wide}
use Rattle.sg_desk.proofs.working.DeskWork.start.Goals as goal

pub start-requires-clause-wide : goal.start-requires-clause-wide
start-requires-clause-wide c =
    let x = c.self.inside in
    let runs = x.runs.items in
    let loads = ap (λ (v : DeskView). v.loads) c.self.view_is in
    let lt = lane-below runs c.args.self.now.loads c.args.lane loads c.requires.free.from_one c.requires.free.in_range in
    let free = free-lane runs c.args.self.now.loads c.args.lane loads c.requires.free in
    let node = subst (λ (v : DeskView). IsNode v.game c.args.fix.now) (sym c.self.view_is) c.requires.node in
    start-wide x.game.now x.pivots x.looks x.pool runs c.self.invariant c.promises.ensures (c.args.lane - 1) lt free c.args.fix.now node

pub start-requires-clause-spare : goal.start-requires-clause-spare
start-requires-clause-spare c =
    let x = c.self.inside in
    let runs = x.runs.items in
    let loads = ap (λ (v : DeskView). v.loads) c.self.view_is in
    let lt = lane-below runs c.args.self.now.loads c.args.lane loads c.requires.free.from_one c.requires.free.in_range in
    let free = free-lane runs c.args.self.now.loads c.args.lane loads c.requires.free in
    let node = subst (λ (v : DeskView). IsNode v.game c.args.fix.now) (sym c.self.view_is) c.requires.node in
    start-spare x.game.now x.pivots x.looks x.pool runs c.self.invariant c.promises.ensures (c.args.lane - 1) lt free c.args.fix.now node

pub invariant_of-self-2 : goal.invariant_of-self-2
invariant_of-self-2 c =
    let x = c.self.inside in
    let runs = x.runs.items in
    let loads = ap (λ (v : DeskView). v.loads) c.self.view_is in
    let lt = lane-below runs c.args.self.now.loads c.args.lane loads c.requires.free.from_one c.requires.free.in_range in
    let free = free-lane runs c.args.self.now.loads c.args.lane loads c.requires.free in
    let node = subst (λ (v : DeskView). IsNode v.game c.args.fix.now) (sym c.self.view_is) c.requires.node in
    start-kept x.game.now x.pivots x.looks x.pool runs c.self.invariant c.promises.ensures (c.args.lane - 1) lt free c.args.fix.now node c.in_ok-run.run' c.start.new.pool c.in_ok-run.ensures.started c.in_ok-run.ensures.taken

pub returns-clause-started : goal.returns-clause-started
returns-clause-started c =
    let runs = c.self.inside.runs.items in
    let loads = ap (λ (v : DeskView). v.loads) c.self.view_is in
    let i = c.args.lane - 1 in
    loads-set runs i (Some c.in_ok-run.run') ∙ (ap (λ xs. slice_set xs i (load_of (Some c.in_ok-run.run'))) loads ∙ ap (λ (r : Run). slice_set c.args.self.now.loads i (load_of (Some r))) c.in_ok-run.ensures.started)

pub returns-clause-tests : goal.returns-clause-tests
returns-clause-tests c = same-tests _ _ (sym c.self.view_is)
