use Rattle.std.proofs.Common.{◌∙◌, ◌+◌, ◌-◌, None, ap, slice_set, sym, subst}
use Rattle.std.proofs.lemmas.List.{get_or_default}
use Rattle.sg_programs.specs.Nodes.{NodeOf}
use Rattle.sg_lp.specs.Pooled.{GivesBack}
use Rattle.sg_desk.specs.Desks.{DeskView, IsDesk}
use Rattle.sg_desk.specs.Runs.{listed_program, load_of}
use Rattle.sg_desk.proofs.Laned.{clear-kept, lane-below, loads-set, run-is}
use Rattle.sg_desk.proofs.working.DeskWork.clear.Goals as goal

pub invariant_of-self : goal.invariant_of-self
invariant_of-self c =
    let x = c.self.inside in
    let d = c.self.invariant in
    let runs = x.runs.items in
    let i = c.args.lane - 1 in
    let loads = ap (λ (v : DeskView). v.loads) c.self.view_is in
    let lt = lane-below runs c.args.self.now.loads c.args.lane loads c.requires.from_one c.requires.in_range in
    let at = sym (get_or_default runs i c.index_mut.result.now None lt) ∙ (sym c.index_mut.ensures.value ∙ sym c.in-Some.ensures.value) in
    let is = run-is x.game.now x.pivots x.looks x.pool runs d i lt c.in-Some.run' at in
    let back = subst (λ (f : NodeOf). GivesBack x.pool c.close.new.pool ((listed_program f).height + 1)) is.family c.close.ensures in
    subst (λ o. IsDesk x.game.now x.pivots x.looks c.close.new.pool (slice_set runs i o)) (sym c.in-Some.ensures.after) (clear-kept x.game.now x.pivots x.looks x.pool runs d i lt c.in-Some.run' at c.close.new.pool back)

pub returns-in-Some-clause-cleared : goal.returns-in-Some-clause-cleared
returns-in-Some-clause-cleared c =
    let runs = c.self.inside.runs.items in
    let i = c.args.lane - 1 in
    let loads = ap (λ (v : DeskView). v.loads) c.self.view_is in
    loads-set runs i c.take.new.self ∙ (ap (λ xs. slice_set xs i (load_of c.take.new.self)) loads ∙ ap (λ o. slice_set c.args.self.now.loads i (load_of o)) c.in-Some.ensures.after)

pub returns-in-None-clause-cleared : goal.returns-in-None-clause-cleared
returns-in-None-clause-cleared c =
    let runs = c.self.inside.runs.items in
    let i = c.args.lane - 1 in
    let loads = ap (λ (v : DeskView). v.loads) c.self.view_is in
    loads-set runs i c.take.new.self ∙ (ap (λ xs. slice_set xs i (load_of c.take.new.self)) loads ∙ ap (λ o. slice_set c.args.self.now.loads i (load_of o)) c.in-None.ensures.after)
