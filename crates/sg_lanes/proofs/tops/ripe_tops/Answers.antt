use Rattle.std.proofs.Common.{◌∙◌, ◌+◌, ap, sym, subst, List, Option}
use Rattle.sg_lanes.specs.declared.ripe.Ripe.{Ripe}
use Rattle.sg_lanes.specs.ProvedCaps.{only_worked}
use Rattle.sg_lanes.specs.Ripenings.{AreTopEntries, IsTopEntry}
use Rattle.sg_lanes.proofs.Toplevel.{tops-more, tops-none}
use Rattle.sg_lanes.proofs.tops.ripe_tops.Goals as goal
use Rattle.sg_lanes.proofs.tops.ripe_tops.Goals.{in-None, in-Some+in_ok-push-in-Some}

pub loop-i-preserved : goal.loop-i-preserved
loop-i-preserved c =
    let g = c.args.game.now in
    let s = only_worked c.args.worked.now in
    let v = c.args.value in
    let i = c.loop-i.i in
    elim c.match-branch-2.branch [
      | in-None w ↦ subst (λ (rs : List Ripe). AreTopEntries g s v (i + 1) rs) (sym (ap (λ (r : _). r.items) w.ripe-is)) (tops-none g s v i c.loop-i.ripe.items c.loop-i.invariant (subst (λ (o : Option Ripe). IsTopEntry g s v (i + 1) o) w.in-None.is c.in_ok-top_entry.ensures))
      | in-Some+in_ok-push-in-Some w ↦ subst (λ (rs : List Ripe). AreTopEntries g s v (i + 1) rs) (sym (ap (λ (r : _). r.items) w.ripe-is ∙ w.in_ok-push-in-Some.ensures.items))
          (tops-more g s v i c.loop-i.ripe.items w.in-Some.entry c.loop-i.invariant (subst (λ (o : Option Ripe). IsTopEntry g s v (i + 1) o) w.in-Some.is c.in_ok-top_entry.ensures))
    ]
