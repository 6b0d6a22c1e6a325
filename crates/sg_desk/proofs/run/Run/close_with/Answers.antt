use Rattle.std.proofs.Common.{◌≡◌, None, Some, arith, ap, refl, subst}
use Rattle.std.proofs.lemmas.Int.{ints, to_z-of_z}
use Rattle.sg_num.specs.Operations.{first_wide}
use Rattle.sg_tree.specs.declared.fact.Fact.TheVariants.{Plays}
use Rattle.sg_tree.specs.declared.fix.Fix.{Fix}
use Rattle.sg_programs.specs.Nodes.{NodeOf}
use Rattle.sg_lp.specs.Moves.{NamedStep, first_shown}
use Rattle.sg_programs.specs.Plays.{plays_program}
use Rattle.sg_programs.specs.Points.{point_steps}
use Rattle.sg_programs.specs.Shown.{IsCommitmentAt, commitment_values, fact_at}
use Rattle.sg_search.specs.Results.{Reaches}
use Rattle.sg_desk.specs.Ending.{DoneTells, IsStuckAt, TellsAt}
use Rattle.sg_desk.proofs.Answered.{IfOk-map, point-shows, stuck-tells, tells-done}
use Rattle.sg_desk.proofs.run.Run.close_with.Goals as goal

pub returns-in-Ok : goal.returns-in-Ok
returns-in-Ok c =
    let a = c.args in
    let g = a.game.now in
    let r = a.self.now in
    let k = c.in-Ok.k in
    let e : r.node.family.fix ≡ r.fix = ap (λ (n : NodeOf). n.fix) c.requires.run.family in
    let at = subst (λ (x : Fix). (first_wide (point_steps (plays_program g x) r.node.tableau) ≡ None) × IsCommitmentAt g x r.node.tableau k) e c.in-Ok.ensures.formed in
    let reach = subst (λ (x : Fix). Reaches g x (fact_at g x r.node.tableau) k.tickets) e c.in-Ok.ensures.reaches in
    let o = first_shown (commitment_values g k.tickets) in
    IfOk-map (TellsAt r (Plays a.rho a.mu a.marks) k o) (DoneTells g r) c.close_at.result (simp (to_z-of_z, c.ranges.rho, c.ranges.mu) at c.close_at.ensures)
    (tells-done g r a.rho a.mu a.marks c.requires.fact c.requires.fits (omega (arith, ints, c.if-mu-lt1.false)) k at reach o refl)

pub returns-in-Err-Wide : goal.returns-in-Err-Wide
returns-in-Err-Wide c =
    let a = c.args in
    let g = a.game.now in
    let r = a.self.now in
    let e : r.node.family.fix ≡ r.fix = ap (λ (n : NodeOf). n.fix) c.requires.run.family in
    let wide = rw c.in-Err-Wide.field-0-is at c.in-Err-Wide.ensures.formed in
    let shown = subst (λ (x : Fix). first_wide (point_steps (plays_program g x) r.node.tableau) ≡ Some c.in-Err-Wide.wide) e wide in
    let s : NamedStep = record { name = 5; step = c.in-Err-Wide.wide } in
    IfOk-map (IsStuckAt r s) (DoneTells g r) c.wide.result c.wide.ensures (stuck-tells g r s (point-shows g r a.rho a.mu a.marks c.requires.fact c.requires.fits (omega (arith, ints, c.if-mu-lt1.false)) c.in-Err-Wide.wide shown))
