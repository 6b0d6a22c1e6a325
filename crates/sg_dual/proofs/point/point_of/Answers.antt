use Rattle.std.proofs.Common.{◌≡◌, None, rules}
use Rattle.sg_num.specs.Operations.{first_wide}
use Rattle.sg_programs.specs.Points.{point_steps}
use Rattle.sg_dual.specs.Parts.{point_parts}
use Rattle.sg_dual.proofs.Duality.{one_value, parts_faultless, parts_reach}
use Rattle.sg_dual.proofs.point.point_of.Goals as goal

pub returns-in-Ok-clause-optimal : goal.returns-in-Ok-clause-optimal
returns-in-Ok-clause-optimal g c =
    let kept = c.state.ensures.kept in
    one_value (g.F.Family.program c.args.node.now.family) c.args.node.now.tableau kept.sized kept.state c.requires.done

pub returns-in-Err-clause-optimal : goal.returns-in-Err-clause-optimal
returns-in-Err-clause-optimal g c =
    let kept = c.state.ensures.kept in
    one_value (g.F.Family.program c.args.node.now.family) c.args.node.now.tableau kept.sized kept.state c.requires.done

pub returns-in-Ok-clause-reaches : goal.returns-in-Ok-clause-reaches
returns-in-Ok-clause-reaches g c = λ game fix h unscaled is_fix e.
    let p = g.F.Family.program c.args.node.now.family in
    let both : (first_wide (point_steps p c.args.node.now.tableau) ≡ None) × (c.in-Ok.parts.items ≡ point_parts p c.args.node.now.tableau) = search rules in
    let kept = c.state.ensures.kept in
    parts_reach (g.F.Family.program c.args.node.now.family) c.args.node.now.tableau kept.state c.requires.done game h unscaled fix is_fix e c.requires.some c.in-Ok.parts.items both.1

pub returns-in-Ok-clause-faultless : goal.returns-in-Ok-clause-faultless
returns-in-Ok-clause-faultless g c = λ game fix h unscaled is_fix e.
    let p = g.F.Family.program c.args.node.now.family in
    let both : (first_wide (point_steps p c.args.node.now.tableau) ≡ None) × (c.in-Ok.parts.items ≡ point_parts p c.args.node.now.tableau) = search rules in
    let kept = c.state.ensures.kept in
    parts_faultless (g.F.Family.program c.args.node.now.family) c.args.node.now.tableau kept.state c.requires.done game h unscaled fix is_fix e c.requires.some c.in-Ok.parts.items both.1 both.0
