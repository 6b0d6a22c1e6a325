use Rattle.std.proofs.Common.{◌≡◌, ◌∙◌, map, Global, Vec}
use Rattle.sg_programs.specs.Points.{point_rows, point_steps}
use Rattle.sg_dual.specs.declared.part.Part.{Part}
use Rattle.sg_dual.specs.Parts.{part_of_share, point_parts, share_of_row, share_steps, common_whole}
use Rattle.sg_dual.proofs.Shared.{dens-some, fit-later, forms_through, parts-point, refuse-first, refuse-later}
use Rattle.sg_dual.proofs.point.formed.Goals as goal

pub parts_of-requires : goal.parts_of-requires
parts_of-requires g c =
    let p = g.F.Family.program c.args.family.now in
    let t = c.args.state.now.tableau in
    let all : c.as_slice.result.now ≡ map (share_of_row p t) (point_rows p t) = c.as_slice.ensures ∙ c.in-Ok.ensures.1 in
    dens-some p t c.as_slice.result.now c.in-Ok.ensures.0 all c.requires.sized c.requires.state

pub returns-in-Ok : goal.returns-in-Ok
returns-in-Ok g c =
    let p = g.F.Family.program c.args.family.now in
    let t = c.args.state.now.tableau in
    let shares = c.as_slice.result.now in
    let fit = c.in-Ok.ensures.0 in
    let all : c.as_slice.result.now ≡ map (share_of_row p t) (point_rows p t) = c.as_slice.ensures ∙ c.in-Ok.ensures.1 in
    forms_through (share_steps shares) (point_steps p t) (λ (parts : Vec Part Global). parts.items ≡ map (part_of_share (common_whole shares)) shares) (λ (parts : Vec Part Global). parts.items ≡ point_parts p t)
    (refuse-later p t shares fit all) (fit-later p t shares fit all) (λ parts e. parts-point p t shares fit all parts.items e) c.parts_of.result c.parts_of.ensures

pub returns-in-Err : goal.returns-in-Err
returns-in-Err g c = refuse-first (g.F.Family.program c.args.family.now) c.args.state.now.tableau c.in-Err.fault c.in-Err.ensures
