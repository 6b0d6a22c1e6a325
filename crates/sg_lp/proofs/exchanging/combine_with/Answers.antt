use Rattle.std.proofs.Common.{◌≡◌, [], ◌∷◌, ◌++◌, List, ap, rules, pos, subst, sym, ◌∙◌, None}
use Rattle.std.specs.Int.{w128}
use Rattle.std.specs.Prelude.{FitsSigned, ℤ}
use Rattle.std.proofs.lemmas.Int.{to_z-of_z}
use Rattle.sg_num.specs.declared.step.Wide.{Wide}
use Rattle.sg_num.specs.Operations.{first_wide}
use Rattle.sg_rows.specs.Rows.{IsLowest, combine_steps, combined_rows}
use Rattle.sg_rows.proofs.Combined.{combine_steps-end, combined_rows-end}
use Rattle.sg_rows.proofs.Fitting.{back-fits, front-fits}
use Rattle.sg_lp.proofs.exchanging.combine_with.Goals as goal

pub combine_fitting-requires-clause-fits : goal.combine_fitting-requires-clause-fits
combine_fitting-requires-clause-fits c =
    let fp : FitsSigned w128 c.args.p = c.ranges.p in
    let fg : FitsSigned w128 c.args.gap = c.ranges.gap in
    let y = c.args.y.now in
    let other = c.args.other.now in
    let e = combine_steps-end c.args.p c.args.gap y other c.args.rho (pos 0) c.requires.long in
    let f = subst (λ (ws : List Wide). first_wide ws ≡ None) e c.requires.fits in
    simp to_z-of_z (front-fits (combine_steps c.args.p c.args.gap y other) (combine_steps c.args.p c.args.gap (c.args.rho ∷ []) (pos 0 ∷ [])) f)

pub scaled-last-requires : goal.scaled-last-requires
scaled-last-requires c =
    let fr : FitsSigned w128 c.args.rho = c.ranges.rho in
    let fp : FitsSigned w128 c.args.p = c.ranges.p in
    let fg : FitsSigned w128 c.args.gap = c.ranges.gap in
    let y = c.args.y.now in
    let other = c.args.other.now in
    let e = combine_steps-end c.args.p c.args.gap y other c.args.rho (pos 0) c.requires.long in
    let f = subst (λ (ws : List Wide). first_wide ws ≡ None) e c.requires.fits in
    simp to_z-of_z (back-fits (combine_steps c.args.p c.args.gap y other) (combine_steps c.args.p c.args.gap (c.args.rho ∷ []) (pos 0 ∷ [])) f)

pub returns : goal.returns
returns c =
    let fr : FitsSigned w128 c.args.rho = c.ranges.rho in
    let fp : FitsSigned w128 c.args.p = c.ranges.p in
    let fg : FitsSigned w128 c.args.gap = c.ranges.gap in
    let fl : FitsSigned w128 c.scaled-last.result = search rules in
    let fu : FitsSigned w128 c.primitive_with.result = search rules in
    let y = c.args.y.now in
    let other = c.args.other.now in
    let e = combined_rows-end c.args.p c.args.gap y other c.args.rho (pos 0) c.requires.long in
    let front = simp to_z-of_z at c.combine_fitting.ensures in
    let last = simp to_z-of_z at c.scaled-last.ensures in
    let low = simp to_z-of_z at c.primitive_with.ensures in
    let whole = ap (λ (z : List ℤ). z ++ (c.scaled-last.result ∷ [])) front ∙ ap (λ (z : ℤ). combined_rows c.args.p c.args.gap y other ++ (z ∷ [])) last ∙ sym e in
    simp to_z-of_z (subst (λ (z : List ℤ). IsLowest z (c.primitive_with.new.row ++ (c.primitive_with.result ∷ []))) whole low)
