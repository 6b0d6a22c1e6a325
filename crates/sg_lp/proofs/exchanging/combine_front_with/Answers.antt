use Rattle.std.proofs.Common.{◌≡◌, List, [], ◌∷◌, ◌++◌, arith, drop, length, pos, rules, subst, sym}
use Rattle.std.specs.Int.{w128}
use Rattle.std.specs.Prelude.{FitsSigned, ℤ}
use Rattle.std.proofs.lemmas.Int.{to_z-of_z}
use Rattle.std.proofs.lemmas.List.{length-take-le, take_at}
use Rattle.sg_rows.specs.Rows.{IsLowest, combined_rows}
use Rattle.sg_lp.specs.Exchanging.{denominated}
use Rattle.sg_lp.proofs.exchanging.combine_front_with.Goals as goal

pub returns : goal.returns
returns c =
    let fr : FitsSigned w128 c.args.rho = c.ranges.rho in
    let fp : FitsSigned w128 c.args.p = c.ranges.p in
    let fg : FitsSigned w128 c.args.gap = c.ranges.gap in
    let fu : FitsSigned w128 c.combine_with.result = search rules in
    let h = c.args.height in
    let places = c.args.places.now in
    let long : length c.combine_with.new.y ≡ h = omega (arith, length-take-le h places c.requires.wide) in
    let low = simp to_z-of_z at c.combine_with.ensures in
    simp to_z-of_z (subst (λ (z : List ℤ). IsLowest (combined_rows c.args.p c.args.gap (denominated h places c.args.rho) (c.args.other.now ++ (pos 0 ∷ []))) (z ++ (c.combine_with.result ∷ []))) (sym (take_at c.combine_with.new.y (drop h places) h long)) low)
