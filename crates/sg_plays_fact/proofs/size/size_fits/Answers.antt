use Rattle.std.proofs.Common.{◌≡◌, List, ℤ, map, subst, sym, ◌↔◌, refl, rules, of_z, to_z, pos}
use Rattle.std.specs.Prelude.{IsTrue}
use Rattle.std.specs.List.{All}
use Rattle.std.specs.Int.{w128}
use Rattle.std.proofs.lemmas.Int.{to_z-of_z}
use Rattle.sg_num.specs.Exact.{Fits}
use Rattle.sg_model.specs.Sums.{total}
use Rattle.sg_tree.specs.declared.fact.Fact.{Fact}
use Rattle.sg_tree.specs.declared.fact.Mark.{Mark}
use Rattle.sg_tree.specs.declared.fact.Line.{Line}
use Rattle.sg_bounds.specs.Sizes.{attacker_most, defender_most, fixed_priors, running, size_sums}
use Rattle.sg_plays_fact.specs.Sizing.{IsWhereAllFit}
use Rattle.sg_plays_fact.proofs.Formed.{same-numbers}
use Rattle.sg_plays_fact.proofs.size.size_fits.Goals as goal

pub returns-in-Plays : goal.returns-in-Plays
returns-in-Plays c =
    let g = c.args.game.now in
    let vs : List ℤ = map (λ (m : Mark). m.v) c.in-Plays.marks in
    let e : to_z w128 (of_z w128 c.in-Plays.rho) ≡ c.in-Plays.rho = search (rules, to_z-of_z) in
    let h = subst (λ (xs : List Mark). IsWhereAllFit c.marks_total-sum.result (running (pos 0) (map (λ (m : Mark). m.v) xs)) (total (λ v. v) (map (λ (m : Mark). m.v) xs))) c.as_slice.ensures c.marks_total-sum.ensures in
    subst (λ (f : Fact). IsTrue c.parts_fit.result ↔ All Fits (size_sums g c.args.fix.now f)) (sym c.in-Plays.is)
    (same-numbers c.parts_fit.result c.in-Plays.rho (fixed_priors g c.args.fix.now) (defender_most g) (attacker_most g) _ _ _ _ vs e refl refl refl (c.parts_fit.ensures vs h))

pub returns-in-Cover : goal.returns-in-Cover
returns-in-Cover c =
    let g = c.args.game.now in
    let vs : List ℤ = map (λ (m : Line). m.v) c.in-Cover.lines in
    let e : to_z w128 (of_z w128 c.in-Cover.rho) ≡ c.in-Cover.rho = search (rules, to_z-of_z) in
    let h = subst (λ (xs : List Line). IsWhereAllFit c.lines_total-sum.result (running (pos 0) (map (λ (m : Line). m.v) xs)) (total (λ v. v) (map (λ (m : Line). m.v) xs))) c.as_slice-in-Cover.ensures c.lines_total-sum.ensures in
    subst (λ (f : Fact). IsTrue c.parts_fit-in-Cover.result ↔ All Fits (size_sums g c.args.fix.now f)) (sym c.in-Cover.is)
    (same-numbers c.parts_fit-in-Cover.result c.in-Cover.rho (fixed_priors g c.args.fix.now) (defender_most g) (attacker_most g) _ _ _ _ vs e refl refl refl (c.parts_fit-in-Cover.ensures vs h))
