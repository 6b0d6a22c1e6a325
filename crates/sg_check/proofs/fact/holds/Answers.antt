use Rattle.std.proofs.Common.{◌≡◌, of_z, rules, subst, sym, to_z}
use Rattle.std.specs.Int.{w128}
use Rattle.std.specs.List.{All}
use Rattle.std.proofs.lemmas.Int.{to_z-of_z}
use Rattle.sg_num.specs.Exact.{Fits}
use Rattle.sg_tree.specs.declared.fact.Fact.{Fact}
use Rattle.sg_tree.specs.declared.fact.Fact.TheVariants.{Plays, Cover}
use Rattle.sg_bounds.specs.Sizes.{size_sums}
use Rattle.sg_check.proofs.fact.holds.Goals as goal

pub holds-requires-clause-size : goal.holds-requires-clause-size
holds-requires-clause-size c =
    let f = c.in-Plays in
    let rho : to_z w128 (of_z w128 f.rho) ≡ f.rho = search (rules, to_z-of_z) in
    let mu : to_z w128 (of_z w128 f.mu) ≡ f.mu = search (rules, to_z-of_z) in
    let size = subst (λ (x : Fact). All Fits (size_sums c.args.game.now c.args.fix.now x)) f.is c.requires.size in
    let same : Plays f.rho f.mu f.marks ≡ Plays (to_z w128 (of_z w128 f.rho)) (to_z w128 (of_z w128 f.mu)) c.as_slice.result.now = (λ i. Plays (sym rho i) (sym mu i) (sym c.as_slice.ensures i)) in
    subst (λ (x : Fact). All Fits (size_sums c.args.game.now c.args.fix.now x)) same size

pub holds-requires-in-Cover-clause-size : goal.holds-requires-in-Cover-clause-size
holds-requires-in-Cover-clause-size c =
    let f = c.in-Cover in
    let rho : to_z w128 (of_z w128 f.rho) ≡ f.rho = search (rules, to_z-of_z) in
    let mu : to_z w128 (of_z w128 f.mu) ≡ f.mu = search (rules, to_z-of_z) in
    let size = subst (λ (x : Fact). All Fits (size_sums c.args.game.now c.args.fix.now x)) f.is c.requires.size in
    let same : Cover f.rho f.mu f.lines ≡ Cover (to_z w128 (of_z w128 f.rho)) (to_z w128 (of_z w128 f.mu)) c.as_slice-in-Cover.result.now = (λ i. Cover (sym rho i) (sym mu i) (sym c.as_slice-in-Cover.ensures i)) in
    subst (λ (x : Fact). All Fits (size_sums c.args.game.now c.args.fix.now x)) same size
