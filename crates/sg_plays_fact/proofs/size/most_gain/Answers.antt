use Rattle.std.proofs.Common.{◌≡◌, rules, of_z, to_z}
use Rattle.std.specs.Int.{w128}
use Rattle.std.proofs.lemmas.Int.{to_z-of_z}
use Rattle.sg_plays_fact.proofs.Formed.{gain-formed}
use Rattle.sg_plays_fact.proofs.size.most_gain.Goals as goal

pub returns-in-Some : goal.returns-in-Some
returns-in-Some c =
    let e : to_z w128 (of_z w128 c.args.rho) ≡ c.args.rho = search (rules, to_z-of_z) in
    let f : to_z w128 (of_z w128 c.args.priors) ≡ c.args.priors = search (rules, to_z-of_z) in
    let k : to_z w128 (of_z w128 c.args.most) ≡ c.args.most = search (rules, to_z-of_z) in
    let h = c.in-Some.ensures in
    gain-formed c.multiplied-in-Some.result c.args.rho c.args.priors c.args.most _ _ _ c.in-Some.share e f k h.0 h.1 c.multiplied-in-Some.ensures
