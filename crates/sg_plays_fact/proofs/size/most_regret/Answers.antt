use Rattle.std.proofs.Common.{◌≡◌, rules, of_z, to_z}
use Rattle.std.specs.Int.{w128}
use Rattle.std.proofs.lemmas.Int.{to_z-of_z}
use Rattle.sg_plays_fact.proofs.Formed.{regret-formed, regret-none}
use Rattle.sg_plays_fact.proofs.size.most_regret.Goals as goal

pub returns-in-Some : goal.returns-in-Some
returns-in-Some c =
    let e : to_z w128 (of_z w128 c.in-Some.total) ≡ c.in-Some.total = search (rules, to_z-of_z) in
    let k : to_z w128 (of_z w128 c.args.most) ≡ c.args.most = search (rules, to_z-of_z) in
    regret-formed c.multiplied.result c.args.total c.in-Some.total c.args.most _ _ c.in-Some.is e k c.multiplied.ensures

pub returns-in-None : goal.returns-in-None
returns-in-None c = regret-none c.args.total c.args.most c.in-None.is
