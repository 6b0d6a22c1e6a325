use Rattle.std.proofs.Common.{◌≡◌, rules, of_z, to_z}
use Rattle.std.specs.Int.{w128}
use Rattle.std.proofs.lemmas.Int.{to_z-of_z}
use Rattle.sg_plays_fact.proofs.Formed.{no-gain, no-regret, no-sum}
use Rattle.sg_plays_fact.proofs.size.sum_fits.Goals as goal

pub returns-in-None : goal.returns-in-None
returns-in-None c =
    let e : to_z w128 (of_z w128 c.in-Some-Some.gain) ≡ c.in-Some-Some.gain = search (rules, to_z-of_z) in
    let f : to_z w128 (of_z w128 c.in-Some-Some.regret) ≡ c.in-Some-Some.regret = search (rules, to_z-of_z) in
    no-sum c.args.gain c.args.regret c.in-Some-Some.gain c.in-Some-Some.regret _ _ c.in-Some-Some.is-0 c.in-Some-Some.is-1 e f c.in-None.ensures

pub returns-in_default : goal.returns-in_default
returns-in_default c = no-regret c.args.gain c.args.regret c.in_default.is-1

pub returns-in_default-2 : goal.returns-in_default-2
returns-in_default-2 c = no-gain c.args.gain c.args.regret c.in_default.is-0
