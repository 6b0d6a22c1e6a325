use Rattle.std.proofs.Common.{rules, arith, ◌∙◌, ap, length}
use Rattle.std.specs.Int.{w64}
use Rattle.std.specs.Prelude.{FitsSigned}
use Rattle.std.proofs.lemmas.Int.{to_z-of_z}
use Rattle.sg_dobss.proofs.Held.{cost-of, costs-long, listed-by}
use Rattle.sg_dobss.proofs.listed.ListedFamily.cost.Goals as goal

pub place_of-k-requires-clause-listed : goal.place_of-k-requires-clause-listed
place_of-k-requires-clause-listed c = let s = c.self.inside in listed-by c.args.self.now (record { game = s.game.now; fix = s.fix }) c.self.view_is c.args.col.now c.requires

pub cost_in-requires : goal.cost_in-requires
cost_in-requires c =
    let s = c.self.inside in
    omega (arith, ap length c.as_slice.ensures, costs-long s.game.now s.fix s.count s.costs s.rows c.self.invariant, c.place_of-k.ensures.inside)

pub returns : goal.returns
returns c =
    let s = c.self.inside in
    let v = c.args.self.now in
    let fits : FitsSigned w64 c.cost_in.result = search rules in
    simp to_z-of_z (c.cost_in.ensures ∙ cost-of v (record { game = s.game.now; fix = s.fix }) s.count s.costs _ s.rows c.self.view_is c.self.invariant c.args.col.now c.place_of-k.result c.place_of-k.ensures.inside c.place_of-k.ensures.there c.as_slice.ensures)
