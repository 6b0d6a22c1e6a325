use Rattle.std.proofs.Common.{ap, arith, refl, Some}
use Rattle.std.specs.Int.{w64}
use Rattle.std.proofs.lemmas.Int.{to_z_pos}
use Rattle.sg_gen.proofs.Assembled.{free-parts}
use Rattle.sg_gen.proofs.made.free_parts.Goals as goal

pub returns : goal.returns
returns c =
    let drawn = c.in_ok-payoffs.ensures c.args.seed 0 (omega (arith, c.requires.0.at_most)) c.generator-rng.ensures in
    free-parts _ c.args.targets c.args.patrols c.args.seed c.in_ok-payoffs.payoffs.items refl refl (ap Some (to_z_pos w64 c.args.patrols (omega (arith, c.requires.1.at_most)))) c.in_ok-goals.ensures c.new.ensures.items c.new-2.ensures.items c.in_ok-types.ensures.seen c.in_ok-types.ensures.own c.in_ok-types.ensures.payoffs drawn.0
